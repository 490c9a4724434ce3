-- `runs_tables::row_from` meets its contract: the row of a section that is not there has no run; else levels are filled from the section itself on. That sections are no more than there can be is
-- known of every accepted record. Assumes nothing.
use mathlib.Core.Path.{refl}
use native.Mathlib.Omega.{arith}
use Rattle.runs_tables.proofs.Steps.{few, row-begun, row_done, row-none}
use Rattle.runs_tables.proofs.row_from.Goals as goal

pub returns-then-sections-x : goal.returns-then-sections-x
returns-then-sections-x c = λ r h.
    elim c.then-sections-x.branch [
      | goal.then-sections-x-via-then-sections-x w ↦ row-none r _ _ _ _ h _ w.if-sections-x.true refl
      | goal.then-sections-x-via-else-sections-x+then-x-ge-SECTIONS w ↦ row-none r _ _ _ _ h _ (omega (arith, w.if-x-ge-SECTIONS.true, few h)) refl
    ]

pub returns : goal.returns
returns c =
    λ r h. row_done r c.args.heading c.args.x c.args.sections c.args.ways.now h _ (c.levels.ensures r c.args.x h
    (row-begun r c.args.heading c.args.x c.args.sections c.args.ways.now h _ (omega (arith, c.if-sections-x.false)) refl))
