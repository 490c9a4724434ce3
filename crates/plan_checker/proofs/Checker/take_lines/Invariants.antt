-- `plan_checker::Checker::take_lines` meets its contract. The loop's invariant: the lines taken so far, and those that are taken from the place reached on,
-- are all that are taken. The place is where a line begins, so each turn reads a whole line; and what is taken was read, so that its end is known.
-- Assumes nothing.
use mathlib.Core.Path.{◌≡◌}
use mathlib.Core.Option.{none}
use Prim.Native.Nat.{◌-◌}
use lib.ListN.{length}
use Rattle.railway.specs.declared.Railway.{Railway}
use Rattle.game_tables.specs.Tables.{case_refusal}
use Rattle.railway_compiled.specs.Table.{Compiled}
use Rattle.plan.specs.Several.{lines_of, front_of}
use Rattle.plan_checker.specs.Answers.{checking}
use Rattle.plan_checker.proofs.Fronts.{Fronting}
use Rattle.plan_checker.proofs.Checker.take_lines.Given as goal

abbrev pub invariant-loop-at : goal.invariant-loop-at
invariant-loop-at l =
    (length l.figures ≡ length l.initial.figures) × (length l.settings ≡ length l.initial.settings)
    × ((r : Railway) → Compiled r l.table → case_refusal r l.initial.figures l.initial.settings ≡ none
    → Fronting r l.text (front_of r (lines_of l.text) (checking l.initial.self l.initial.figures l.initial.settings)) l.at (checking l.self l.figures l.settings))

abbrev pub decreases-loop-at : goal.decreases-loop-at
decreases-loop-at l = length l.text - l.at
