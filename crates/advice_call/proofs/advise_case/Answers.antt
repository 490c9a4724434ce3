-- `advice_call::advise_case` meets its contract: every end has a signal, or the first that has none helps, and the case is solved; or it does not, and by that the case itself has no figure, and
-- the ends behind it are tried. Assumes nothing.
use native.Mathlib.Omega.{arith}
use Rattle.advice_call.proofs.Tries.{untouched, first-tried, first-useless}
use Rattle.advice_call.proofs.advise_case.Goals as goal

pub returns-then-r-i : goal.returns-then-r-i
returns-then-r-i c =
    let figs = c.args.figures.now in
    let sets = c.args.settings.now in
    λ fine.
    c.solve_case.ensures figs sets
    (elim c.then-r-i.branch [
      | goal.then-r-i-via-then-r-i w ↦
          rw (w.figures-is, w.settings-is) (untouched c.args.r _ figs sets figs sets c.first_bare-i.ensures fine)
      | goal.then-r-i-via-else-r-i+then-try_end w ↦
          rw (w.figures-is, w.settings-is)
          (first-tried c.args.r _ figs sets _ _ c.first_bare-i.ensures _ (omega (arith, w.if-r-i.false)) fine w.try_end.ensures)
    ])

pub returns : goal.returns
returns c =
    λ fine.
    c.try_ends.ensures c.args.figures.now c.args.settings.now
    (first-useless c.args.r _ c.args.figures.now c.args.settings.now _ _ c.first_bare-i.ensures _
    (omega (arith, c.if-r-i.false)) fine c.if-try_end.false c.try_end.ensures)
