-- `advice_call::solve_case` meets its contract: the case is not refused; its start has a figure, or the ends from the given one on are tried. Assumes nothing.
use mathlib.Core.Path.{◌∙◌, ap}
use Rattle.std.specs.Prelude.{Option, Ok}
use Rattle.std.proofs.lemmas.Result.{err_from_is_err_and}
use Rattle.advice_call.proofs.Tries.{case-refused, case-figure, case-unsolved}
use Rattle.advice_call.proofs.solve_case.Goals as goal

pub returns-in_err-solve : goal.returns-in_err-solve
returns-in_err-solve c =
    let p = err_from_is_err_and c.from_residual.result c.from_residual.ensures.1 in
    λ figs sets u.
    rw (p.1, p.2) (case-refused c.args.r c.args.i c.args.figures.now c.args.settings.now _ _ _ c.solve.ensures figs sets u _ c.in_err-solve.was)

pub returns-in-Some : goal.returns-in-Some
returns-in-Some c =
    λ figs sets u.
    case-figure c.args.r c.args.i c.args.figures.now c.args.settings.now _ _ _ c.solve.ensures
    figs sets u _ (c.in_ok-solve.was ∙ ap Ok c.in-Some.is)

pub returns-in-None : goal.returns-in-None
returns-in-None c =
    λ figs sets u.
    c.try_ends.ensures figs sets (case-unsolved c.args.r c.args.i c.args.figures.now
    c.args.settings.now _ _ _ c.solve.ensures figs sets u (c.in_ok-solve.was ∙ ap Ok c.in-None.is))
