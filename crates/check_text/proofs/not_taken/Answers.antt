-- `check_text::not_taken` meets its contract: the case is refused, or the plan's form is.
-- Assumes nothing.
use Rattle.std.proofs.Common.{refl, sym, ap}
use Rattle.std.proofs.lemmas.Result.{err_from_is_err_and}
use Rattle.game_case.proofs.Cases.{opened-refused, opened-none}
use Rattle.check_text.specs.Pieces.{form_refused}
use Rattle.check_text.proofs.not_taken.Goals as goal

pub returns-in_err-open_case : goal.returns-in_err-open_case
returns-in_err-open_case c =
    let p = err_from_is_err_and c.from_residual.result c.from_residual.ensures.1 in
    rw (p.1, p.2) (ap form_refused (sym (opened-refused c.in_err-open_case.ensures refl)))

pub returns : goal.returns
returns c = ap form_refused (sym (opened-none c.in_ok-open_case.ensures refl))
