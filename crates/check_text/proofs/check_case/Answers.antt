-- `check_text::check_case` meets its contract: refused by the reader, or what the plan is answered for the railway that was read.
-- Assumes nothing.
use mathlib.Core.Path.{refl}
use Rattle.std.proofs.lemmas.Result.{err_from_is_err_and}
use Rattle.case_reader.proofs.Answers.{by-refused, by-accepted}
use Rattle.check_text.proofs.check_case.Goals as goal

pub returns-in_err-r : goal.returns-in_err-r
returns-in_err-r c =
    let p = err_from_is_err_and c.from_residual.result c.from_residual.ensures.1 in
    rw (p.1, p.2) (by-refused _ _ _ _ c.in_err-r.ensures _ refl refl)

pub returns : goal.returns
returns c = by-accepted _ _ _ _ c.in_ok-r.ensures refl c.check_plan.ensures
