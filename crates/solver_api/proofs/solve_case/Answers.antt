-- `solver_api::solve_case` meets its contract: refused by the reader, or the solver's answer for the railway that was read. Assumes nothing.
use mathlib.Core.Path.{refl}
use Rattle.case_reader.proofs.Answers.{by-refused, by-accepted}
use Rattle.solver_api.proofs.solve_case.Goals as goal

pub returns-in-Err : goal.returns-in-Err
returns-in-Err c =
    by-refused _ _ _ _ c.in-Err.ensures _ refl
    (c.number.ensures, refl, refl)

pub returns-in-Ok : goal.returns-in-Ok
returns-in-Ok c =
    by-accepted _ _ _ _ c.in-Ok.ensures refl
    c.solve_railway.ensures
