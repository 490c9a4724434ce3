-- `solver_api::test_plan` meets its contract: refused by the reader, or what the checker answers for the railway that was read. Assumes nothing.
use mathlib.Core.Path.{refl}
use Rattle.case_reader.proofs.Answers.{by-refused, by-accepted}
use Rattle.solver_api.proofs.test_plan.Goals as goal

pub returns-in-Err : goal.returns-in-Err
returns-in-Err c = by-refused _ _ _ _ c.in-Err.ensures _ refl c.number.ensures

pub returns-in-Ok : goal.returns-in-Ok
returns-in-Ok c = by-accepted _ _ _ _ c.in-Ok.ensures refl c.test_railway.ensures
