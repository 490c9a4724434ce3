-- `check_files::answer_to` meets its contract: refused by the reader, or what the plan is answered.
-- Assumes nothing.
use native.Mathlib.Omega.{arith}
use mathlib.Core.Path.{refl}
use Rattle.case_reader.proofs.Answers.{by-refused, by-accepted}
use Rattle.check_files.proofs.answer_to.Goals as goal

pub returns-in-Err : goal.returns-in-Err
returns-in-Err g c = (omega arith, by-refused _ _ _ _ c.in-Err.ensures _ refl refl)

pub returns-in-Ok : goal.returns-in-Ok
returns-in-Ok g c = (c.check_plan.ensures.0, by-accepted _ _ _ _ c.in-Ok.ensures refl c.check_plan.ensures.1)
