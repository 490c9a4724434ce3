-- `test_script::run_script` meets its contract: by what the reader answers to the case text.
-- Assumes nothing.
use mathlib.Core.Path.{refl}
use Rattle.case_reader.proofs.Answers.{by-refused, by-accepted}
use Rattle.test_script.proofs.run_script.Goals as goal

pub returns-in-Err : goal.returns-in-Err
returns-in-Err c = by-refused _ _ _ _ c.in-Err.ensures _ refl refl

pub returns-in-Ok : goal.returns-in-Ok
returns-in-Ok c = by-accepted _ _ _ _ c.in-Ok.ensures refl refl
