-- `runs_text::case_runs` meets its contract: refused by the reader, or what is put for the railway that was read. Assumes nothing.
use mathlib.Core.Path.{refl}
use Rattle.runs_text.proofs.Cases.{case-refused, case-accepted, read-accepted}
use Rattle.runs_text.proofs.case_runs.Goals as goal

pub railway_runs-requires : goal.railway_runs-requires
railway_runs-requires c = read-accepted _ _ c.in-Ok.ensures refl

pub returns-in-Err : goal.returns-in-Err
returns-in-Err c = case-refused _ _ c.in-Err.ensures _ _ _ _ refl c.refusal_line.ensures

pub returns-in-Ok : goal.returns-in-Ok
returns-in-Ok c = case-accepted _ _ c.in-Ok.ensures _ _ _ refl c.railway_runs.ensures
