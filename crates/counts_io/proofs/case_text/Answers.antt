-- `counts_io::case_text` meets its contract: refused by the reader, or what is written for the railway that was read.
-- Assumes nothing.
use mathlib.Core.Path.{refl}
use Rattle.counts_io.proofs.Shown.{case-refused, case-accepted}
use Rattle.counts_io.proofs.case_text.Goals as goal

pub returns-in-Err : goal.returns-in-Err
returns-in-Err c = case-refused _ _ c.in-Err.ensures _ refl c.refused_text.ensures

pub returns-in-Ok : goal.returns-in-Ok
returns-in-Ok c = case-accepted _ _ c.in-Ok.ensures refl c.railway_text.ensures
