-- `advice_text::case_advice` meets its contract: refused by the reader, or the line for the railway that was read. Assumes nothing.
use mathlib.Core.Path.{refl}
use Rattle.advice_text.proofs.Lines.{case-refused, case-accepted}
use Rattle.advice_text.proofs.case_advice.Goals as goal

pub returns-in-Err : goal.returns-in-Err
returns-in-Err c = case-refused _ _ c.in-Err.ensures _ _ _ _ refl c.refusal_line.ensures

pub returns-in-Ok : goal.returns-in-Ok
returns-in-Ok c = case-accepted _ _ c.in-Ok.ensures _ _ _ refl c.railway_advice.ensures
