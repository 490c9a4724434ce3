-- `thin_io::whole_text` meets its contract: there is room for every text, so one is put, whole.
-- Assumes nothing.
use native.Mathlib.Omega.{arith}
use Rattle.answer_lines.proofs.Puts.{puts_whole, puts-never}
use Rattle.thin_io.proofs.whole_text.Goals as goal

pub returns-in-Ok : goal.returns-in-Ok
returns-in-Ok c = puts_whole c.lean_text.ensures _ c.in-Ok.is

pub returns-in-Err : goal.returns-in-Err
returns-in-Err c = puts-never c.lean_text.ensures (omega (arith, c.requires)) _ c.in-Err.is
