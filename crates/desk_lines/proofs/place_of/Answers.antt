-- `desk_lines::place_of` meets its contract, by the number.
-- Assumes nothing.
use Rattle.desk_lines.proofs.Reports.{place_none, place-beyond, place-there}
use Rattle.desk_lines.proofs.place_of.Goals as goal

pub returns-then-n-eq0 : goal.returns-then-n-eq0
returns-then-n-eq0 c = place_none _ c.if-n-eq0.true

pub returns-then-n-gt255 : goal.returns-then-n-gt255
returns-then-n-gt255 c = place-beyond _ c.if-n-eq0.false c.if-n-gt255.true

pub returns : goal.returns
returns c = place-there _ c.if-n-eq0.false c.if-n-gt255.false
