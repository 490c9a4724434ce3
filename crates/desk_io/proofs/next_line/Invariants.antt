-- `desk_io::next_line` meets its contract, and ends: its turns are counted. What is kept of the line stands at the front of the buffer.
-- Assumes nothing.
use Rattle.desk_io.proofs.Followed.{Kept}
use Rattle.desk_io.proofs.next_line.Given as goal

abbrev pub invariant-loop-i : goal.invariant-loop-i
invariant-loop-i l = Kept l.initial.line l.line l.n
