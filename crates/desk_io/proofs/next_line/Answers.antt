-- `desk_io::next_line` meets its contract, and ends: its turns are counted. What is kept of the line stands at the front of the buffer.
-- Assumes nothing.
use Rattle.desk_io.proofs.Followed.{kept-none, kept_next, kept-counts}
use Rattle.desk_io.proofs.next_line.Goals as goal

pub loop-i-init : goal.loop-i-init
loop-i-init c = kept-none _

pub returns-then-b-eq-LINE_END : goal.returns-then-b-eq-LINE_END
returns-then-b-eq-LINE_END c = kept-counts c.loop-i.invariant

pub loop-i-preserved : goal.loop-i-preserved
loop-i-preserved c = kept_next c.loop-i.invariant _ _ _ c.byte-n.ensures c.byte-n.auto.out
