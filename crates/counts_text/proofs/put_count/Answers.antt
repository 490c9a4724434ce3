-- `counts_text::put_count` meets its contract: the number, the bar and the end of the line.
-- Assumes nothing.
use Rattle.counts_text.proofs.Chart.{count-made}
use Rattle.counts_text.proofs.put_count.Goals as goal

pub returns : goal.returns
returns c = count-made c.args.h c.args.c _ c.marks_of.ensures c.number-marks.ensures c.put_marks-end.ensures c.byte.ensures
