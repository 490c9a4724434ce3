-- `counts_text::put_rows` meets its contract. The loop's invariant: the rows before b are written, and the buffer is as long as it was.
-- Assumes nothing.
use mathlib.Core.Path.{◌≡◌}
use lib.ListN.{length}
use Rattle.laws.specs.Below.{gather_below}
use Rattle.text.specs.Appending.{Appended}
use Rattle.counts_text.specs.Chart.{figure_row}
use Rattle.counts_text.proofs.put_rows.Given as goal

abbrev pub invariant-loop-b : goal.invariant-loop-b
invariant-loop-b l = Appended l.initial.out l.at (gather_below (figure_row l.h l.s l.counts) l.b) l.out l.next × (length l.out ≡ length l.initial.out)
