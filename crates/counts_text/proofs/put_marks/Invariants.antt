-- `counts_text::put_marks` meets its contract. The loop's invariant: so many marks are written, and the buffer is as long as it was.
-- Assumes nothing.
use mathlib.Core.Path.{◌≡◌}
use lib.ListN.{length}
use Rattle.laws.specs.Below.{gather_below}
use Rattle.text.specs.Appending.{Appended}
use Rattle.counts_text.specs.Chart.{mark_piece}
use Rattle.counts_text.proofs.put_marks.Given as goal

abbrev pub invariant-loop-i : goal.invariant-loop-i
invariant-loop-i l = Appended l.initial.out l.at (gather_below mark_piece l._i) l.out l.next × (length l.out ≡ length l.initial.out)
