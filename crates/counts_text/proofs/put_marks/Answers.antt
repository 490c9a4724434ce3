-- `counts_text::put_marks` meets its contract. The loop's invariant: so many marks are written, and the buffer is as long as it was.
-- Assumes nothing.
use mathlib.Core.Path.{refl, ◌∙◌}
use Rattle.text.proofs.Appending.{pieces_none, pieces-next}
use Rattle.counts_text.specs.Chart.{mark_piece}
use Rattle.counts_text.proofs.put_marks.Goals as goal

pub loop-i-init : goal.loop-i-init
loop-i-init c = (pieces_none mark_piece, refl)

pub loop-i-preserved : goal.loop-i-preserved
loop-i-preserved c = (
  pieces-next mark_piece c.loop-i._i c.loop-i.invariant.0 c.byte-next.ensures,
  c.byte-next.auto.out ∙ c.loop-i.invariant.1,
)
