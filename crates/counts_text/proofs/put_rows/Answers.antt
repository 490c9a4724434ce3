-- `counts_text::put_rows` meets its contract. The loop's invariant: the rows before b are written, and the buffer is as long as it was.
-- Assumes nothing.
use native.Mathlib.Omega.{arith}
use mathlib.Core.Path.{refl, ◌∙◌}
use Rattle.text.proofs.Appending.{pieces_none, pieces-next}
use Rattle.counts_text.specs.Chart.{figure_row}
use Rattle.counts_text.proofs.Chart.{first_small}
use Rattle.counts_text.proofs.put_rows.Goals as goal

pub loop-b-init : goal.loop-b-init
loop-b-init c = (pieces_none (figure_row c.args.h c.args.s c.args.counts.now), refl)

pub overflow_mul-b : goal.overflow_mul-b
overflow_mul-b c = omega (arith, first_small c.args.s c.loop-b.b (omega arith) (omega arith))

pub put_row-next-requires : goal.put_row-next-requires
put_row-next-requires c = first_small c.args.s c.loop-b.b (omega arith) (omega arith)

pub loop-b-preserved : goal.loop-b-preserved
loop-b-preserved c = (
  pieces-next (figure_row c.args.h c.args.s c.args.counts.now) c.loop-b.b c.loop-b.invariant.0 c.put_row-next.ensures,
  c.put_row-next.auto.out ∙ c.loop-b.invariant.1,
)
