-- `text::append::bytes` meets its contract. The loop's invariant: the bytes in front are written, and the buffer is as
-- long as it was. Assumes nothing.
use Rattle.std.proofs.Common.{refl, ◌∙◌}
use Rattle.text.proofs.Appending.{append-none, append-next}
use Rattle.text.proofs.append.bytes.Goals as goal

pub loop-b-init : goal.loop-b-init
loop-b-init c = (append-none c.args.out.now c.args.at, refl)

pub loop-b-preserved : goal.loop-b-preserved
loop-b-preserved c = (
  append-next c.args.text.now c.loop-b.b-index c.loop-b-test.true c.loop-b.invariant.0 c.byte-next.ensures,
  c.byte-next.auto.out ∙ c.loop-b.invariant.1,
)
