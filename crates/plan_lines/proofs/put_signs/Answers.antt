-- `plan_lines::put_signs` meets its contract. The loop's invariant: the pieces before n are written, and the buffer is as long as it was.
-- Assumes nothing.
use native.Mathlib.Omega.{arith}
use mathlib.Core.Path.{refl, ◌∙◌}
use Rattle.text.proofs.Appending.{pieces_none, pieces-next, pieces-all}
use Rattle.laws.specs.Bits.{bit}
use Rattle.plan_lines.specs.Spelling.{point_piece}
use Rattle.plan_lines.proofs.Spelling.{sign-piece}
use Rattle.plan_lines.proofs.put_signs.Goals as goal

pub loop-n-init : goal.loop-n-init
loop-n-init c = (pieces_none (point_piece (bit c.args.v)), refl)

pub loop-n-preserved : goal.loop-n-preserved
loop-n-preserved c = (
  pieces-next (point_piece (bit c.args.v)) c.loop-n.n c.loop-n.invariant.0 (sign-piece (bit c.args.v) c.loop-n.n _ _
      c.bit_at.ensures c.sign.ensures c.byte-next.ensures),
  c.byte-next.auto.out ∙ c.loop-n.invariant.1,
)

pub returns : goal.returns
returns c = pieces-all (point_piece (bit c.args.v)) c.loop-n.n c.args.m (omega arith) (omega arith) c.loop-n.invariant.0
