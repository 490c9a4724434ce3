-- `railway_acceptance::look` meets its contract. The loop's invariant: it has noted what rows 4 and 5 find before i. A join
-- that has been met from its other end tells nothing new. Assumes nothing.
use native.Mathlib.Omega.{arith}
use mathlib.Core.Path.{◌≡◌}
use Rattle.railway.specs.Bounds.{all_ends}
use Rattle.railway_acceptance.proofs.Bytes.{looked-none, looked-again, looked-next}
use Rattle.railway_acceptance.proofs.look.Goals.{then-not-is_seen, else-not-is_seen}
use Rattle.railway_acceptance.proofs.look.Goals as goal

pub loop-i-init : goal.loop-i-init
loop-i-init c = λ r h. looked-none r

pub loop-i-preserved : goal.loop-i-preserved
loop-i-preserved c = λ r h. elim c.if-not-is_seen.branch [
  | then-not-is_seen w ↦
      rw (w.unknown-is, w.wrong-is, w.unreturned-is)
      (looked-next r _ _ _ _ _ _ _ (c.loop-i.invariant r h) (w.unknown_link-unknown.ensures r h.linked h.counts)
      (w.wrong_link-wrong.ensures r h.linked h.sided) (w.is_unreturned-unreturned.ensures r h.linked))
  | else-not-is_seen w ↦
      rw (w.unknown-is, w.wrong-is, w.unreturned-is)
      (looked-again r _ _ _ _ _ (c.loop-i.invariant r h) c.loop-i-test.true (c.is_seen.ensures r h.linked)
      w.if-not-is_seen.false)
]

pub returns : goal.returns
returns c = λ r h. let e : c.loop-i.i ≡ all_ends = omega arith in rw e at (c.loop-i.invariant r h)
