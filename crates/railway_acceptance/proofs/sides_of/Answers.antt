-- `railway_acceptance::sides_of` meets its contract. The loop's invariant: the sides of all points before n are filled in.
-- Assumes nothing.
use native.Mathlib.Omega.{arith}
use Rattle.laws.proofs.Filling.{fill-next}
use Rattle.railway.specs.Bounds.{most_points}
use Rattle.railway.specs.Ends.{side_index}
use Rattle.railway.specs.Record.{legs_of}
use Rattle.railway_acceptance.proofs.Bytes.{legs-next, all-sided}
use Rattle.railway_acceptance.proofs.sides_of.Goals as goal

pub loop-n-preserved : goal.loop-n-preserved
loop-n-preserved c =
    λ r h k.
    fill-next (λ m. side_index (legs_of r m)) most_points _ _ (c.loop-n.invariant r h k) _ c.loop-n-test.true
    (legs-next r _ _ _ _ h k c.legs_index.ensures)

pub returns : goal.returns
returns c = λ r h k. all-sided r _ _ (c.loop-n.invariant r h k) (omega arith)
