-- `railway_acceptance::sides_of` meets its contract. The loop's invariant: the sides of all points before n are filled in.
-- Assumes nothing.
use mathlib.Core.Path.{◌≡◌}
use Rattle.laws.proofs.Filling.{FilledTo}
use Rattle.railway.specs.declared.Railway.{Railway}
use Rattle.railway.specs.Bounds.{most_points}
use Rattle.railway.specs.Ends.{side_index}
use Rattle.railway.specs.Record.{legs_of}
use Rattle.railway_acceptance.proofs.sides_of.Given as goal

abbrev pub invariant-loop-n : goal.invariant-loop-n
invariant-loop-n l =
    (r : Railway) → r.legs ≡ l.legs → r.points ≡ l.p → FilledTo (λ m. side_index (legs_of r m)) most_points l.sides l.n
