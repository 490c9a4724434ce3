-- `railway_routes::section_by` meets its contract. The loop's invariant: the place is that of a way's number, and no way before it is suited. The way that is suited
-- leads to the section that is entered, and where none is, none is. Assumes nothing.
use mathlib.Core.Path.{◌≡◌}
use Prim.Native.Nat.{◌+◌, ◌-◌, ◌*◌, ◌≤◌}
use Rattle.railway_routes.proofs.Walking.{Walked}
use Rattle.railway_routes.proofs.section_by.Given as goal

abbrev pub invariant-loop-at : goal.invariant-loop-at
invariant-loop-at l = (l.first ≡ 48 * l.e) × (l.at ≤ 48 * l.e + 48) × Walked l.ways l.e l.points l.at

abbrev pub decreases-loop-at : goal.decreases-loop-at
decreases-loop-at l = 48 * l.e + 48 - l.at
