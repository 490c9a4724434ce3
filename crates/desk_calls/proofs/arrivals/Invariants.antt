-- `desk_calls::arrivals` meets its contract. The loop's invariant: n of the trains before t have arrived.
-- Assumes nothing.
use mathlib.Core.Path.{◌≡◌}
use Prim.Native.Nat.{ℕ, ◌≤◌}
use Rattle.laws.specs.Below.{count_below}
use Rattle.railway.specs.declared.Railway.{Railway}
use Rattle.game.specs.Placement.{arrived}
use Rattle.game_moves.specs.Steps.{On}
use Rattle.desk_calls.proofs.arrivals.Given as goal

abbrev pub invariant-loop-t : goal.invariant-loop-t
invariant-loop-t l = (l.n ≤ l.t) × ((r : Railway) (p : ℕ) → On r p l.table l.q → l.n ≡ count_below (arrived r p) l.t)
