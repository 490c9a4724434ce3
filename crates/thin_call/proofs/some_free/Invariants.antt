-- `thin_call::some_free` meets its contract. The loop's invariant: no train before t is free.
-- Assumes nothing.
use mathlib.Core.Path.{◌≡◌}
use mathlib.Core.Bool.{false}
use Prim.Native.Nat.{ℕ}
use Rattle.laws.specs.Below.{any_below}
use Rattle.railway.specs.declared.Railway.{Railway}
use Rattle.game.specs.Setting.{free}
use Rattle.game_moves.specs.Steps.{On}
use Rattle.thin_call.proofs.some_free.Given as goal

abbrev pub invariant-loop-t : goal.invariant-loop-t
invariant-loop-t l = (r : Railway) (p : ℕ) → On r p l.table l.q → any_below (free r p) l.t ≡ false
