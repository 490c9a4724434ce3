-- `plan_judge::some_may` meets its contract. The loop's invariant: no train before t may move.
-- Assumes nothing.
use mathlib.Core.Path.{◌≡◌}
use mathlib.Core.Bool.{false}
use Prim.Native.Nat.{ℕ}
use Rattle.laws.specs.Below.{any_below}
use Rattle.railway.specs.declared.Railway.{Railway}
use Rattle.game.specs.Game.{may}
use Rattle.game.specs.Moves.{game_of}
use Rattle.game_tables.specs.Entries.{setting_at}
use Rattle.game_moves.specs.Steps.{On}
use Rattle.plan_judge.proofs.some_may.Given as goal

abbrev pub invariant-loop-t : goal.invariant-loop-t
invariant-loop-t l = (r : Railway) (p : ℕ) → On r p l.table l.q → any_below (may (game_of r) p (setting_at r p l.v)) l.t ≡ false
