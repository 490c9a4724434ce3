-- `plan_judge::opens_signalled` meets its contract. The loop's invariant: every open train before t has its signal.
-- Assumes nothing.
use mathlib.Core.Path.{◌≡◌}
use mathlib.Core.Bool.{true}
use Prim.Native.Nat.{ℕ}
use Rattle.laws.specs.Below.{all_below}
use Rattle.railway.specs.declared.Railway.{Railway}
use Rattle.game_moves.specs.Steps.{On}
use Rattle.plan_judge.specs.Steps.{signalled_in}
use Rattle.plan_judge.proofs.opens_signalled.Given as goal

abbrev pub invariant-loop-t : goal.invariant-loop-t
invariant-loop-t l = (r : Railway) (p : ℕ) → On r p l.table l.q → all_below (signalled_in r p l.v) l.t ≡ true
