-- `logs_judge::verdict` meets its contract. The loop's invariant: no train below t differs.
-- Assumes nothing.
use mathlib.Core.Path.{◌≡◌}
use mathlib.Core.Bool.{false}
use Prim.Native.Nat.{ℕ, ◌<◌}
use Rattle.logs.specs.Computed.{differs}
use Rattle.logs_judge.proofs.verdict.Given as goal

abbrev pub invariant-loop-t : goal.invariant-loop-t
invariant-loop-t l = (u : ℕ) → u < l.t → differs l.a l.b u ≡ false
