-- `solver_rounds::has_figure` meets its contract. The loop's invariant: unless the figure has been seen, it is not among those
-- looked at. Assumes nothing.
use mathlib.Core.Path.{◌≡◌}
use mathlib.Core.Bool.{false}
use Prim.Native.Nat.{ℕ, ◌<◌}
use lib.ListN.{get_or}
use Rattle.solver_rounds.proofs.has_figure.Given as goal

abbrev pub invariant-loop-f : goal.invariant-loop-f
invariant-loop-f l = l.has ≡ false → (j : ℕ) → j < l.f-index → get_or l.figures j 0 ≡ l.figure → ⊥
