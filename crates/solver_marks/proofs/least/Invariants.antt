-- `solver_marks::least` meets its contract. The loop's invariant: x is the least of the marks looked at.
-- Assumes nothing.
use Prim.Native.Nat.{ℕ, ◌≤◌, ◌<◌}
use lib.ListN.{get_or}
use Rattle.solver_marks.proofs.least.Given as goal

abbrev pub invariant-loop-y : goal.invariant-loop-y
invariant-loop-y l = (j : ℕ) → j < l.y-index → l.x ≤ get_or l.y-items j 0
