-- `solver_rounds::pass_blocks` meets its contract. The loop's invariant: the codes from c to e have other figures.
-- Assumes nothing.
use Prim.Native.Nat.{◌-◌, ◌≤◌}
use Rattle.solver_rounds.specs.Visits.{Passed}
use Rattle.solver_rounds.proofs.pass_blocks.Given as goal

abbrev pub invariant-loop-e : goal.invariant-loop-e
invariant-loop-e l = (l.c ≤ l.e) × Passed l.figures l.figure l.c l.e

abbrev pub decreases-loop-e : goal.decreases-loop-e
decreases-loop-e l = l.upto - l.e
