-- `solver::fill` meets its contract. The loop's invariant: round n is the next, and the tables are those of all rounds before it.
-- Assumes nothing.
use Prim.Native.Nat.{◌+◌, ◌-◌}
use Rattle.solver.proofs.Filling.{Filling}
use Rattle.solver.proofs.fill.Given as goal

abbrev pub invariant-loop-n : goal.invariant-loop-n
invariant-loop-n l = Filling l.table l.ways l.behind l.m l.initial.figures l.initial.settings l.figures l.settings l.marks l.n

abbrev pub decreases-loop-n : goal.decreases-loop-n
decreases-loop-n l = l.last + 1 - l.n
