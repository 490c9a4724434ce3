-- `solver_dues::least_within` meets its contract. The loop's invariant: so it is of the codes before q.
-- Assumes nothing.
use Rattle.solver_dues.specs.Dues.{LeastFrom}
use Rattle.solver_dues.proofs.least_within.Given as goal

abbrev pub invariant-loop-q : goal.invariant-loop-q
invariant-loop-q l = LeastFrom l.figures l.lo l.from l.q l.least
