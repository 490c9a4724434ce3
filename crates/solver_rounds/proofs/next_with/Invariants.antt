-- `solver_rounds::next_with` meets its contract. The loop's invariant: the codes from c to e have other figures.
-- Assumes nothing.
use Rattle.solver_rounds.specs.Visits.{Passed}
use Rattle.solver_rounds.proofs.next_with.Given as goal

abbrev pub invariant-loop-e : goal.invariant-loop-e
invariant-loop-e l = Passed l.figures l.figure l.c l.e
