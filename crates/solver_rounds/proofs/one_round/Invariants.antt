-- `solver_rounds::one_round` meets its contract. The loop's invariant: the weights of the trains before t have had their turn.
-- Assumes nothing.
use Rattle.solver_rounds.proofs.Rounds.{RoundTo}
use Rattle.solver_rounds.proofs.one_round.Given as goal

abbrev pub invariant-loop-t : goal.invariant-loop-t
invariant-loop-t l = RoundTo l.this l.initial.figures l.initial.settings l.initial.marks l.figures l.settings l.marks l.t
