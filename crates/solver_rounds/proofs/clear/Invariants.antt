-- `solver_rounds::clear` meets its contract: the tables are cleared from the first code on, up to the last. Assumes nothing.
use Rattle.solver_rounds.proofs.Clearing.{Clearing}
use Rattle.solver_rounds.proofs.clear.Given as goal

abbrev pub invariant-loop-p : goal.invariant-loop-p
invariant-loop-p l = Clearing l.table l.m l.initial.figures l.initial.settings l.figures l.settings l.p
