-- `solver_rounds::visit_train` meets its contract. The loop's invariant: the placements with the train put back by the first j
-- ways have been visited. Where there is no way with number j, or j has come to the most ways, those are all.
-- Assumes nothing.
use Rattle.solver_predecessors.specs.Behind.{BackBy}
use Rattle.solver_rounds.specs.Visits.{MoverOf}
use Rattle.solver_rounds.proofs.Loops.{VisitedTo}
use Rattle.solver_rounds.proofs.visit_train.Given as goal

abbrev pub invariant-loop-j : goal.invariant-loop-j
invariant-loop-j l =
    VisitedTo (λ r. MoverOf r l.this.table.now l.this.behind.now l.mover) l.this (λ r i. BackBy r l.mover.code l.mover.train l.x i)
    l.initial.figures l.initial.settings l.initial.marks l.figures l.settings l.marks l.j
