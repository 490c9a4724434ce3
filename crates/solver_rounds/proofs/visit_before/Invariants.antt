-- `solver_rounds::visit_before` meets its contract. The loop's invariant: what is before the placement by the first t trains
-- has been visited, and the stride is that of train t. Assumes nothing.
use mathlib.Core.Path.{◌≡◌}
use Rattle.game_moves.specs.Steps.{stride_of}
use Rattle.solver_rounds.specs.Visits.{Comes}
use Rattle.solver_rounds.proofs.Loops.{VisitedTo}
use Rattle.solver_rounds.proofs.visit_before.Given as goal

abbrev pub invariant-loop-t : goal.invariant-loop-t
invariant-loop-t l =
    VisitedTo (λ r. Unit {0}) l.this (λ r i. Comes r l.w l.c i) l.initial.figures l.initial.settings l.initial.marks
    l.figures l.settings l.marks l.t
    × (l.stride ≡ stride_of l.s l.t)
