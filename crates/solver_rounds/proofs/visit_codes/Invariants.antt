-- `solver_rounds::visit_codes` meets its contract. The loop's invariant: what is before the codes below c has been visited.
-- Assumes nothing.
use Prim.Native.Nat.{◌-◌}
use Rattle.solver_rounds.specs.Visits.{Ahead}
use Rattle.solver_rounds.proofs.Loops.{VisitedTo}
use Rattle.solver_rounds.proofs.visit_codes.Given as goal

abbrev pub invariant-loop-c : goal.invariant-loop-c
invariant-loop-c l =
    VisitedTo (λ r. Unit {0}) l.this (λ r i. Ahead r l.n l.w l.initial.figures l.codes.from i)
    l.initial.figures l.initial.settings l.initial.marks l.figures l.settings l.marks l.from

abbrev pub decreases-loop-c : goal.decreases-loop-c
decreases-loop-c l = l.codes.upto - l.from
