-- `solver_marks::gain` meets its contract. The loop's invariant: the marks of the trains so far are lowered.
-- Assumes nothing.
use Prim.Native.Nat.{◌<◌}
use Rattle.solver_marks.specs.Marks.{most_codes, Room}
use Rattle.solver_marks.proofs.Marks.{Sooner}
use Rattle.solver_marks.proofs.gain.Given as goal

abbrev pub invariant-loop-t : goal.invariant-loop-t
invariant-loop-t l = Room l.fn.marks → l.c < most_codes → Sooner l.fn.marks l.c l.fn.soon l.t l.marks
