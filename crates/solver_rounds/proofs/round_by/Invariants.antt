-- `solver_rounds::round_by` meets its contract: a lower train has the weight, no stretch is due by it, or each has its turn.
-- The loop's invariant: the stretches of the codes below c have had theirs, and a stretch begins with c.
-- Assumes nothing.
use mathlib.Core.Path.{◌≡◌}
use Prim.Native.Nat.{◌-◌, ◌%◌, ◌<◌}
use Rattle.solver_marks.specs.Marks.{stretch_length}
use Rattle.solver_rounds.proofs.Rounds.{StretchesTo}
use Rattle.solver_rounds.proofs.round_by.Given as goal

abbrev pub invariant-loop-c : goal.invariant-loop-c
invariant-loop-c l =
    StretchesTo l.this l.t l.initial.figures l.initial.settings l.initial.marks l.figures l.settings l.marks l.c
    × (l.c < l.m → l.c % stretch_length ≡ 0)

abbrev pub decreases-loop-c : goal.decreases-loop-c
decreases-loop-c l = l.m - l.c
