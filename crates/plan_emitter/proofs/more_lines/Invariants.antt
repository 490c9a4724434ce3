-- `plan_emitter::more_lines` meets its contract. The loop's invariant: of a run that was underway when the call came, what is left is left from the place
-- reached on. The codes rise, so that it ends.
-- Assumes nothing.
use mathlib.Core.Path.{◌≡◌}
use Prim.Native.Nat.{◌-◌}
use lib.ListN.{length}
use Rattle.railway.specs.declared.Railway.{Railway}
use Rattle.railway_compiled.specs.Table.{Compiled}
use Rattle.plan.specs.declared.PlanPlace.TheVariants.{From}
use Rattle.plan.specs.Several.{Run}
use Rattle.plan.specs.Steps.{Planned, Underway}
use Rattle.plan_emitter.proofs.more_lines.Given as goal

abbrev pub invariant-loop-p : goal.invariant-loop-p
invariant-loop-p l =
    (length l.out ≡ length l.initial.out)
    × ((r : Railway) (whole : Run) → Compiled r l.table → Planned r l.figures l.settings → Underway r l.figures l.settings whole (From l.from) l.behind l.initial.out
    → Underway r l.figures l.settings whole (From l.c) l.at l.out)

abbrev pub decreases-loop-p : goal.decreases-loop-p
decreases-loop-p l = l.total - l.c
