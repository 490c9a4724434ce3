-- `plan_judge::all_pass` meets its contract. The loop's invariant: every placement before p is as it must be.
-- Assumes nothing.
use mathlib.Core.Path.{◌≡◌}
use mathlib.Core.Bool.{true}
use Rattle.laws.specs.Below.{all_below}
use Rattle.railway.specs.declared.Railway.{Railway}
use Rattle.railway.specs.Record.{is_closed}
use Rattle.plan.specs.Test.{by_tables}
use Rattle.plan.specs.Computed.{placement_passes}
use Rattle.railway_routes.specs.Routes.{Laid}
use Rattle.railway_compiled.specs.Table.{Compiled}
use Rattle.plan_judge.proofs.all_pass.Given as goal

abbrev pub invariant-loop-p : goal.invariant-loop-p
invariant-loop-p l = (r : Railway) → Compiled r l.table → Laid r (is_closed r) l.ways → all_below (placement_passes r (by_tables l.figures l.settings)) l.p ≡ true
