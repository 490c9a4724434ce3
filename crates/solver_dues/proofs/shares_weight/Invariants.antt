-- `solver_dues::shares_weight` meets its contract. The loop's invariant: no train before u has the weight.
-- Assumes nothing.
use mathlib.Core.Path.{◌≡◌}
use mathlib.Core.Bool.{false}
use Rattle.laws.specs.Below.{any_below}
use Rattle.railway.specs.declared.Railway.{Railway}
use Rattle.railway_compiled.specs.Table.{Compiled}
use Rattle.solver_dues.specs.Dues.{same_weight}
use Rattle.solver_dues.proofs.shares_weight.Given as goal

abbrev pub invariant-loop-u : goal.invariant-loop-u
invariant-loop-u l = (r : Railway) → Compiled r l.table → any_below (same_weight r l.t) l.u ≡ false
