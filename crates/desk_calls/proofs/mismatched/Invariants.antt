-- `desk_calls::mismatched` meets its contract. The loop's invariant: every train before t heads the same way in both cases.
-- Assumes nothing.
use mathlib.Core.Path.{◌≡◌}
use mathlib.Core.Bool.{false}
use Rattle.laws.specs.Below.{any_below}
use Rattle.railway.specs.declared.Railway.{Railway}
use Rattle.railway_compiled.specs.Table.{Compiled}
use Rattle.desk.specs.Change.{heads_other}
use Rattle.desk_calls.proofs.mismatched.Given as goal

abbrev pub invariant-loop-t : goal.invariant-loop-t
invariant-loop-t l = (r s : Railway) → Compiled r l.old → Compiled s l.new → any_below (heads_other r s) l.t ≡ false
