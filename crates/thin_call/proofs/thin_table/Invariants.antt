-- `thin_call::thin_table` meets its contract. The loop's invariant: the entries before p are thinned, and the rest is as it was.
-- Assumes nothing.
use mathlib.Core.Path.{◌≡◌}
use Prim.Native.Nat.{◌≤◌}
use lib.ListN.{length}
use Rattle.railway.specs.declared.Railway.{Railway}
use Rattle.game.specs.Placement.{placements}
use Rattle.railway_compiled.specs.Table.{Compiled}
use Rattle.thin_call.proofs.Passes.{ThinnedTo}
use Rattle.thin_call.proofs.thin_table.Given as goal

abbrev pub invariant-loop-p : goal.invariant-loop-p
invariant-loop-p l =
    (length l.settings ≡ length l.initial.settings)
    × ((r : Railway) → Compiled r l.table → placements r ≤ length l.initial.settings → ThinnedTo r l.figures l.initial.settings l.settings l.p)
