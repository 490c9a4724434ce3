-- `solver_dues::soon` meets its contract. The loop's invariant: so it is of the trains before t.
-- Assumes nothing.
use mathlib.Core.Path.{◌≡◌}
use mathlib.Core.Bool.{false}
use Prim.Native.Nat.{ℕ, ◌+◌, ◌<◌}
use lib.ListN.{length}
use Rattle.laws.specs.Below.{any_below}
use Rattle.railway.specs.declared.Railway.{Railway}
use Rattle.railway.specs.Bounds.{most_trains, most_weight}
use Rattle.railway.specs.Record.{weight_of}
use Rattle.railway_compiled.specs.Table.{Compiled}
use Rattle.game_tables.specs.Tables.{no_figure}
use Rattle.solver_dues.specs.Dues.{same_weight}
use Rattle.solver_marks.specs.Marks.{soon_by}
use Rattle.solver_dues.proofs.soon.Given as goal

abbrev pub invariant-loop-t : goal.invariant-loop-t
invariant-loop-t l =
    (length l.soon ≡ most_trains) × ((r : Railway) → Compiled r l.table → l.n + most_weight < no_figure
    → (u : ℕ) → u < l.t → u < r.trains → any_below (same_weight r u) u ≡ false → soon_by l.soon u ≡ l.n + weight_of r u)
