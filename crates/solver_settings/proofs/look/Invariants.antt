-- `solver_settings::look` meets its contract. The loop's invariant: what is known of the free trains before t, each by itself.
-- Assumes nothing.
use Prim.Native.Nat.{ℕ, ◌≤◌}
use Rattle.railway.specs.declared.Railway.{Railway}
use Rattle.game_tables.specs.Tables.{figure_in}
use Rattle.solver_settings.specs.Search.{Asked, Seen}
use Rattle.solver_settings.proofs.look.Given as goal

abbrev pub invariant-loop-t : goal.invariant-loop-t
invariant-loop-t l =
    (l.count ≤ l.t)
    × ((r : Railway) (p : ℕ) → Asked r p l.table l.ways l.aim.placement l.aim.code l.aim.trains
    → Seen r (figure_in l.figures) p l.aim.figure l.t l.count l.all l.most)
