-- `plan_judge::all_within` meets its contract. The loop's invariant: every train before t that may move comes to a figure smaller by its weight at least.
-- Assumes nothing.
use mathlib.Core.Path.{◌≡◌}
use mathlib.Core.Bool.{true}
use Prim.Native.Nat.{ℕ}
use Rattle.laws.specs.Below.{all_below}
use Rattle.railway.specs.declared.Railway.{Railway}
use Rattle.railway.specs.Record.{is_closed}
use Rattle.game.specs.Local.{goes_within}
use Rattle.game.specs.Moves.{game_of}
use Rattle.game_tables.specs.Entries.{setting_at}
use Rattle.game_tables.specs.Tables.{figure_in}
use Rattle.railway_routes.specs.Routes.{Laid}
use Rattle.game_moves.specs.Steps.{On}
use Rattle.plan_judge.proofs.all_within.Given as goal

abbrev pub invariant-loop-t : goal.invariant-loop-t
invariant-loop-t l =
    (r : Railway) (p : ℕ) → On r p l.table l.q → Laid r (is_closed r) l.ways
    → all_below (goes_within (game_of r) (figure_in l.figures) p (setting_at r p l.v) l.n) l.t ≡ true
