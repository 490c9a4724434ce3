-- `solver_settings::open_one` meets its contract. The loop's invariant: no try before train u has found anything.
-- Assumes nothing.
use Prim.Native.Nat.{ℕ}
use mathlib.Core.Bool.{false}
use mathlib.Core.Option.{none}
use mathlib.Core.Path.{◌≡◌}
use lib.Dec.{eqb}
use Rattle.laws.specs.Below.{any_below}
use Rattle.railway.specs.declared.Railway.{Railway}
use Rattle.game.specs.Setting.{free}
use Rattle.game_tables.specs.Tables.{figure_in}
use Rattle.game_tables.specs.Find.{try_open, first_found}
use Rattle.solver_settings.specs.Search.{Asked}
use Rattle.solver_settings.proofs.open_one.Given as goal

abbrev pub invariant-loop-u : goal.invariant-loop-u
invariant-loop-u l =
    (r : Railway) (p : ℕ) → Asked r p l.table l.ways l.aim.placement l.aim.code l.aim.trains → any_below (free r p) r.trains ≡ false
    → first_found (λ u. try_open r (figure_in l.figures) p l.aim.figure (eqb u)) l.u ≡ none
