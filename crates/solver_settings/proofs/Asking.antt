-- What is asked, with the table and the ways of an accepted railway; and that it can be asked, at every placement that is not lost. Assumes nothing.
use mathlib.Core.Path.{◌≡◌, refl, sym, ◌∙◌}
use mathlib.Core.Bool.{Bool, false}
use mathlib.Core.List.{List}
use mathlib.Core.Option.{Option, none}
use Prim.Native.Nat.{ℕ, ◌<◌}
use native.Mathlib.Omega.{arith}
use Rattle.laws.specs.Below.{list_below}
use Rattle.railway.specs.declared.Railway.{Railway}
use Rattle.railway.specs.Bounds.{most_trains}
use Rattle.railway.specs.Record.{is_closed}
use Rattle.game.specs.Placement.{stands_on, shared, code_on}
use Rattle.railway_routes.specs.Routes.{Laid}
use Rattle.railway_compiled.specs.Table.{Compiled}
use Rattle.game_placement.specs.declared.Placement.{Placement}
use Rattle.game_placement.specs.ByValue.{section_in}
use Rattle.game_moves.specs.Steps.{On}
use Rattle.game_moves.proofs.Placing.{few-trains}
use Rattle.game_moves.proofs.Round.{on_one}
use Rattle.solver_settings.specs.Search.{Asked}

pub trains-few : (r : Railway) (table : List ℕ) → Compiled r table → (k : ℕ) → k ≡ r.trains → most_trains < k → (o : Option ℕ) → none ≡ o
trains-few r table c k e l o = absurd (omega (arith, few-trains r table c k e))

module _ (r : Railway) (p : ℕ) (table ways : List ℕ) (q : Placement) (c k : ℕ) (on : On r p table q)
    (laid : Laid r (is_closed r) ways) (code : c ≡ code_on r (section_in q)) (trains : k ≡ r.trains) where
  pub asked : (lost : Bool) → lost ≡ shared r p → lost ≡ false → Asked r p table ways q c k
  asked lost is e = record { looks = record { on = on; laid = laid; code = code }; trains = trains; apart = sym is ∙ e }

module _ (r : Railway) (table ways : List ℕ) (h : Compiled r table) (laid : Laid r (is_closed r) ways) (p : ℕ) where
  -- the placement by value
  abbrev pub there : Placement
  there = record { sections = list_below (stands_on r p) most_trains }

  pub asked-one : shared r p ≡ false → Asked r p table ways there (code_on r (section_in there)) r.trains
  asked-one apart = asked r p table ways there (code_on r (section_in there)) r.trains (on_one r table h p) laid refl refl (shared r p) refl apart
