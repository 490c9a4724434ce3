-- What a look ahead tells: whether a round brings anything. Nothing of the documents rests on this file: contracts of
-- single steps cite it; what a search shows is in search/Searching. Assumes nothing.
use Rattle.std.specs.Prelude.{◌≡◌, Bool, true, false, List, ℕ, ◌≤◌, ◌<◌, get_or}
use Rattle.std.proofs.Math.Option.{none, some}
use Rattle.railway.specs.declared.Railway.{Railway}
use Rattle.railway.specs.Record.{is_closed}
use Rattle.game.specs.Game.{over}
use Rattle.game.specs.Placement.{placements}
use Rattle.game.specs.Moves.{game_of}
use Rattle.game_tables.specs.Tables.{no_figure, figure_in}
use Rattle.game_tables.specs.Find.{find}
use Rattle.railway_routes.specs.Routes.{Laid}
use Rattle.railway_compiled.specs.Table.{Compiled}
use Rattle.solver_predecessors.specs.Behind.{Behind}
use Rattle.solver_rounds.specs.Visits.{Homed}
use Rattle.search_ahead.specs.declared.Look.{Look}

-- What is looked at is of this railway: the table, the ways and the number of placements, and figures in which home has its own.
pub record Looking (r : Railway) (look : Look) : Type 0 where
  pub compiled : Compiled r look.table.now
  pub laid : Laid r (is_closed r) look.ways.now
  pub back : Behind r look.behind.now
  pub counted : look.m ≡ placements r
  pub homed : Homed r look.figures.now

-- A placement gains figure n: it has none yet, is neither home nor lost, and some setting keeps the figure there.
pub record Gains (r : Railway) (n : ℕ) (figs : List ℕ) (p : ℕ) : Type 0 where
  pub waits : figure_in figs p ≡ none
  pub going : over (game_of r) p ≡ false
  pub entry : ℕ
  pub found : find r (figure_in figs) p n ≡ some entry

-- Of the placements of a kind: one gains (of that kind or not), or none does.
pub data Told (r : Railway) (n : ℕ) (figs : List ℕ) (Kind : ℕ → Type 0) : Bool → Type 0 where
  gains : (p : ℕ) → p < placements r → Gains r n figs p → Told r n figs Kind true
  rests : ((p : ℕ) → p < placements r → Kind p → figure_in figs p ≡ none → over (game_of r) p ≡ false
      → find r (figure_in figs) p n ≡ none) → Told r n figs Kind false

-- Figure n stands in the table, at the code of a placement.
pub record Stands (r : Railway) (n : ℕ) (figs : List ℕ) : Type 0 where
  pub code : ℕ
  pub there : code < placements r
  pub is : figure_in figs code ≡ some n

-- An entry of a range of codes is n, or none is.
pub data StandsIn (figs : List ℕ) (n from upto : ℕ) : Bool → Type 0 where
  stands : (q : ℕ) → q < upto → get_or figs q no_figure ≡ n → StandsIn figs n from upto true
  none-stands : ((q : ℕ) → from ≤ q → q < upto → get_or figs q no_figure ≡ n → ⊥) → StandsIn figs n from upto false
