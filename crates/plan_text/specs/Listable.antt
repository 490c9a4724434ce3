-- Two tables of which a plan's text can be written. Nothing of the documents rests on this file: such tables are what a solver leaves that answered a figure, and what the call that thins
-- leaves. Assumes nothing.
use Rattle.std.specs.Prelude.{◌≡◌, List, ℕ, ◌≤◌, ◌<◌, length, get_or}
use Rattle.std.proofs.Math.Option.{none, some}
use Rattle.railway.specs.declared.Railway.{Railway}
use Rattle.game.specs.Placement.{placements, start_code}
use Rattle.game_tables.specs.Lengths.{entries}
use Rattle.game_tables.specs.Tables.{no_figure, figure_in, case_refusal}

-- They have as many entries as the programs' tables, and none that is over a figure's bounds, in a case that is not refused; and the start has a figure.
pub record Listable (r : Railway) (figs sets : List ℕ) : Type 0 where
  pub long : length figs ≡ entries
  pub unrefused : case_refusal r figs sets ≡ none
  pub bounded : (p : ℕ) → p < placements r → get_or figs p no_figure ≤ no_figure
  pub figure : ℕ
  pub start : figure_in figs (start_code r) ≡ some figure
