-- How a search goes, round by round: round n brings the figures n and no others (document 02, Q-7: its opening, `Cleared`; the tables between, `RoundTables`; its end, `AllBelow`). Nothing
-- of document 01 rests on this file: the statement at its end says that each round leaves `RoundTables`, and that these are the tables wanted once no figure is larger. Assumes nothing.
use Rattle.std.specs.Prelude.{◌≡◌, ◌↔◌, false, cond, List, ℕ, suc, ◌+◌, ◌*◌, ◌^◌, ◌≤◌, ◌<◌, get_or, leb}
use Rattle.std.proofs.Math.Option.{Option, none, some}
use Rattle.railway.specs.declared.Railway.{Railway}
use Rattle.railway.specs.Bounds.{most_sections, most_trains, most_weight}
use Rattle.railway.specs.Record.{weight_of}
use Rattle.railway.specs.Rows.{record_refusal}
use Rattle.game.specs.Game.{IsFigure, home, over}
use Rattle.game.specs.Claim.{Decides}
use Rattle.game.specs.Placement.{placements}
use Rattle.game.specs.Moves.{game_of}
use Rattle.game_tables.specs.Entries.{setting_at}
use Rattle.game_tables.specs.Tables.{no_figure, figure_entry, figure_in, IsPlanEntry, Filled}
use Rattle.game_tables.specs.Find.{find}

-- Before the first round home has figure 0, and no other placement has one.
abbrev pub first_figure : Railway → ℕ → ℕ
first_figure r p = cond (home (game_of r) p) 0 no_figure

-- Both tables then: these figures, and no setting set.
pub record Cleared (r : Railway) (figs sets : List ℕ) : Type 0 where
  pub first : (p : ℕ) → p < placements r → get_or figs p no_figure ≡ first_figure r p
  pub unset : (p : ℕ) → p < placements r → get_or sets p 0 ≡ 0

-- Round n at placement p, by the figures F: figure and setting f and v before, f' and v' after. It stays as it was, or gains.
pub data Step (r : Railway) (F : ℕ → Option ℕ) (n p f v f' v' : ℕ) : Type 0 where
  stays : f' ≡ f → v' ≡ v → (figure_entry f ≡ none → over (game_of r) p ≡ false → find r F p n ≡ none) → Step r F n p f v f' v'
  gains : figure_entry f ≡ none → over (game_of r) p ≡ false → f' ≡ n → find r F p n ≡ some v' → Step r F n p f v f' v'

-- Round n from one pair of tables to the next, all placements by the figures before it.
abbrev pub Stepped : Railway → ℕ → List ℕ → List ℕ → List ℕ → List ℕ → Type 0
Stepped r n figs sets figs' sets' =
    (p : ℕ) → p < placements r → Step r (figure_in figs) n p (get_or figs p no_figure) (get_or sets p 0) (get_or figs' p no_figure) (get_or sets' p 0)

-- THE TABLES AFTER A ROUND. A figure that is at most n.
abbrev pub up_to : ℕ → Option ℕ → Option ℕ
up_to n none = none
up_to n (some j) = cond (leb j n) (some j) none

-- After round n the tables have each placement's figure and the plan's setting if the figure is at most n, else none and zero.
-- Where no figure is larger than n this is `Filled`.
pub record RoundTables (r : Railway) (n : ℕ) (figs sets : List ℕ) : Type 0 where
  pub figures : (p : ℕ) → p < placements r → (f : Option ℕ) → IsFigure (game_of r) p f → figure_in figs p ≡ up_to n f
  pub settings : (p : ℕ) → p < placements r → IsPlanEntry r (figure_in figs) p (figure_in figs p) (get_or sets p 0)

-- WHICH ROUNDS CAN BRING SOMETHING. A round is due if a figure that the table has and the weight of a train make its number: that train's move to the
-- figure's placement can bring just this figure.
pub record Due (r : Railway) (figs : List ℕ) (n : ℕ) : Type 0 where
  pub code : ℕ
  pub train : ℕ
  pub figure : ℕ
  pub there : code < placements r
  pub runs : train < r.trains
  pub has : figure_in figs code ≡ some figure
  pub makes : figure + weight_of r train ≡ n

-- Of the rounds behind n none is due up to m.
abbrev pub Quiet : Railway → List ℕ → ℕ → ℕ → Type 0
Quiet r figs n m = (k : ℕ) → Due r figs k → n < k → m < k

-- No round behind n is due.
abbrev pub NoneDue : Railway → List ℕ → ℕ → Type 0
NoneDue r figs n = (k : ℕ) → Due r figs k → k ≤ n

-- Some placement has figure n.
pub record HasFigure (r : Railway) (n : ℕ) : Type 0 where
  pub code : ℕ
  pub there : code < placements r
  pub is : IsFigure (game_of r) code (some n)

-- THE END. Every figure is below n.
abbrev pub AllBelow : Railway → ℕ → Type 0
AllBelow r n = (p j : ℕ) → p < placements r → IsFigure (game_of r) p (some j) → j < n

-- No figure is larger: a move of the largest weight for each placement of the largest yard.
abbrev pub most_figure : ℕ
most_figure = most_weight * most_sections ^ most_trains

-- ROUND BY ROUND, in an accepted case.
pub record RoundsGo (r : Railway) : Type 0 where
  -- no round is needed for the tables of round 0
  pub cleared : (figs sets : List ℕ) → Cleared r figs sets → RoundTables r 0 figs sets
  -- a round makes the tables of its number from those before
  pub next : (n : ℕ) (figs sets figs' sets' : List ℕ) → RoundTables r n figs sets → suc n < no_figure → Stepped r (suc n) figs sets figs' sets' → RoundTables r (suc n) figs' sets'
  -- who gains has a move that makes up the figure
  pub gained : (n : ℕ) (figs sets : List ℕ) → RoundTables r n figs sets → (p v : ℕ) → p < placements r → figure_in figs p ≡ none → over (game_of r) p ≡ false
      → find r (figure_in figs) p (suc n) ≡ some v → Decides (game_of r) (figure_in figs) p (setting_at r p v) (suc n)
  -- rounds that are not due bring nothing: the tables are those of later rounds already
  pub quiet : (n m : ℕ) (figs sets : List ℕ) → RoundTables r n figs sets → n ≤ m → Quiet r figs n m → RoundTables r m figs sets
  -- where none is due any more every figure is there
  pub ended : (n : ℕ) (figs sets : List ℕ) → RoundTables r n figs sets → NoneDue r figs n → AllBelow r (suc n)
  -- and then, and only then, the tables are those wanted
  pub filled : (n : ℕ) (figs sets : List ℕ) → RoundTables r n figs sets → AllBelow r (suc n) ↔ Filled r figs sets
  -- no figure is larger than 255 for each placement, so none comes near the number for none
  pub most : (p j : ℕ) → p < placements r → IsFigure (game_of r) p (some j) → j ≤ most_weight * placements r
  pub small : (p j : ℕ) → p < placements r → IsFigure (game_of r) p (some j) → j ≤ most_figure
  pub room : most_figure < no_figure

-- So it goes in every accepted case.
abbrev pub AcceptedGo : Type 0
AcceptedGo = (r : Railway) → record_refusal r ≡ none → RoundsGo r
