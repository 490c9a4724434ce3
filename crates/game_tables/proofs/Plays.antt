-- Filled tables are right for whole plays: they have every figure, and their settings keep them, so they agree with every single turn; the
-- theorem on whole plays does the rest. Assumes nothing.
use mathlib.Core.Path.{◌≡◌}
use mathlib.Core.Bool.{false}
use mathlib.Core.List.{List}
use mathlib.Core.Option.{none, some}
use Prim.Native.Nat.{ℕ, suc, ◌<◌}
use lib.ListN.{get_or}
use Rattle.laws.proofs.Bools.{not-true}
use Rattle.railway.specs.declared.Railway.{Railway}
use Rattle.railway.specs.Rows.{record_refusal}
use Rattle.game.specs.Game.{IsFigure}
use Rattle.game.specs.Claim.{Keeps, Whole}
use Rattle.game.specs.Local.{Solved}
use Rattle.game.specs.Placement.{placements, shared}
use Rattle.game.specs.Moves.{game_of}
use Rattle.game.proofs.Accepted.{facts}
use Rattle.game.proofs.Moves.{inside, costs}
use Rattle.game.proofs.Figures.{lost-unforced, figures-solved}
use Rattle.game.proofs.Claim.{whole}
use Rattle.game_tables.specs.Tables.{figure_in, setting_in, IsPlanEntry, Filled}

-- a placement that has a figure is not lost: each train has a section to itself
pub figure-apart : (r : Railway) (p n : ℕ) → IsFigure (game_of r) p (some n) → shared r p ≡ false
figure-apart r p n i = not-true (shared r p) (λ y. lost-unforced (game_of r) p n y i.0)

module _ (r : Railway) (accepted : record_refusal r ≡ none) (figs sets : List ℕ) (filled : Filled r figs sets) where
  keeping : (p n : ℕ) → p < placements r → figure_in figs p ≡ some (suc n) → Keeps (game_of r) (figure_in figs) p (setting_in r sets p) (suc n)
  keeping p n l e = (let x : IsPlanEntry r (figure_in figs) p (some (suc n)) (get_or sets p 0) = rw e at (filled.settings p l) in x).0.keeps

  pub filled-solved : Solved (game_of r) (figure_in figs) (setting_in r sets)
  filled-solved = figures-solved (game_of r) (figure_in figs) (setting_in r sets) (costs r (facts r accepted)) (inside r (facts r accepted)) filled.figures keeping

  -- THE TABLES ARE RIGHT for whole plays
  pub filled-whole : Whole (game_of r) (figure_in figs) (setting_in r sets)
  filled-whole = whole (game_of r) (figure_in figs) (setting_in r sets) (costs r (facts r accepted)) (inside r (facts r accepted)) filled-solved

  pub filled_apart : (p n : ℕ) → p < placements r → figure_in figs p ≡ some n → shared r p ≡ false
  filled_apart p n l e = figure-apart r p n (rw e at (filled.figures p l))
