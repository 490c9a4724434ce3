-- The tables when no round is finished: figure 0 is home's alone, so they are the cleared ones. Assumes nothing.
use mathlib.Core.Path.{◌≡◌, sym, ◌∙◌}
use mathlib.Core.Logic.{inl, inr}
use mathlib.Core.List.{List}
use mathlib.Core.Option.{Option, none}
use Prim.Native.Nat.{ℕ, ◌<◌}
use native.Mathlib.Omega.{arith}
use lib.ListN.{get_or}
use Rattle.laws.proofs.Bools.{option?}
use Rattle.laws.specs.Below.{list_below}
use Rattle.railway.specs.declared.Railway.{Railway}
use Rattle.railway.specs.Rows.{record_refusal}
use Rattle.game.specs.Game.{IsFigure}
use Rattle.game.specs.Placement.{placements}
use Rattle.game.specs.Moves.{game_of}
use Rattle.game_tables.specs.Tables.{no_figure, figure_in}
use Rattle.game_tables.specs.Rounds.{first_figure, Cleared, RoundTables}
use Rattle.game_tables.proofs.Exists.{solution}
use Rattle.game_tables.proofs.Inhabited.{cleared-exists}
use Rattle.game_tables.proofs.RoundTables.{of-up-to}
use Rattle.game_tables.proofs.Rounds.{accepted-go}
use Rattle.game_tables.proofs.Unique.{figure-entry-one}

module _ (r : Railway) (accepted : record_refusal r ≡ none) (figs sets : List ℕ) (t : RoundTables r 0 figs sets) where
  -- the figures that placements have
  G : ℕ → Option ℕ
  G = (solution r accepted).figure

  has : (p : ℕ) → p < placements r → IsFigure (game_of r) p (G p)
  unfolding G
  has = (solution r accepted).figures

  -- tables that are cleared
  abbrev first-figs : List ℕ
  first-figs = list_below (first_figure r) (placements r)

  abbrev first-sets : List ℕ
  first-sets = list_below (λ p. 0) (placements r)

  first : RoundTables r 0 first-figs first-sets
  first = (accepted-go r accepted).cleared first-figs first-sets (cleared-exists r)

  pub none-cleared : Cleared r figs sets
  none-cleared =
      record {
        first = λ p l. figure-entry-one (get_or figs p no_figure) (get_or first-figs p no_figure) (t.figures p l (G p) (has p l) ∙ sym (first.figures p l (G p) (has p l))) ∙ (cleared-exists r).first p l;
        unset = λ p l. elim (option? (figure_in figs p)) [
          | inl e ↦ rw e at (t.settings p l)
          | inr e ↦
              let z : e.0 ≡ 0 = omega (arith, (of-up-to 0 (G p) e.0 (sym (t.figures p l (G p) (has p l)) ∙ e.1)).1) in
              rw (e.1, z) at (t.settings p l)
        ];
      }
