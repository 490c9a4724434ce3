-- The entries of one placement: before the first round, and where round n visits it. A placement that is home has
-- figure 0 already, so one without a figure at which something is found is neither home nor lost. Assumes nothing.
use mathlib.Core.Path.{◌≡◌, sym, ◌∙◌}
use mathlib.Core.Logic.{inl, inr}
use mathlib.Core.Bool.{true, false, not}
use mathlib.Core.List.{List}
use mathlib.Core.Option.{Option, none, some}
use Prim.Native.Nat.{ℕ, ◌<◌}
use lib.ListN.{length, get_or}
use lib.Dec.{eqb}
use borrow.Author.Tests.{eq-eqb, ne_eqb}
use Rattle.laws.proofs.Bools.{bool?, some-none, some_one, not-true, or-false, or-none, and-off}
use Rattle.laws.proofs.Lists.{get_or-inside}
use Rattle.railway.specs.declared.Railway.{Railway}
use Rattle.railway.proofs.Rows.{accepted-facts}
use Rattle.game.specs.Game.{home, over}
use Rattle.railway.specs.Rows.{record_refusal}
use Rattle.game.specs.Placement.{placements, at_home, shared}
use Rattle.game.specs.Moves.{game_of}
use Rattle.game.proofs.Accepted.{facts}
use Rattle.game_tables.specs.Tables.{no_figure, figure_entry, figure_in}
use Rattle.game_tables.specs.Find.{find}
use Rattle.game_tables.specs.Rounds.{first_figure}
use Rattle.game_moves.specs.Answers.{home_code}
use Rattle.game_moves.proofs.Round.{home-code-home, home-code-apart, home-has-code}
use Rattle.solver_settings.specs.Answers.{first_keeping}
use Rattle.solver_settings.proofs.Answers.{keeping-lost}

pub entry-some : (x : ℕ) → (x ≡ no_figure → ⊥) → figure_entry x ≡ some x
entry-some x h = rw (ne_eqb x no_figure h)

pub entry-none : (x : ℕ) → x ≡ no_figure → figure_entry x ≡ none
entry-none x h = rw (eq-eqb x no_figure h)

pub entry-is : (x j : ℕ) → figure_entry x ≡ some j → x ≡ j
entry-is x j e = elim (bool? (eqb x no_figure)) [
  | inl y ↦ let s : figure_entry x ≡ none = rw y in some-none e s
  | inr y ↦ let s : figure_entry x ≡ some x = rw y in some_one (sym s ∙ e)
]

-- BEFORE THE FIRST ROUND
pub first_home : (r : Railway) (home p : ℕ) → record_refusal r ≡ none → home ≡ home_code r → p ≡ home → 0 ≡ first_figure r p
first_home r home p accepted e same =
    let at : p ≡ home_code r = same ∙ e in
    let ok = facts r accepted in
    rw (at, home-code-apart r ok (accepted-facts r accepted), home-code-home r ok)

pub first-other : (r : Railway) (home p : ℕ) → record_refusal r ≡ none → home ≡ home_code r → p < placements r
    → (p ≡ home → ⊥) → no_figure ≡ first_figure r p
first-other r home p accepted e l other =
    let away : at_home r p ≡ false =
    not-true (at_home r p) (λ y. other (home-has-code r (facts r accepted) p l y ∙ sym e)) in
    rw (away, and-off (not (shared r p)))

-- ONE PLACEMENT
module _ (figs : List ℕ) (p : ℕ) (inside : p < length figs) where
  pub read-figure : (get_or figs p 0 ≡ no_figure → ⊥) → figure_in figs p ≡ none → ⊥
  read-figure h e = some-none (entry-some (get_or figs p no_figure) (λ y. h (get_or-inside figs p 0 no_figure inside ∙ y))) e

  pub read_none : get_or figs p 0 ≡ no_figure → figure_in figs p ≡ none
  read_none e = entry-none (get_or figs p no_figure) (get_or-inside figs p no_figure 0 inside ∙ e)

module _ (r : Railway) (n p : ℕ) (figs : List ℕ) (found : Option ℕ)
    (searched : found ≡ first_keeping r (figure_in figs) p n) where
  apart-find : shared r p ≡ false → first_keeping r (figure_in figs) p n ≡ find r (figure_in figs) p n
  unfolding first_keeping
  apart-find e = rw e

  pub finds-nothing : found ≡ none → over (game_of r) p ≡ false → find r (figure_in figs) p n ≡ none
  finds-nothing e o = sym (apart-find (or-false (shared r p) (at_home r p) o).0) ∙ sym searched ∙ e

  pub finds-entry : (home (game_of r) p ≡ true → figure_in figs p ≡ some 0) → figure_in figs p ≡ none
      → (v : ℕ) → found ≡ some v
      → (over (game_of r) p ≡ false) × (find r (figure_in figs) p n ≡ some v)
  finds-entry homed empty v e =
      let apart : shared r p ≡ false =
      not-true (shared r p) (λ y. some-none (sym searched ∙ e) (keeping-lost r (figure_in figs) p n y)) in
      let away : at_home r p ≡ false =
      not-true (at_home r p) (λ y. let h : home (game_of r) p ≡ true = rw (apart, y) in some-none (homed h) empty) in
      (or-none (shared r p) (at_home r p) apart away, sym (apart-find apart) ∙ sym searched ∙ e)
