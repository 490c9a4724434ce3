-- What a look-up answers, by the answer to the case. Assumes nothing.
use mathlib.Core.Path.{◌≡◌, refl, sym, ◌∙◌, ap}
use mathlib.Core.Bool.{Bool, true, false, cond}
use mathlib.Core.List.{List}
use mathlib.Core.Option.{Option, none, some}
use Prim.Native.Nat.{ℕ}
use lib.ListN.{get_or}
use Rattle.railway.specs.declared.Railway.{Railway}
use Rattle.railway.specs.declared.Refusal.{Refusal}
use Rattle.railway.specs.CaseAnswer.{Accepted, Refused}
use Rattle.railway.specs.Refusals.{number_of}
use Rattle.game.specs.Placement.{code_on, names_none}
use Rattle.game_tables.specs.Tables.{no_figure, figure_entry, figure_in, case_refusal}
use Rattle.railway_compiled.specs.Compilation.{Compilation}
use Rattle.railway_compiled.specs.Table.{Compiled}
use Rattle.game_case.specs.Cases.{CasePost}
use Rattle.game_case.proofs.Cases.{opened-refused, opened-none, opened-table}
use Rattle.search.specs.declared.Search.{Search}
use Rattle.search.specs.Shown.{Shown, NoFigure, Refused as Refuses}
use Rattle.search.specs.Searching.{shown_by, shown, looked_up, number_shown, LookPost}

module _ (r : Railway) (figs sets : List ℕ) (c : Compilation) (p : CasePost r figs sets c) (s : Search) (section : ℕ → ℕ) where
  pub looks-refused : (f : Refusal) → c.tested ≡ Refused f → LookPost r section s figs sets (Refuses f)
  unfolding looked_up
  looks-refused f e = let due : case_refusal r figs sets ≡ some f = opened-refused p e in record { numbered = ap number_of (sym due); answers = sym (ap (shown r section s figs) due) }

  module _ (e : c.tested ≡ Accepted) (b : Bool) (names : (q : Railway) → Compiled q c.table → b ≡ names_none q section) where
    found : looked_up r section s figs sets ≡ cond b NoFigure (shown_by (figure_in figs (code_on r section)) s.ended)
    unfolding looked_up
    found =
        ap (shown r section s figs) (opened-none p e)
        ∙ ap (λ (z : Bool). cond z NoFigure (shown_by (figure_in figs (code_on r section)) s.ended)) (sym (names r (opened-table p e)))

    fine : case_refusal r figs sets ≡ none
    fine = opened-none p e

    pub looks-nowhere : b ≡ true → LookPost r section s figs sets NoFigure
    looks-nowhere y = record { numbered = ap number_of (sym fine); answers = sym (found ∙ rw y refl) }

    -- no refusal
    shown-number : (f : Option ℕ) (z : Bool) → number_shown (shown_by f z) ≡ none
    shown-number (some n) z = refl
    shown-number none true = refl
    shown-number none false = refl

    pub looks-there : b ≡ false → (at f : ℕ) (a : Shown) → ((q : Railway) → Compiled q c.table → at ≡ code_on q section) → f ≡ get_or figs at no_figure → a ≡ shown_by (figure_entry f) s.ended
        → LookPost r section s figs sets a
    looks-there y at f a code entry shows =
        record {
          numbered = ap number_shown shows ∙ shown-number (figure_entry f) s.ended
              ∙ ap number_of (sym fine);
          answers = shows ∙ ap (λ (z : ℕ). shown_by (figure_entry z) s.ended)
              (entry ∙ ap (λ (z : ℕ). get_or figs z no_figure) (code r (opened-table p e))) ∙ sym (found ∙ rw y refl);
        }
