-- The plan that filled tables make: its texts are in form and pass the test of a plan, and all filled tables make the same. Its lines list what the tables list (Listing); the tables
-- pass because a figure is kept and the entry of a setting opens only trains that have a signal. Assumes nothing.
use mathlib.Core.Path.{◌≡◌, refl, sym, ◌∙◌, ap, subst}
use mathlib.Core.Bool.{Bool, true, false, not, ◌&&◌}
use mathlib.Core.List.{List, map}
use mathlib.Core.Option.{Option, none, some}
use Prim.Native.Nat.{ℕ, zero, suc, ◌+◌, ◌<◌}
use lib.ListN.{get_or}
use Rattle.laws.specs.Below.{which_below}
use Rattle.laws.specs.Lists.{all}
use Rattle.laws.proofs.Bools.{clash, and-true}
use Rattle.laws.proofs.Bits.{bit-none}
use Rattle.laws.proofs.Which.{which-map}
use Rattle.railway.specs.declared.Railway.{Railway}
use Rattle.railway.specs.Rows.{record_refusal}
use Rattle.game.specs.Placement.{placements, start_code, at_home, shared}
use Rattle.game.specs.Setting.{Setting, held, opens_for, signal_open}
use Rattle.game.proofs.Accepted.{facts}
use Rattle.game.proofs.Moves.{start-below}
use Rattle.game_tables.specs.Entries.{opens_in, setting_at}
use Rattle.game_tables.specs.Tables.{no_figure, figure_entry, figure_in, IsPlanEntry, Filled}
use Rattle.game_tables.proofs.Entries.{entry-opens}
use Rattle.game_tables.proofs.Exists.{filled-most}
use Rattle.game_tables.proofs.Plays.{filled-solved, filled_apart}
use Rattle.game_tables.proofs.Unique.{figs-one, sets-one}
use Rattle.plan.specs.Lines.{fits}
use Rattle.plan.specs.Text.{is_some, has_figure, line_for, plan_lines, plan_texts}
use Rattle.plan.specs.Test.{listed_setting, Test, by_tables}
use Rattle.plan.specs.Checked.{Passing}
use Rattle.plan.proofs.Listing.{lines_fit, text-passes}

module _ (r : Railway) (accepted : record_refusal r ≡ none) (figs sets : List ℕ) (filled : Filled r figs sets) where
  -- an entry opens only trains that have a signal
  entry-held : (p n t : ℕ) → p < placements r → figure_in figs p ≡ some n → t < r.trains → opens_in (get_or sets p 0) t ≡ true → held r p t ≡ true
  unfolding signal_open
  entry-held p n t l e k o = go n (subst (λ (f : Option ℕ). IsPlanEntry r (figure_in figs) p f (get_or sets p 0)) e (filled.settings p l))
    where
      go : (n : ℕ) → IsPlanEntry r (figure_in figs) p (some n) (get_or sets p 0) → held r p t ≡ true
      go zero x = clash o (rw x (bit-none (16 + t)))
      go (suc n) x =
          let s : Setting = setting_at r p (get_or sets p 0) in
          (and-true (held r p t) (opens_for r p s t)
          (sym (entry-opens r (facts r accepted).few-points s.plus (signal_open r p s) t k) ∙ ap (λ (v : ℕ). opens_in v t) x.1 ∙ o)).0

  -- THE TABLES PASS THE TEST
  tables-pass : (n : ℕ) → figure_in figs (start_code r) ≡ some n → Test r n (by_tables figs sets)
  unfolding listed_setting setting_at
  tables-pass n e =
      record {
        start = e;
        apart = filled_apart r accepted figs sets filled;
        signalled = entry-held;
        kept = λ p n l f h. (filled-solved r accepted figs sets filled).kept p n l f (not_home (shared r p) (at_home r p) h);
      }
    where
      not_home : (u v : Bool) → v ≡ false → (not u && v) ≡ false
      not_home true v e = refl
      not_home false v e = e

  -- THE PLAN is in form and passes
  module _ (n : ℕ) (start : figure_in figs (start_code r) ≡ some n) where
    pub plan-fits : all (fits r) (plan_lines r figs sets) ≡ true
    plan-fits = lines_fit r accepted figs sets (filled-most r accepted figs sets filled) n start

    pub plan-passes : Passing r (plan_texts r figs sets)
    plan-passes = text-passes r accepted figs sets n (tables-pass n start) plan-fits

-- ALL FILLED TABLES make the same plan
module _ (r : Railway) (accepted : record_refusal r ≡ none) (figs sets figs' sets' : List ℕ) (a : Filled r figs sets) (b : Filled r figs' sets') where
  line-one : (p : ℕ) → p < placements r → line_for r figs sets p ≡ line_for r figs' sets' p
  unfolding line_for
  line-one p l = rw (figs-one r accepted figs sets figs' sets' a b p l, sets-one r accepted figs sets figs' sets' a b p l)

  pub texts-one : plan_texts r figs sets ≡ plan_texts r figs' sets'
  unfolding plan_texts plan_lines
  texts-one =
      let x : get_or figs (start_code r) no_figure ≡ get_or figs' (start_code r) no_figure =
      figs-one r accepted figs sets figs' sets' a b (start_code r) (start-below r (facts r accepted)) in
      let y : map (line_for r figs sets) (which_below (has_figure figs) (placements r)) ≡ map (line_for r figs' sets') (which_below (has_figure figs') (placements r)) =
      which-map (has_figure figs) (has_figure figs') (line_for r figs sets) (line_for r figs' sets') (placements r)
      (λ p l. ap (λ (e : ℕ). is_some (figure_entry e)) (figs-one r accepted figs sets figs' sets' a b p l)) line-one in
      rw (x, y)
