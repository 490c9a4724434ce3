-- How far a search has come, from code to code: nothing at first; one code more has no figure, a larger one than all before, or another. Assumes nothing.
use mathlib.Core.Path.{◌≡◌, refl, sym, ◌∙◌, ap}
use mathlib.Core.Logic.{inl, inr}
use mathlib.Core.Bool.{Bool, true, false, cond, not}
use mathlib.Core.List.{List}
use mathlib.Core.Option.{some}
use Prim.Native.Nat.{ℕ, suc, max, ◌+◌, ◌≤◌, ◌<◌}
use native.Mathlib.Omega.{arith}
use native.Mathlib.Numerals.{add-one}
use lib.ListN.{get_or}
use Rattle.std.proofs.Math.Nat.{max-eq_left, max-eq_right}
use lib.Dec.{eqb}
use borrow.Author.Tests.{eq-eqb, ne_eqb}
use Rattle.laws.specs.Below.{count_below}
use Rattle.laws.proofs.Below.{upto, count-le}
use Rattle.laws.proofs.Bools.{lt?, some-none, some_one}
use Rattle.game_tables.specs.Tables.{no_figure, figure_entry, figure_in}
use Rattle.search_progress.specs.declared.Progress.{Progress}
use Rattle.search_progress.specs.Telling.{bears, figures_below, Has, Tells}

pub tells_none : (figs : List ℕ) → Tells figs 0 (record { count = 0; largest = 0 })
unfolding count_below
tells_none figs = record { count = refl; most = λ p l j e. absurd (omega arith); reached = λ h. absurd (omega arith); without = λ h. refl }

-- no more have a figure than there are
pub tells-within : {figs : List ℕ} {n : ℕ} {a : Progress} → Tells figs n a → a.count ≤ n
tells-within {figs} {n} t = omega (arith, t.count, count-le (bears figs) n)

-- ONE CODE MORE
module _ (figs : List ℕ) (n x : ℕ) (entry : x ≡ get_or figs n no_figure) (a : Progress) (t : Tells figs n a) where
  entry-figure : figure_in figs n ≡ figure_entry x
  entry-figure = ap figure_entry (sym entry)

  counted : (b : Bool) → not (eqb x no_figure) ≡ b → figures_below figs (suc n) ≡ figures_below figs n + cond b 1 0
  unfolding count_below
  counted b is = let e : bears figs n ≡ b = ap (λ (y : ℕ). not (eqb y no_figure)) (sym entry) ∙ is in rw e

  longer : {f : ℕ} → Has figs n f → Has figs (suc n) f
  longer h = record { code = h.code; below = omega (arith, h.below); has = h.has }

  -- it has no figure
  pub tells-past : x ≡ no_figure → Tells figs (suc n) a
  tells-past is =
      let e : eqb x no_figure ≡ true = eq-eqb x no_figure is in
      record {
        count = omega (arith, t.count, counted false (ap not e));
        most = upto (λ p. (j : ℕ) → figure_in figs p ≡ some j → j ≤ a.largest) t.most (λ j f. some-none (sym entry-figure ∙ f) (rw e));
        reached = λ h. longer (t.reached h);
        without = t.without;
      }

  -- it has a figure: the larger of it and the largest before is the largest now
  module _ (is : x ≡ no_figure → ⊥) where
    entry_has : figure_in figs n ≡ some x
    entry_has = let e : eqb x no_figure ≡ false = ne_eqb x no_figure is in entry-figure ∙ rw e

    tells-one : (m : ℕ) → a.largest ≤ m → x ≤ m → Has figs (suc n) m → Tells figs (suc n) (record { count = a.count + 1; largest = m })
    tells-one m old new has =
        let e : eqb x no_figure ≡ false = ne_eqb x no_figure is in
        record {
          count = omega (arith, t.count, counted true (ap not e));
          most = upto (λ p. (j : ℕ) → figure_in figs p ≡ some j → j ≤ m) (λ p l j f. omega (arith, t.most p l j f, old)) (λ j f. omega (arith, some_one (sym entry_has ∙ f), new));
          reached = λ h. has;
          without = λ h. absurd (omega (arith, h));
        }

    pub tells-larger : a.largest < x → Tells figs (suc n) (record { count = a.count + 1; largest = x })
    tells-larger l = tells-one x (omega (arith, l)) (omega arith) (record { code = n; below = omega arith; has = entry_has })

    -- without any before it is not smaller only if it is 0, as the largest is
    pub tells-another : x ≤ a.largest → Tells figs (suc n) (record { count = a.count + 1; largest = a.largest })
    tells-another l = tells-one a.largest (omega arith) l (elim (lt? 0 a.count) [
      | inl h ↦ longer (t.reached h)
      | inr h ↦ record { code = n; below = omega arith; has = entry_has ∙ ap some (omega (arith, t.without (omega (arith, h)), l)) }
    ])

    pub tells-max : {m : ℕ} → m ≡ max a.largest x → Tells figs (suc n) (record { count = a.count + 1; largest = m })
    tells-max is = elim (lt? a.largest x) [
      | inl l ↦ rw (is ∙ max-eq_right (omega arith)) (tells-larger l)
      | inr l ↦ rw (is ∙ max-eq_left l) (tells-another l)
    ]

-- FROM CODE TO CODE, as a loop counts them
module _ {figs : List ℕ} {p : ℕ} {a : Progress} where
  pub tells-next : Tells figs (suc p) a → Tells figs (p + 1) a
  tells-next t = rw (add-one p) t
