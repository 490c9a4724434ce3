-- Laws for the loops over trains and codes: one more of them, and what all of them make.
-- Assumes nothing.
use mathlib.Core.Path.{◌≡◌, sym, ◌∙◌}
use mathlib.Core.Logic.{inl, inr}
use mathlib.Core.Bool.{false}
use mathlib.Core.List.{List}
use mathlib.Core.Option.{none, some}
use Prim.Native.Nat.{ℕ, ◌+◌, ◌≤◌, ◌<◌}
use native.Mathlib.Omega.{arith}
use lib.ListN.{length, get_or}
use lib.Dec.{eqb}
use Rattle.laws.specs.Below.{any_below}
use Rattle.laws.proofs.Bools.{bool?, eq?, some-none, some_one}
use Rattle.laws.proofs.Lists.{get_or-inside}
use Rattle.railway.specs.declared.Railway.{Railway}
use Rattle.game_tables.specs.Tables.{no_figure, figure_entry}
use Rattle.solver_dues.specs.Dues.{same_weight, LeastFrom, DueBy, NextBy}
use Rattle.solver_marks.specs.Marks.{due_at}

entry-is : (x j : ℕ) → figure_entry x ≡ some j → x ≡ j
entry-is x j e = elim (bool? (eqb x no_figure)) [
  | inl y ↦ let s : figure_entry x ≡ none = rw y in some-none e s
  | inr y ↦ let s : figure_entry x ≡ some x = rw y in some_one (sym s ∙ e)
]

-- BY ONE WEIGHT: no figure is large enough; a number that comes behind n; the least figure and the weight
module _ (figs : List ℕ) (most n w from upto : ℕ) where
  pub due-none : (lo d : ℕ) → ((j : ℕ) → n < j + w → lo ≤ j) → most < lo → DueBy figs most n w from upto d
  due-none lo d ahead l = record { later = λ q j a b e m h. absurd (omega (arith, ahead j h)) }

  pub due-after : (d : ℕ) → ((k : ℕ) → n < k → d ≤ k) → DueBy figs most n w from upto d
  due-after d after = record { later = λ q j a b e m h. after (j + w) h }

  pub due-least : (lo f d : ℕ) → ((j : ℕ) → n < j + w → lo ≤ j) → LeastFrom figs lo from upto f → ((j : ℕ) → f ≤ j → d ≤ j + w) → DueBy figs most n w from upto d
  due-least lo f d ahead least with_it =
      record {
        later = λ q j a b e m h.
            let x : get_or figs q no_figure ≡ j = entry-is (get_or figs q no_figure) j e in
            with_it j (let y : f ≤ get_or figs q no_figure = least q a b (let z : lo ≤ j = ahead j h in omega arith) in omega arith);
      }

-- THE NEXT ROUND by the weights of the first trains, and of one more
pub next_more : (r : Railway) (marks : List ℕ) (m n t a b d : ℕ) → NextBy r marks m n t a → b ≤ a → b ≤ d
    → (any_below (same_weight r t) t ≡ false → (q i : ℕ) → q < m → n < i → due_at marks t q ≤ i → d ≤ i) → NextBy r marks m n (t + 1) b
next_more r marks m n t a b d h la ld one u q i lu first lq li due = elim (eq? u t) [
  | inr z ↦ omega (arith, h u q i (omega (arith, z)) first lq li due)
  | inl z ↦ omega (arith, one (rw z at first) q i lq li (rw z at due))
]
