-- The search for the next placement with a figure: none from c on before the code that the loop has reached, so that the first found is the lowest.
-- Assumes nothing.
use Prim.Native.Nat.{ℕ, ◌+◌, ◌<◌, ◌≤◌}
use mathlib.Core.Path.{◌≡◌, sym, ◌∙◌}
use mathlib.Core.Logic.{inl, inr}
use mathlib.Core.Bool.{Bool, true, false}
use mathlib.Core.List.{List}
use mathlib.Core.Option.{none, some}
use native.Mathlib.Omega.{arith}
use lib.Dec.{leb}
use borrow.Author.Tests.{le-leb, lt-leb}
use Rattle.laws.specs.Below.{any_below, lowest}
use Rattle.laws.proofs.Bools.{lt?, clash, and-true, some-none, some_one}
use Rattle.laws.proofs.Below.{any_false, any_next, none_any, lowest-cases, lowest-least}
use Rattle.plan.specs.Text.{has_figure}
use Rattle.plan.specs.Emitter.{figure_from}

-- THE LOWEST by a loop
module _ (f : ℕ → Bool) (total : ℕ) where
  lowest-found : (p : ℕ) → any_below f p ≡ false → f p ≡ true → p < total → lowest f total ≡ some p
  lowest-found p before here l = elim (lowest-cases f total) [
    | inl r ↦
        let least : r.0 ≤ p = lowest-least f total r.0 r.1 p here l in
        elim (lt? r.0 p) [
          | inl h ↦ clash r.3 (any_false f p before r.0 h)
          | inr h ↦ let z : r.0 ≡ p = omega arith in r.1 ∙ rw z
        ]
    | inr r ↦ clash here (r.1 p l)
  ]

  lowest-none : (p : ℕ) → any_below f p ≡ false → total ≤ p → lowest f total ≡ none
  lowest-none p before l = elim (lowest-cases f total) [
    | inl r ↦ clash r.3 (any_false f p before r.0 (omega (arith, r.2)))
    | inr r ↦ r.0
  ]

  -- what is found passes
  pub found-passes : (p : ℕ) → lowest f total ≡ some p → f p ≡ true
  found-passes p e = elim (lowest-cases f total) [
    | inl r ↦ let z : r.0 ≡ p = some_one (sym r.1 ∙ e) in rw z at r.3
    | inr r ↦ some-none e r.0
  ]

-- THE LOOP from c on
module _ (figs : List ℕ) (c : ℕ) where
  pub next_start : any_below (figure_from figs c) c ≡ false
  next_start = none_any (figure_from figs c) c (λ i l. rw (lt-leb c i l))

  module _ (p : ℕ) (from : c ≤ p) (before : any_below (figure_from figs c) p ≡ false) where
    module _ (b : Bool) (is : b ≡ has_figure figs p) where
      here : figure_from figs c p ≡ b
      here = rw (le-leb c p from, is)

      pub next-step : b ≡ false → any_below (figure_from figs c) (p + 1) ≡ false
      next-step e = any_next (figure_from figs c) p before (here ∙ e)

      pub next-found : (total : ℕ) → b ≡ true → p < total → lowest (figure_from figs c) total ≡ some p
      next-found total e l = lowest-found (figure_from figs c) total p before (here ∙ e) l

    pub next-none : (total : ℕ) → total ≤ p → lowest (figure_from figs c) total ≡ none
    next-none total l = lowest-none (figure_from figs c) total p before l

pub from-figure : (figs : List ℕ) (c p : ℕ) → figure_from figs c p ≡ true → has_figure figs p ≡ true
from-figure figs c p e = (and-true (leb c p) (has_figure figs p) e).1
