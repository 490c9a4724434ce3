-- A line end looked for from a place on, byte by byte: as long as none was found, one stands from there on exactly if one stands from here on.
-- Assumes nothing.
use mathlib.Core.Path.{◌≡◌, refl, sym, ◌∙◌, ap}
use mathlib.Core.Bool.{true, false}
use mathlib.Core.List.{List, ◌∷◌}
use Prim.Native.Nat.{ℕ, suc, ◌+◌, ◌≤◌, ◌<◌}
use native.Mathlib.Numerals.{add-one}
use lib.ListN.{length, get_or, drop, drop_of_length-le}
use lib.Seq.{drop-cons}
use borrow.Author.Tests.{eq-eqb, ne_eqb}
use Rattle.laws.specs.Lists.{any}
use Rattle.text.specs.Text.{line_end}
use Rattle.check_text.specs.Pieces.{has_line_end}

pub record NotYet (text : List ℕ) (from at : ℕ) : Type 0 where
  pub same : has_line_end (drop from text) ≡ has_line_end (drop at text)

pub not_yet : (text : List ℕ) (from : ℕ) → NotYet text from from
not_yet text from = record { same = refl }

module _ (text : List ℕ) (from at : ℕ) (w : NotYet text from at) where
  module _ (inside : at < length text) where
    here : drop at text ≡ get_or text at 0 ∷ drop (suc at) text
    here = drop-cons text at 0 inside

    pub not-yet-next : (get_or text at 0 ≡ line_end → ⊥) → NotYet text from (at + 1)
    unfolding any
    not-yet-next other = record { same = w.same ∙ ap has_line_end here ∙ (rw (ne_eqb (get_or text at 0) line_end other, add-one) refl) }

    pub found : get_or text at 0 ≡ line_end → true ≡ has_line_end (drop from text)
    unfolding any
    found is = sym (w.same ∙ ap has_line_end here ∙ (rw (eq-eqb (get_or text at 0) line_end is) refl))

  pub not_found : length text ≤ at → false ≡ has_line_end (drop from text)
  unfolding any
  not_found past = sym (w.same ∙ ap has_line_end (drop_of_length-le text {i = at} past))
