-- Placements given by the section of each train: whether they name a section that is not there, and, where they name none, what their code stands for. Assumes nothing.
use mathlib.Core.Path.{◌≡◌, ap, ◌∙◌}
use mathlib.Core.Logic.{inl, inr}
use mathlib.Core.Bool.{true, false, not}
use mathlib.Core.List.{List}
use Prim.Native.Nat.{ℕ, ◌≤◌, ◌<◌}
use lib.ListN.{length, get_or}
use lib.Dec.{ltb}
use borrow.Author.Tests.{ltb-true, lt-ltb, le-ltb}
use Rattle.laws.specs.Below.{list_below}
use Rattle.laws.proofs.Bools.{bool?, clash, not_is}
use Rattle.laws.proofs.Below.{any_at, any_of, any_false, list_length, list_get}
use Rattle.railway.specs.declared.Railway.{Railway}
use Rattle.game.specs.Placement.{sections_in, placements, sections_of, stands_on, code_on, names_none}
use Rattle.game.proofs.Placement.{AllBelow, code_below, sections-code}

module _ (r : Railway) (section : ℕ → ℕ) where
  pub some-named : (t : ℕ) → t < r.trains → r.sections ≤ section t → names_none r section ≡ true
  unfolding names_none
  some-named t l b = any_of (λ u. not (ltb (section u) r.sections)) r.trains t l (ap not (le-ltb (section t) r.sections b))

  pub none_named : ((t : ℕ) → t < r.trains → section t < r.sections) → names_none r section ≡ false
  unfolding names_none
  none_named h = elim (bool? (names_none r section)) [
    | inr e ↦ e
    | inl e ↦
        let x = any_at (λ u. not (ltb (section u) r.sections)) r.trains e in
        clash x.2 (ap not (lt-ltb (section x.0) r.sections (h x.0 x.1)))
  ]

  -- WHERE EVERY SECTION IS THERE
  module _ (e : names_none r section ≡ false) where
    pub all_named : (t : ℕ) → t < r.trains → section t < r.sections
    unfolding names_none
    all_named t l = ltb-true (section t) r.sections (not_is _ (any_false (λ u. not (ltb (section u) r.sections)) r.trains e t l))

    all_in : AllBelow r.sections (list_below section r.trains)
    all_in i l = let m : i < r.trains = rw (list_length section r.trains) at l in rw (list_get section r.trains i 0 m) (all_named i m)

    -- the code is one of the railway's
    pub code-named : code_on r section < placements r
    code-named = rw (list_length section r.trains) at (code_below r.sections (list_below section r.trains) all_in)

    -- and stands for these sections
    pub sections-named : 0 < r.sections → sections_of r (code_on r section) ≡ list_below section r.trains
    sections-named one =
        let c : sections_in r.sections (length (list_below section r.trains)) (code_on r section)
        ≡ list_below section r.trains = sections-code r.sections (list_below section r.trains) one all_in in
        rw (list_length section r.trains) at c

    pub stands-named : 0 < r.sections → (t : ℕ) → t < r.trains → stands_on r (code_on r section) t ≡ section t
    unfolding stands_on
    stands-named one t l = ap (λ (xs : List ℕ). get_or xs t 0) (sections-named one) ∙ list_get section r.trains t 0 l
