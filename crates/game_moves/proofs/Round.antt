-- Codes and placements by value, and back: nothing is lost either way. Home's code is the code of home, and of no other placement; no two
-- trains of an accepted record have one destination, so home is not lost. And the
-- hypothesis that a placement by value is that of a code can be met. All goes by the lists of sections: a placement's is the code's.
-- Assumes nothing.
use mathlib.Core.Path.{◌≡◌, sym, ◌∙◌, ap}
use mathlib.Core.Bool.{true, false}
use mathlib.Core.List.{List}
use native.Mathlib.Omega.{arith}
use Prim.Native.Nat.{ℕ, ◌<◌}
use lib.ListN.{length}
use borrow.Author.Tests.{eqb-true, eq-eqb}
use Rattle.laws.specs.Below.{list_below}
use Rattle.laws.proofs.Bools.{not-true}
use Rattle.laws.proofs.Below.{all-at, all_of, any_at, list_length, list_get}
use Rattle.railway.specs.declared.Railway.{Railway}
use Rattle.railway.specs.Bounds.{most_trains}
use Rattle.railway.specs.Record.{train_of}
use Rattle.railway.proofs.Rows.{Accepted}
use Rattle.game.specs.Placement.{code_of, sections_in, sections_of, placements, stands_on, arrived, at_home, stands_with, shares_lower, shared, code_on}
use Rattle.game.proofs.Placement.{AllBelow, code-sections, sections-code}
use Rattle.game.proofs.Accepted.{Facts}
use Rattle.railway_compiled.specs.Table.{Compiled}
use Rattle.game_placement.specs.declared.Placement.{Placement}
use Rattle.game_moves.specs.Answers.{home_code}
use Rattle.game_placement.specs.ByValue.{section_in}
use Rattle.game_moves.specs.Steps.{On}
use Rattle.game_moves.proofs.Placing.{table-facts, placed, sections-listed}

module _ (r : Railway) (facts : Facts r) where
  pub code-again : (f : ℕ → ℕ) (p : ℕ) → p < placements r → ((t : ℕ) → t < r.trains → f t ≡ stands_on r p t) → code_on r f ≡ p
  code-again f p l same = ap (code_of r.sections) (sections-listed r f p same) ∙ code-sections r.sections r.trains p facts.one-section l

  pub sections-again : (f : ℕ → ℕ) → ((t : ℕ) → t < r.trains → f t < r.sections) → (t : ℕ) → t < r.trains → stands_on r (code_on r f) t ≡ f t
  unfolding stands_on
  sections-again f small t l =
      let below : AllBelow r.sections (list_below f r.trains) = (λ i m. let n : i < r.trains = rw (list_length f r.trains) at m in rw (list_get f r.trains i 0 n) (small i n)) in
      let again : sections_in r.sections (length (list_below f r.trains)) (code_on r f) ≡ list_below f r.trains =
      sections-code r.sections (list_below f r.trains) facts.one-section below in
      let same : sections_of r (code_on r f) ≡ list_below f r.trains = rw (list_length f r.trains) at again in
      rw same (list_get f r.trains t 0 l)

  -- HOME has home's code, and only home has.
  on-destination : (t : ℕ) → t < r.trains → stands_on r (home_code r) t ≡ (train_of r t).destination.0
  unfolding home_code
  on-destination t l = sections-again (λ t. (train_of r t).destination.0) facts.destinations t l

  pub home-code-home : at_home r (home_code r) ≡ true
  unfolding at_home
  home-code-home = all_of (arrived r (home_code r)) r.trains (λ t l. eq-eqb _ _ (on-destination t l))

  pub home-code-apart : Accepted r → shared r (home_code r) ≡ false
  unfolding shared
  home-code-apart w =
      not-true (shared r (home_code r)) (λ y.
      let a = any_at (shares_lower r (home_code r)) r.trains y in
      let b = any_at (stands_with r (home_code r) a.0) a.0 a.2 in
      let there : b.0 < r.trains = omega (arith, a.1, b.1) in
      w.destinations a.0 b.0 b.1 a.1 (sym (on-destination b.0 there) ∙ eqb-true _ _ b.2 ∙ on-destination a.0 a.1))

  pub home-has-code : (p : ℕ) → p < placements r → at_home r p ≡ true → p ≡ home_code r
  unfolding at_home home_code
  home-has-code p l h = sym (code-again (λ t. (train_of r t).destination.0) p l (λ t m. sym (eqb-true _ _ (all-at (arrived r p) r.trains h t m))))

-- The placement of a code, and its code.
module _ (r : Railway) (table : List ℕ) (h : Compiled r table) (p : ℕ) where
  pub on_one : On r p table (record { sections = list_below (stands_on r p) most_trains })
  on_one = placed r table h p (record { sections = list_below (stands_on r p) most_trains }) (list_length (stands_on r p) most_trains) (λ t l. list_get (stands_on r p) most_trains t 0 l)

  pub code-back : (q : Placement) → On r p table q → p < placements r → code_on r (section_in q) ≡ p
  code-back q on l = code-again r (table-facts r table h) (section_in q) p l (λ t m. on.stands t)
