-- Placements by value, read from a table: where the table is an accepted railway's, what is read is what the definitions give.
-- Assumes nothing.
use mathlib.Core.Path.{◌≡◌, refl, sym, ◌∙◌, ap}
use mathlib.Core.Logic.{inl, inr}
use mathlib.Core.Bool.{Bool, false, cond, not}
use mathlib.Core.List.{List, [], ◌∷◌}
use Prim.Native.Nat.{ℕ, ◌+◌, ◌*◌, ◌/◌, ◌%◌, ◌^◌, ◌≤◌, ◌<◌}
use native.Mathlib.Omega.{arith}
use lib.Dec.{ltb, eqb}
use lib.ListN.{length, get_or, set, get_or-eq_default}
use lib.Seq.{ext_get_or, get_or-set_same, get_or-set_other}
use borrow.Author.Tests.{lt-ltb, le-ltb, eq-eqb, ne_eqb}
use Rattle.laws.specs.Below.{all_below, any_below, list_below}
use Rattle.laws.proofs.Bools.{lt?, eq?}
use Rattle.laws.proofs.Lists.{of_four}
use Rattle.laws.proofs.Below.{any_same, list_length, list_get, list_same}
use Rattle.railway.specs.declared.Railway.{Railway}
use Rattle.railway.specs.Bounds.{most_trains}
use Rattle.railway.specs.Record.{train_of}
use Rattle.game.specs.Placement.{code_of, sections_of, placements, stands_on, arrived, at_home, stands_with, shares_lower, shared, code_on, names_none}
use Rattle.game.proofs.Placement.{sections-length}
use Rattle.game.proofs.Accepted.{Facts, facts}
use Rattle.railway_compiled.specs.Table.{Compiled}
use Rattle.game_placement.specs.declared.Placement.{Placement}
use Rattle.game_placement.specs.ByValue.{section_in}
use Rattle.game_placement.proofs.ByValue.{section-past}
use Rattle.game_moves.specs.Steps.{On, moved_to, put_in, other_in}
use Rattle.game_moves.proofs.Coding.{without, section-left, code-of-sections}

-- A list of sections with one train put elsewhere.
pub put-section : (xs : List ℕ) (t x : ℕ) → t < length xs → (u : ℕ) → get_or (set xs t x) u 0 ≡ cond (eqb u t) x (get_or xs u 0)
put-section xs t x l u = elim (eq? u t) [
  | inl z ↦ rw (z, eq-eqb t t refl) (get_or-set_same xs t x 0 l)
  | inr z ↦ rw (ne_eqb u t z) (get_or-set_other xs t u x 0 z)
]

-- A placement by value with one train put elsewhere, if it has a place for the train.
module _ (q : Placement) (t x : ℕ) where
  put-within : (u : ℕ) → u < most_trains → moved_to q t x u ≡ put_in q t x u
  put-within u l = elim (lt? t most_trains) [ inl h ↦ rw (lt-ltb t most_trains h) | inr h ↦ rw (le-ltb t most_trains h, ne_eqb u t (λ z. omega arith)) ]

  put-past : (u : ℕ) → most_trains ≤ u → section_in q u ≡ put_in q t x u
  put-past u l = elim (lt? t most_trains) [ inl h ↦ rw (lt-ltb t most_trains h, ne_eqb u t (λ z. omega arith)) | inr h ↦ rw (le-ltb t most_trains h) ]

  pub put-each : (a b c d : ℕ) → a ≡ moved_to q t x 0 → b ≡ moved_to q t x 1 → c ≡ moved_to q t x 2 → d ≡ moved_to q t x 3 → length q.sections ≡ most_trains
      → (u : ℕ) → get_or (a ∷ b ∷ c ∷ d ∷ []) u 0 ≡ put_in q t x u
  put-each a b c d ea eb ec ed sized u = elim (lt? u most_trains) [
    | inl l ↦
        of_four (λ v y. y ≡ put_in q t x v) 0 a b c d (ea ∙ put-within 0 (omega arith)) (eb ∙ put-within 1 (omega arith)) (ec ∙ put-within 2 (omega arith))
        (ed ∙ put-within 3 (omega arith)) u l
    | inr l ↦ get_or-eq_default (a ∷ b ∷ c ∷ d ∷ []) 0 l ∙ section-past q u (rw sized l) ∙ put-past u l
  ]

-- The sections of a code, train by train.
pub sections-listed : (r : Railway) (f : ℕ → ℕ) (p : ℕ) → ((t : ℕ) → t < r.trains → f t ≡ stands_on r p t) → list_below f r.trains ≡ sections_of r p
unfolding stands_on
sections-listed r f p same =
    ext_get_or 0 (list_below f r.trains) (sections_of r p) (list_length f r.trains ∙ sym (sections-length r.sections r.trains p))
    (λ t l. let m : t < r.trains = rw (list_length f r.trains) at l in list_get f r.trains t 0 m ∙ same t m)

pub placements-are : (r : Railway) (s k w : ℕ) → s ≡ r.sections → k ≡ r.trains → w ≡ s ^ k → w ≡ placements r
placements-are r s k w es ek h = rw (es, ek) at h

module _ (r : Railway) (table : List ℕ) (h : Compiled r table) where
  pub table-facts : Facts r
  table-facts = facts r h.accepted

  pub few-trains : (k : ℕ) → k ≡ r.trains → k ≤ most_trains
  few-trains k e = rw e table-facts.few-trains

  -- THE SECTION of a train.
  pub past-trains : (p t : ℕ) → r.trains ≤ t → 0 ≡ stands_on r p t
  unfolding stands_on
  past-trains p t l = sym (get_or-eq_default (sections_of r p) 0 (rw (sections-length r.sections r.trains p) l))

  -- A placement by value is that of code p if every train stands in it where the code has it.
  pub placed : (p : ℕ) (q : Placement) → length q.sections ≡ most_trains → ((t : ℕ) → t < most_trains → section_in q t ≡ stands_on r p t) → On r p table q
  placed p q sized stand =
      record {
        compiled = h;
        stands = λ t. elim (lt? t most_trains) [
          | inl l ↦ stand t l
          | inr l ↦ sym (section-past q t (rw sized l)) ∙ past-trains p t (omega (arith, table-facts.few-trains))
        ];
      }

  module _ (p s k : ℕ) (es : s ≡ r.sections) (ek : k ≡ r.trains) where
    some-section : 0 < s
    some-section = rw es table-facts.one-section

    -- The first section of what is left of the code without t trains.
    stands-left : (t q x : ℕ) → q ≡ without s t p → (0 < s → x ≡ cond (ltb t k) (q % s) 0) → x ≡ stands_on r p t
    unfolding stands_on
    stands-left t q x e h =
        let z : x ≡ cond (ltb t k) (without s t p % s) 0 = rw (← e) (h some-section) in
        z ∙ sym (section-left s k p t) ∙ rw (es, ek)

    module _ (b c d : ℕ) (eb : 0 < s → b ≡ p / s) (ec : 0 < s → c ≡ b / s) (ed : 0 < s → d ≡ c / s) where
      one_left : b ≡ p / s
      one_left = eb some-section

      two-left : c ≡ p / s / s
      two-left = ec some-section ∙ ap (λ (q : ℕ). q / s) one_left

      three-left : d ≡ p / s / s / s
      three-left = ed some-section ∙ ap (λ (q : ℕ). q / s) two-left

      pub sections-left : (v w x y : ℕ)
          → (0 < s → v ≡ cond (ltb 0 k) (p % s) 0) → (0 < s → w ≡ cond (ltb 1 k) (b % s) 0) → (0 < s → x ≡ cond (ltb 2 k) (c % s) 0) → (0 < s → y ≡ cond (ltb 3 k) (d % s) 0)
          → On r p table (record { sections = v ∷ w ∷ x ∷ y ∷ [] })
      unfolding without
      sections-left v w x y hv hw hx hy =
          placed p (record { sections = v ∷ w ∷ x ∷ y ∷ [] }) refl
          (of_four (λ t z. z ≡ stands_on r p t) 0 v w x y (stands-left 0 p v refl hv) (stands-left 1 b w one_left hw) (stands-left 2 c x two-left hx) (stands-left 3 d y three-left hy))

  -- CODES of the same sections are the same.
  code_same : (f g : ℕ → ℕ) (p : ℕ) → ((t : ℕ) → t < r.trains → f t ≡ g t) → p ≡ code_on r f → p ≡ code_on r g
  code_same f g p same e = e ∙ ap (code_of r.sections) (list_same f g r.trains same)

  -- The code of a placement whose sections are those of f, train by train.
  pub code-each : (f : ℕ → ℕ) (q : Placement) (p : ℕ) → ((t : ℕ) → t < most_trains → section_in q t ≡ f t) → p ≡ code_on r (section_in q) → p ≡ code_on r f
  code-each f q p each = code_same (section_in q) f p (λ t l. each t (omega (arith, table-facts.few-trains)))

  -- The code of a placement with train t put on section x.
  pub code-with-is : (q : Placement) (t x s k a b c d p : ℕ) → s ≡ r.sections → k ≡ r.trains
      → a ≡ cond (ltb 0 k) (moved_to q t x 0) 0 → b ≡ cond (ltb 1 k) (moved_to q t x 1) 0 → c ≡ cond (ltb 2 k) (moved_to q t x 2) 0 → d ≡ cond (ltb 3 k) (moved_to q t x 3) 0
      → p ≡ a + s * (b + s * (c + s * d)) → p ≡ code_on r (moved_to q t x)
  code-with-is q t x s k a b c d p es ek ea eb ec ed e =
      let w : p ≡ code_of s (list_below (moved_to q t x) k) = e ∙ code-of-sections s k (moved_to q t x) a b c d (few-trains k ek) ea eb ec ed in
      rw (es, ek) at w

  -- A train that is not there, put anywhere, changes no code.
  pub code-unmoved : (q : Placement) (p : ℕ) → p ≡ code_on r (moved_to q most_trains 0) → p ≡ code_on r (section_in q)
  code-unmoved q p = code_same (moved_to q most_trains 0) (section_in q) p (λ t l. rw (ne_eqb t most_trains (λ z. omega (arith, table-facts.few-trains))))

-- ONE TRAIN PUT ELSEWHERE, by the tests that code makes.
module _ (q : Placement) (k t x u : ℕ) where
  pub moved-past : k ≤ u → 0 ≡ cond (ltb u k) (moved_to q t x u) 0
  moved-past l = rw (le-ltb u k l)

  pub moved-itself : u < k → u ≡ t → x ≡ cond (ltb u k) (moved_to q t x u) 0
  moved-itself l e = rw (lt-ltb u k l, eq-eqb u t e)

  pub moved_other : (y : ℕ) → u < k → (u ≡ t → ⊥) → y ≡ section_in q u → y ≡ cond (ltb u k) (moved_to q t x u) 0
  moved_other y l n e = rw (lt-ltb u k l, ne_eqb u t n) e

module _ (q : Placement) (t x u : ℕ) where
  pub not-other : u ≡ t → false ≡ other_in q t x u
  not-other e = rw (eq-eqb u t e)

  pub other-is : (y : ℕ) → (u ≡ t → ⊥) → y ≡ section_in q u → eqb y x ≡ other_in q t x u
  other-is y n e = rw (ne_eqb u t n, e)

-- LOST AND HOME, of one train.
module _ (r : Railway) (p : ℕ) (table : List ℕ) (q : Placement) (on : On r p table q) (t : ℕ) where
  pub shares-is : (x : ℕ) (b : Bool) → x ≡ section_in q t → b ≡ any_below (other_in q t x) t → b ≡ shares_lower r p t
  shares-is x b e h =
      h ∙ any_same (other_in q t x) (stands_with r p t) t (λ u l. let a : section_in q u ≡ stands_on r p u = on.stands u in
      let d : x ≡ stands_on r p t = e ∙ on.stands t in rw (ne_eqb u t (λ z. omega arith), a, d))

  pub arrived-is : (x y : ℕ) → x ≡ section_in q t → y ≡ (train_of r t).destination.0 → eqb x y ≡ arrived r p t
  arrived-is x y e f = let d : x ≡ stands_on r p t = e ∙ on.stands t in rw (d, f)

-- LOST AND HOME, and whether a section is named that is not there: what is asked of the trains of the table is asked of the railway's.
module _ (r : Railway) (p k : ℕ) (e : k ≡ r.trains) {b : Bool} where
  pub lost-is : b ≡ any_below (shares_lower r p) k → b ≡ shared r p
  unfolding shared
  lost-is h = rw e at h

  pub home-is : b ≡ all_below (arrived r p) k → b ≡ at_home r p
  unfolding at_home
  home-is h = rw e at h

pub names-is : (r : Railway) (section : ℕ → ℕ) (k s : ℕ) → k ≡ r.trains → s ≡ r.sections → {b : Bool} → b ≡ any_below (λ t. not (ltb (section t) s)) k → b ≡ names_none r section
unfolding names_none
names-is r section k s ek es h = rw (ek, es) at h
