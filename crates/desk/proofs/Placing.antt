-- Laws of a desk's placement: it can be exactly if its sections are there and no two trains share one, since its code then stands for those sections. A train put on
-- another section is put there in the code too, and nowhere else, so a desk keeps its size and its trains stay apart where no other stood there. Assumes nothing.
use mathlib.Core.Path.{◌≡◌, sym, ◌∙◌, ap}
use mathlib.Core.Logic.{◌↔◌, inl, inr}
use mathlib.Core.Bool.{true, false, not}
use mathlib.Core.List.{List}
use mathlib.Core.Option.{none}
use Prim.Native.Nat.{ℕ, ◌<◌}
use native.Mathlib.Omega.{arith}
use lib.ListN.{length, set, length-set}
use lib.Seq.{get_or-set_same, get_or-set_other, ext_get_or}
use lib.Dec.{eqb}
use borrow.Author.Tests.{eqb-false, eq-eqb, ne_eqb}
use Rattle.laws.specs.Below.{list_below}
use Rattle.laws.proofs.Bools.{eq?, lt?, clash, or-none, or-false, and_both}
use Rattle.laws.proofs.Below.{any_false, none_any, list_length, list_get, list_same}
use Rattle.railway.specs.declared.Railway.{Railway}
use Rattle.railway.specs.Bounds.{most_trains}
use Rattle.railway.specs.Record.{train_of}
use Rattle.railway.specs.Rows.{record_refusal}
use Rattle.railway.proofs.Rows.{accepted-facts}
use Rattle.game.specs.Placement.{code_of, placements, sections_of, stands_on, code_on, names_none, start_code, stands_with, shares_lower, shared}
use Rattle.game.specs.Moves.{other_on, occupied, code_with}
use Rattle.game.proofs.Accepted.{Facts, facts}
use Rattle.game.proofs.Naming.{none_named, all_named, code-named, sections-named, stands-named}
use Rattle.game_placement.specs.declared.Placement.{Placement}
use Rattle.game_placement.specs.ByValue.{section_in}
use Rattle.desk.specs.Desk.{Desk, desk_code, misplaced, desk_row, start_desk, moved_desk}
use Rattle.desk.specs.Following.{Carries, Apart}
-- (Examples is named so that it is checked before: a wrong definition then shows at a computed value.)
use Rattle.desk.proofs.Carrying.{made-right, sound-exactly}

-- numbers below k have different values, if no lower one has that of a higher
both_ways : (k : ℕ) (f : ℕ → ℕ) → ((t u : ℕ) → u < t → t < k → f u ≡ f t → ⊥) → (t u : ℕ) → t < k → u < k → f t ≡ f u → t ≡ u
both_ways k f h t u l m e = elim (lt? t u) [ inl b ↦ absurd (h u t b m e) | inr b ↦ elim (lt? u t) [ inl c ↦ absurd (h t u c l (sym e)) | inr c ↦ omega (arith, b, c) ] ]

-- WHAT 12 ASKS OF A PLACEMENT, test by test
misplaced-exactly : (r : Railway) (q : Placement) → (misplaced r q ≡ false) ↔ ((names_none r (section_in q) ≡ false) × (shared r (code_on r (section_in q)) ≡ false))
unfolding misplaced
misplaced-exactly r q = (
  or-false (names_none r (section_in q)) (shared r (code_on r (section_in q))),
  (λ h. or-none (names_none r (section_in q)) (shared r (code_on r (section_in q))) h.0 h.1),
)

-- where every section is there, its code stands for them
module _ (r : Railway) (q : Placement) (named : names_none r (section_in q) ≡ false) where
  stands-in : (t : ℕ) → t < r.trains → stands_on r (code_on r (section_in q)) t ≡ section_in q t
  stands-in t l = stands-named r (section_in q) named (omega (arith, all_named r (section_in q) named t l)) t l

  -- two trains on the same section, the lower one first
  not-both : shared r (code_on r (section_in q)) ≡ false → (t u : ℕ) → u < t → t < r.trains → section_in q u ≡ section_in q t → ⊥
  unfolding shared
  not-both e t u k l same =
      let p : ℕ = code_on r (section_in q) in
      eqb-false (stands_on r p u) (stands_on r p t) (any_false (stands_with r p t) t (any_false (shares_lower r p) r.trains e t l) u k)
      (stands-in u (omega arith) ∙ same ∙ sym (stands-in t l))

  none-shared : ((t u : ℕ) → t < r.trains → u < r.trains → section_in q t ≡ section_in q u → t ≡ u) → shared r (code_on r (section_in q)) ≡ false
  unfolding shared
  none-shared h =
      let p : ℕ = code_on r (section_in q) in
      none_any (shares_lower r p) r.trains (λ t l.
      none_any (stands_with r p t) t (λ u k.
      let m : u < r.trains = omega arith in
      ne_eqb (stands_on r p u) (stands_on r p t) (λ e. let z : u ≡ t = h u t m l (sym (stands-in u m) ∙ e ∙ stands-in t l) in omega arith)))

pub placed-exactly : (r : Railway) (q : Placement) → (misplaced r q ≡ false) ↔ Apart r q
placed-exactly r q = (there, λ h. let n : names_none r (section_in q) ≡ false = none_named r (section_in q) h.there in (misplaced-exactly r q).1 (n, none-shared r q n h.alone))
  where
    there : misplaced r q ≡ false → Apart r q
    there e =
        let m = (misplaced-exactly r q).0 e in
        record {
          there = all_named r (section_in q) m.0;
          alone = both_ways r.trains (section_in q) (not-both r q m.0 m.1);
        }

-- A desk with places for the most trains, whose placement can be, and which carries what is right: 12 does not stop it.
pub record Placed (r : Railway) (d : Desk) : Type 0 where
  pub sized : length d.at.sections ≡ most_trains
  pub apart : Apart r d.at
  pub carries : Carries r d

pub placed-so : (r : Railway) (d : Desk) → length d.at.sections ≡ most_trains → desk_row r d ≡ false → Placed r d
placed-so r d sized e = let s = (sound-exactly r d).0 e in record { sized = sized; apart = (placed-exactly r d.at).0 s.0; carries = s.1 }

pub so-placed : (r : Railway) (d : Desk) → Placed r d → desk_row r d ≡ false
so-placed r d h = (sound-exactly r d).1 ((placed-exactly r d.at).1 h.apart, h.carries)

module _ (r : Railway) (ok : Facts r) (d : Desk) (h : Placed r d) where
  all_there : names_none r (section_in d.at) ≡ false
  all_there = none_named r (section_in d.at) h.apart.there

  pub none-together : shared r (desk_code r d) ≡ false
  none-together = none-shared r d.at all_there h.apart.alone

  pub code-there : desk_code r d < placements r
  code-there = code-named r (section_in d.at) all_there

  code-sections : sections_of r (desk_code r d) ≡ list_below (section_in d.at) r.trains
  code-sections = sections-named r (section_in d.at) all_there ok.one-section

  -- ONE TRAIN PUT ELSEWHERE
  module _ (t x : ℕ) (l : t < r.trains) where
    moved_same : section_in (moved_desk r d t x).at t ≡ x
    moved_same = get_or-set_same d.at.sections t x 0 (let e : length d.at.sections ≡ most_trains = h.sized in rw e (omega (arith, ok.few-trains)))

    moved_other : (u : ℕ) → (u ≡ t → ⊥) → section_in (moved_desk r d t x).at u ≡ section_in d.at u
    moved_other u n = get_or-set_other d.at.sections t u x 0 n

    -- no other train stands there
    no_other : occupied r (desk_code r d) t x ≡ false → (u : ℕ) → u < r.trains → (u ≡ t → ⊥) → section_in d.at u ≡ x → ⊥
    unfolding occupied
    no_other e u k n same =
        let there : eqb (stands_on r (desk_code r d) u) x ≡ true = eq-eqb _ _ (stands-in r d.at all_there u k ∙ same) in
        clash (and_both (not (eqb u t)) (eqb (stands_on r (desk_code r d) u) x) (ap not (ne_eqb u t n)) there) (any_false (other_on r (desk_code r d) t x) r.trains e u k)

    pub moved-placed : x < r.sections → occupied r (desk_code r d) t x ≡ false → Placed r (moved_desk r d t x)
    moved-placed m empty =
        record {
          sized = length-set d.at.sections t x ∙ h.sized;
          apart =
              record {
                there = λ u k. elim (eq? u t) [
                  | inl e ↦ rw (e, moved_same) m
                  | inr e ↦ rw (moved_other u e) (h.apart.there u k)
                ];
                alone = λ u v k n same. elim (eq? u t) [
                  | inl e ↦ elim (eq? v t) [
                    | inl f ↦ e ∙ sym f
                    | inr f ↦ absurd (no_other empty v n f (sym (moved_other v f) ∙ sym same ∙ rw e moved_same))
                  ]
                  | inr e ↦ elim (eq? v t) [
                    | inl f ↦ absurd (no_other empty u k e (sym (moved_other u e) ∙ same ∙ rw f moved_same))
                    | inr f ↦ h.apart.alone u v k n (sym (moved_other u e) ∙ same ∙ moved_other v f)
                  ]
                ];
              };
          carries = made-right r _;
        }

    lists : list_below (section_in (moved_desk r d t x).at) r.trains ≡ set (list_below (section_in d.at) r.trains) t x
    lists =
        ext_get_or 0 (list_below (section_in (moved_desk r d t x).at) r.trains) (set (list_below (section_in d.at) r.trains) t x)
        (list_length (section_in (moved_desk r d t x).at) r.trains ∙ sym (length-set (list_below (section_in d.at) r.trains) t x ∙ list_length (section_in d.at) r.trains))
        (λ u m.
        let k : u < r.trains = rw (list_length (section_in (moved_desk r d t x).at) r.trains) at m in
        list_get (section_in (moved_desk r d t x).at) r.trains u 0 k ∙ elim (eq? u t) [
          | inl e ↦ rw e (moved_same ∙ sym (get_or-set_same (list_below (section_in d.at) r.trains) t x 0 (rw (list_length (section_in d.at) r.trains) l)))
          | inr e ↦ moved_other u e ∙ sym (get_or-set_other (list_below (section_in d.at) r.trains) t u x 0 e ∙ list_get (section_in d.at) r.trains u 0 k)
        ])

    pub moved-code : desk_code r (moved_desk r d t x) ≡ code_with r (desk_code r d) t x
    moved-code = ap (code_of r.sections) (lists ∙ ap (λ (xs : List ℕ). set xs t x) (sym code-sections))

-- THE DESK AT THE START
module _ (r : Railway) (acc : record_refusal r ≡ none) where
  pub start-on : (t : ℕ) → t < r.trains → section_in (start_desk r).at t ≡ (train_of r t).start.0
  start-on t l = list_get (λ u. (train_of r u).start.0) most_trains t 0 (omega (arith, (facts r acc).few-trains))

  pub start-placed : Placed r (start_desk r)
  start-placed =
      record {
        sized = list_length (λ t. (train_of r t).start.0) most_trains;
        apart =
            record {
              there = λ t l. rw (start-on t l) ((facts r acc).starts t l);
              alone = λ t u l k e. both_ways r.trains (λ v. (train_of r v).start.0) (accepted-facts r acc).starts t u l k (sym (start-on t l) ∙ e ∙ start-on u k);
            };
        carries = made-right r _;
      }

  pub start_is : desk_code r (start_desk r) ≡ start_code r
  unfolding start_code
  start_is = ap (code_of r.sections) (list_same (section_in (start_desk r).at) (λ t. (train_of r t).start.0) r.trains start-on)
