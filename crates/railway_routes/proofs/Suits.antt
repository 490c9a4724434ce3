-- What the points suit, bit by bit: with one more point laid, a way is suited exactly where it was suited before and the point lies so.
-- Assumes nothing.
use mathlib.Core.Path.{◌≡◌, refl, sym, ◌∙◌, ap}
use mathlib.Core.Logic.{inl, inr}
use mathlib.Core.Bool.{Bool, true, false, not, ◌&&◌, ◌||◌}
use Prim.Native.Nat.{ℕ, ◌^◌, ◌<◌}
use lib.Bits.{bit_and, bit_or}
use lib.Dec.{eqb, ltb}
use borrow.Author.Tests.{eqb-true, eq-eqb, ne_eqb, lt-ltb}
use Rattle.laws.specs.Bits.{bit}
use Rattle.laws.proofs.Bools.{eq?, clash, same_bool, and-true, and_both, or_left, or_right, either}
use Rattle.laws.proofs.Bits.{bit-none}
use Rattle.laws.proofs.Bitwise.{bit-and, bit-or, bit-power, bits-ext}
use Rattle.railway.specs.Bounds.{most_points}
use Rattle.railway_routes.specs.Routes.{suits, differs, bars, want_with}

-- (Examples is named so that it is checked before: a wrong definition then shows at a computed value.)

-- two settings of a point are the same
abbrev pub alike : Bool → Bool → Bool
alike true b = b
alike false b = not b

-- BIT BY BIT
pub suits-bits : (b care want : ℕ) → suits b care want ≡ true → (i : ℕ) → (bit b i && bit care i) ≡ bit want i
suits-bits b care want h i = sym (bit-and b care i) ∙ ap (λ (x : ℕ). bit x i) (eqb-true (bit_and b care) want h)

pub bits-suit : (b care want : ℕ) → ((i : ℕ) → (bit b i && bit care i) ≡ bit want i) → suits b care want ≡ true
bits-suit b care want h = eq-eqb (bit_and b care) want (bits-ext (bit_and b care) want (λ i. bit-and b care i ∙ h i))

-- what is wanted is among what matters
abbrev pub Within : ℕ → ℕ → Type 0
Within want care = (i : ℕ) → bit want i ≡ true → bit care i ≡ true

want-bit : (want n : ℕ) (plus : Bool) (i : ℕ) → bit (want_with want n plus) i ≡ (bit want i || (plus && eqb n i))
want-bit want n true i = bit-or want (2 ^ n) i ∙ ap (λ (x : Bool). bit want i || x) (bit-power n i)
want-bit want n false i = off (bit want i)
  where
    off : (a : Bool) → a ≡ (a || false)
    off true = refl
    off false = refl

care-bit : (care n i : ℕ) → bit (bit_or care (2 ^ n)) i ≡ (bit care i || eqb n i)
care-bit care n i = bit-or care (2 ^ n) i ∙ ap (λ (x : Bool). bit care i || x) (bit-power n i)

pub within_more : (want care n : ℕ) (plus : Bool) → Within want care → Within (want_with want n plus) (bit_or care (2 ^ n))
within_more want care n plus h i e =
    care-bit care n i
    ∙ elim (either (bit want i) (plus && eqb n i) (sym (want-bit want n plus i) ∙ e)) [
      | inl y ↦ or_left (bit care i) (eqb n i) (h i y)
      | inr y ↦ or_right (bit care i) (eqb n i) (and-true plus (eqb n i) y).1
    ]

pub within_none : Within 0 0
within_none i y = clash y (bit-none i)

-- ONE POINT MORE
module _ (b care want n : ℕ) (plus : Bool) (within : Within want care) where
  here : (bn cn wn p : Bool) → (wn ≡ true → cn ≡ true) → (cn && differs p wn) ≡ false → (bn && true) ≡ (wn || (p && true))
      → ((bn && cn) ≡ wn) × (alike p bn ≡ true)
  here true true true true h g e = (refl, refl)
  here true true true false h g e = clash refl g
  here true true false true h g e = clash refl g
  here true true false false h g e = clash refl e
  here true false true p h g e = clash (h refl) refl
  here true false false true h g e = (refl, refl)
  here true false false false h g e = clash refl e
  here false cn true p h g e = clash e refl
  here false cn false true h g e = clash e refl
  here false cn false false h g e = (refl, refl)

  elsewhere : (x : Bool) → (x || false) ≡ x
  elsewhere true = refl
  elsewhere false = refl

  away : (p : Bool) → (p && false) ≡ false
  away true = refl
  away false = refl

  on : (x : Bool) → (x || true) ≡ true
  on true = refl
  on false = refl

  lay-back : (bit care n && differs plus (bit want n)) ≡ false → suits b (bit_or care (2 ^ n)) (want_with want n plus) ≡ true
      → (suits b care want ≡ true) × (alike plus (bit b n) ≡ true)
  lay-back g s =
      let all : (i : ℕ) → (bit b i && (bit care i || eqb n i)) ≡ (bit want i || (plus && eqb n i)) = λ i.
      ap (λ (x : Bool). bit b i && x) (sym (care-bit care n i))
      ∙ suits-bits b (bit_or care (2 ^ n)) (want_with want n plus) s i
      ∙ want-bit want n plus i in
      let y : eqb n n ≡ true = eq-eqb n n refl in
      let at_n : (bit b n && (bit care n || true)) ≡ (bit want n || (plus && true)) = rw y at (all n) in
      let z =
      here (bit b n) (bit care n) (bit want n) plus (within n) g
      (ap (λ (x : Bool). bit b n && x) (sym (on (bit care n))) ∙ at_n) in (
        bits-suit b care want (λ i. elim (eq? n i) [
          | inl q ↦ rw q at z.0
          | inr q ↦
              let o : eqb n i ≡ false = ne_eqb n i q in
              ap (λ (x : Bool). bit b i && x) (sym (elsewhere (bit care i)))
              ∙ (rw o at (all i))
              ∙ ap (λ (x : Bool). bit want i || x) (away plus)
              ∙ elsewhere (bit want i)
        ]),
        z.1,
      )

  there : (bn cn wn p : Bool) → (bn && cn) ≡ wn → alike p bn ≡ true
      → ((cn && differs p wn) ≡ false) × ((bn && (cn || true)) ≡ (wn || (p && true)))
  there true true wn true e a = rw (sym e) (refl, refl)
  there true true wn false e a = clash a refl
  there true false wn true e a = rw (sym e) (refl, refl)
  there true false wn false e a = clash a refl
  there false cn wn true e a = clash a refl
  there false true wn false e a = rw (sym e) (refl, refl)
  there false false wn false e a = rw (sym e) (refl, refl)

  lay-on : suits b care want ≡ true → alike plus (bit b n) ≡ true
      → ((bit care n && differs plus (bit want n)) ≡ false) × (suits b (bit_or care (2 ^ n)) (want_with want n plus) ≡ true)
  lay-on s a =
      let all = suits-bits b care want s in
      let z = there (bit b n) (bit care n) (bit want n) plus (all n) a in (
        z.0,
        bits-suit b (bit_or care (2 ^ n)) (want_with want n plus) (λ i.
            ap (λ (x : Bool). bit b i && x) (care-bit care n i)
            ∙ elim (eq? n i) [
              | inl q ↦
                  let y : eqb n i ≡ true = eq-eqb n i q in
                  let m : (bit b i && (bit care i || true)) ≡ (bit want i || (plus && true)) = rw q at z.1 in
                  rw y m
              | inr q ↦
                  let o : eqb n i ≡ false = ne_eqb n i q in
                  rw o
                  (ap (λ (x : Bool). bit b i && x) (elsewhere (bit care i))
                  ∙ all i
                  ∙ sym (elsewhere (bit want i))
                  ∙ ap (λ (x : Bool). bit want i || x) (sym (away plus)))
            ]
            ∙ sym (want-bit want n plus i)),
      )

  unbar : (x : Bool) → not x ≡ true → x ≡ false
  unbar true e = clash e refl
  unbar false e = refl

  -- suited with the point added, if that is not barred, is suited before, with the point lying so
  pub lay-law : n < most_points
      → (not (bars care want n plus) && suits b (bit_or care (2 ^ n)) (want_with want n plus)) ≡ (suits b care want && alike plus (bit b n))
  lay-law l =
      let q : ltb n most_points ≡ true = lt-ltb n most_points l in
      rw q
      (same_bool _ _
      (λ h.
      let k = and-true (not (bit care n && differs plus (bit want n))) (suits b (bit_or care (2 ^ n)) (want_with want n plus)) h in
      let z = lay-back (unbar (bit care n && differs plus (bit want n)) k.0) k.1 in
      and_both (suits b care want) (alike plus (bit b n)) z.0 z.1)
      (λ h.
      let k = and-true (suits b care want) (alike plus (bit b n)) h in
      let z = lay-on k.0 k.1 in
      and_both (not (bit care n && differs plus (bit want n))) (suits b (bit_or care (2 ^ n)) (want_with want n plus))
      (ap not z.0) z.1))
