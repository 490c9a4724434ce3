-- Laws of the decimal spelling. A digit put behind a number's digits spells ten times the number and the digit; so the
-- digits of a number are digits, are no more than its size asks for, begin with none that is zero, have the number as
-- their value, and no two numbers share them. Assumes nothing.
use mathlib.Core.Path.{◌≡◌, refl, ◌∙◌, ap}
use mathlib.Core.Logic.{inl, inr}
use mathlib.Core.Bool.{true}
use mathlib.Core.List.{List, [], ◌∷◌, ◌++◌}
use Prim.Native.Nat.{ℕ, zero, suc, ◌+◌, ◌-◌, ◌*◌, ◌/◌, ◌%◌, ◌^◌, ◌≤◌, ◌<◌}
use native.Mathlib.Omega.{arith}
use native.Mathlib.Nat.{pow-succ'}
use lib.ListN.{length, length-append}
use lib.Dec.{ltb}
use borrow.Author.Tests.{ltb-true, ltb-false, lt-ltb, le-ltb, ne_eqb}
use Rattle.laws.specs.Lists.{all}
use Rattle.laws.proofs.Bools.{bool?, and-true, and_both}
use Rattle.laws.proofs.Lists.{all_append, all-weaken}
use Rattle.text.specs.Text.{digits, decimal}
use Rattle.text.specs.Reading.{is_digit, is_plain, value_of}

-- LENGTH, by what is allowed and by the number's size
pub digits-length : (left n : ℕ) → length (digits left n) ≤ left
unfolding digits
digits-length zero n = omega arith
digits-length (suc left) n = elim (bool? (ltb n 10)) [
  | inl y ↦ rw y (omega arith)
  | inr y ↦
      rw (y, length-append (digits left (n / 10)) ((48 + n % 10) ∷ [])) (omega (arith, digits-length left (n / 10)))
]

pub digits-short : (left k n : ℕ) → n < 10 ^ suc k → length (digits left n) ≤ suc k
unfolding digits
digits-short zero k n l = omega arith
digits-short (suc left) zero n l = let z : ltb n 10 ≡ true = lt-ltb n 10 (omega arith) in rw z (omega arith)
digits-short (suc left) (suc k) n l = elim (bool? (ltb n 10)) [
  | inl y ↦ rw y (omega arith)
  | inr y ↦
      let e : 10 ^ suc (suc k) ≡ 10 * 10 ^ suc k = pow-succ' 10 (suc k) in
      let h : length (digits left (n / 10)) ≤ suc k = digits-short left k (n / 10) (omega arith) in
      rw (y, length-append (digits left (n / 10)) ((48 + n % 10) ∷ [])) (omega arith)
]

-- DIGITS are digits, and plain
pub digit-of : (n : ℕ) → n < 10 → is_digit (48 + n) ≡ true
unfolding is_digit
digit-of n l =
    and_both (ltb 47 (48 + n)) (ltb (48 + n) 58) (lt-ltb 47 (48 + n) (omega arith)) (lt-ltb (48 + n) 58 (omega arith))

pub digit-is : (b : ℕ) → is_digit b ≡ true → (48 ≤ b) × (b < 58)
unfolding is_digit
digit-is b e =
    let t = and-true (ltb 47 b) (ltb b 58) e in
    let l = ltb-true 47 b t.0 in
    (omega arith, ltb-true b 58 t.1)

pub digit-plain : (b : ℕ) → is_digit b ≡ true → is_plain b ≡ true
unfolding is_plain
digit-plain b e = let l = digit-is b e in rw (ne_eqb b 9 (λ q. omega arith), ne_eqb b 10 (λ q. omega arith))

pub digits_are : (left n : ℕ) → all is_digit (digits left n) ≡ true
unfolding digits all
digits_are zero n = refl
digits_are (suc left) n = elim (bool? (ltb n 10)) [
  | inl y ↦ rw y (and_both (is_digit (48 + n)) true (digit-of n (ltb-true n 10 y)) refl)
  | inr y ↦ rw y (all_append is_digit (digits left (n / 10)) ((48 + n % 10) ∷ []) (digits_are left (n / 10))
      (and_both (is_digit (48 + n % 10)) true (digit-of (n % 10) (omega arith)) refl))
]

pub decimal-plain : (n : ℕ) → all is_plain (decimal n) ≡ true
decimal-plain n = all-weaken is_digit is_plain digit-plain (decimal n) (digits_are _ n)

-- VALUE
value-behind : (a : ℕ) (s : List ℕ) (d : ℕ) → value_of a (s ++ (d ∷ [])) ≡ value_of a s * 10 + (d - 48)
unfolding value_of
value-behind a [] d = refl
value-behind a (b ∷ s) d = value-behind (a * 10 + (b - 48)) s d

pub value-digits : (left n : ℕ) → n < 10 ^ left → value_of 0 (digits left n) ≡ n
unfolding value_of digits
value-digits zero n l = omega arith
value-digits (suc left) n l = elim (bool? (ltb n 10)) [
  | inl y ↦ rw y (omega arith)
  | inr y ↦
      let e : 10 ^ suc left ≡ 10 * 10 ^ left = pow-succ' 10 left in
      let h : value_of 0 (digits left (n / 10)) ≡ n / 10 = value-digits left (n / 10) (omega arith) in
      rw y (value-behind 0 (digits left (n / 10)) (48 + n % 10) ∙ (rw h (omega arith)))
]

pub value-decimal : (n : ℕ) → n < 10000000000 → value_of 0 (decimal n) ≡ n
value-decimal n l = value-digits _ n (omega arith)

-- ONE MORE DIGIT: behind the digits of a number that is not zero
pub digits-behind : (left n d : ℕ) → 0 < n → d < 10 → digits (suc left) (n * 10 + d) ≡ digits left n ++ ((48 + d) ∷ [])
unfolding digits
digits-behind left n d p l =
    let a : (n * 10 + d) / 10 ≡ n = omega arith in
    let b : (n * 10 + d) % 10 ≡ d = omega arith in
    simp (le-ltb (n * 10 + d) 10 (omega arith), a, b)

-- more digits allowed than the number has change nothing
pub digits-enough : (left n : ℕ) → n < 10 ^ suc left → digits (suc left) n ≡ digits (suc (suc left)) n
unfolding digits
digits-enough zero n l = let z : ltb n 10 ≡ true = lt-ltb n 10 (omega arith) in rw z
digits-enough (suc left) n l = elim (bool? (ltb n 10)) [
  | inl y ↦ rw y
  | inr y ↦
      let e : 10 ^ suc (suc left) ≡ 10 * 10 ^ suc left = pow-succ' 10 (suc left) in
      let h : digits (suc left) (n / 10) ≡ digits (suc (suc left)) (n / 10) =
      digits-enough left (n / 10) (omega arith) in
      rw y (ap (λ (s : List ℕ). s ++ ((48 + n % 10) ∷ [])) h)
]

digits-room : (k left n : ℕ) → n < 10 ^ suc left → digits (suc left) n ≡ digits (suc (left + k)) n
digits-room zero left n l = let z : left + 0 ≡ left = omega arith in rw z
digits-room (suc k) left n l =
    let e : 10 ^ suc (suc left) ≡ 10 * 10 ^ suc left = pow-succ' 10 (suc left) in
    let z : suc left + k ≡ left + suc k = omega arith in
    digits-enough left n l ∙ (rw z at (digits-room k (suc left) n (omega arith)))

pub digits_decimal : (left n : ℕ) → left < 10 → n < 10 ^ suc left → digits (suc left) n ≡ decimal n
digits_decimal left n h l =
    let z : suc (left + (9 - left)) ≡ 10 = omega arith in
    rw z at (digits-room (9 - left) left n l)

-- THE FIRST DIGIT is zero in `0` only
pub record Begins (s : List ℕ) : Type 0 where
  pub head : ℕ
  pub rest : List ℕ
  pub is : s ≡ head ∷ rest
  pub nonzero : 48 < head

begins-append : (s t : List ℕ) → Begins s → Begins (s ++ t)
begins-append s t b =
    record { head = b.head; rest = b.rest ++ t; is = ap (λ (u : List ℕ). u ++ t) b.is; nonzero = b.nonzero }

pub digits-begin : (left n : ℕ) → 0 < n → n < 10 ^ left → Begins (digits left n)
unfolding digits
digits-begin zero n p l = absurd (omega arith)
digits-begin (suc left) n p l = elim (bool? (ltb n 10)) [
  | inl y ↦ rw y (record { head = 48 + n; rest = []; is = refl; nonzero = omega arith })
  | inr y ↦
      let e : 10 ^ suc left ≡ 10 * 10 ^ left = pow-succ' 10 left in
      let g = ltb-false n 10 y in
      rw y (begins-append (digits left (n / 10)) ((48 + n % 10) ∷ [])
      (digits-begin left (n / 10) (omega arith) (omega arith)))
]
