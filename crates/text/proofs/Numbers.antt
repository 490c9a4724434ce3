-- Bytes and numbers as code reads them. A digit stands inside the text; each turn of the loop reads one more digit, and
-- leaves what is to be read; a number of as many digits as were read so far is small. Assumes nothing.
use Prim.Native.Nat.{ℕ, zero, suc, ◌+◌, ◌-◌, ◌*◌, ◌^◌, ◌<◌, ◌≤◌}
use mathlib.Core.Path.{◌≡◌, refl, sym}
use mathlib.Core.Bool.{true, false}
use mathlib.Core.Logic.{inl, inr}
use mathlib.Core.List.{List}
use native.Mathlib.Omega.{arith}
use native.Mathlib.Nat.{pow-succ', pow-le-pow_right}
use lib.ListN.{length, get_or, get_or-eq_default}
use borrow.Author.Tests.{lt-ltb, le-ltb, eq-eqb, ne_eqb}
use Rattle.laws.proofs.Bools.{lt?}
use Rattle.std.specs.Prelude.{ltb, ◌&&◌}
use Rattle.std.specs.Char.{is_ascii_digit}
use Rattle.std.proofs.Math.Dec.{leb-suc-suc}
use mathlib.Core.Path.{ap}
use Rattle.text.specs.declared.Width.{Width}
use Rattle.text.specs.declared.Width.TheVariants.{Three, Ten}
use Rattle.text.specs.Reading.{is_digit, bad, got, byte_at, digits_at, number_at}
use Rattle.text.specs.Answers.{more_digits, byte_inside}
use Rattle.text.proofs.Decimal.{digit-is}

-- digits
pub digit-ascii : (b : ℕ) → is_ascii_digit b ≡ is_digit b
unfolding is_digit
digit-ascii b = ap (λ x. ltb 47 b && x) (sym (leb-suc-suc b 57))

pub width_small : (w : Width) → more_digits w ≤ 9
width_small Three = omega arith
width_small Ten = omega arith

module _ (s : List ℕ) (at : ℕ) where
  pub past_end : length s ≤ at → 0 ≡ get_or s at 0
  past_end h = sym (get_or-eq_default s 0 h)

  -- bytes
  pub byte-there : (b : ℕ) → at < length s → get_or s at 0 ≡ b → got b (at + 1) ≡ byte_inside s b at
  unfolding byte_inside byte_at
  byte-there b h e = rw (lt-ltb at (length s) h, eq-eqb (get_or s at 0) b e)

  pub byte-other : (b : ℕ) → at < length s → (get_or s at 0 ≡ b → ⊥) → bad ≡ byte_inside s b at
  unfolding byte_inside byte_at
  byte-other b h n = rw (lt-ltb at (length s) h, ne_eqb (get_or s at 0) b n)

  pub byte_past : (b : ℕ) → length s ≤ at → bad ≡ byte_inside s b at
  unfolding byte_inside
  byte_past b h = rw (le-ltb at (length s) h)

  pub byte-is : (b : ℕ) → 0 < b → byte_inside s b at ≡ byte_at s b at
  unfolding byte_inside byte_at
  byte-is b pos = elim (lt? at (length s)) [
    | inl h ↦ rw (lt-ltb at (length s) h)
    | inr h ↦ let e = get_or-eq_default s 0 h in
        rw (le-ltb at (length s) h, ne_eqb (get_or s at 0) b (λ p. omega arith))
  ]

  -- a digit at the cursor
  pub digit-inside : (b : ℕ) → b ≡ get_or s at 0 → is_digit b ≡ true → at < length s
  digit-inside b e h =
      let d = digit-is b h in
      elim (lt? at (length s)) [ inl l ↦ l | inr l ↦ omega (arith, get_or-eq_default s 0 l) ]

  module _ (b left n : ℕ) (is : b ≡ get_or s at 0) where
    pub digits-next : 0 < left → is_digit b ≡ true
        → digits_at s left n at ≡ digits_at s (left - 1) (n * 10 + (b - 48)) (at + 1)
    unfolding digits_at
    digits-next l h = go left l
      where
        go : (left : ℕ) → 0 < left → digits_at s left n at ≡ digits_at s (left - 1) (n * 10 + (b - 48)) (at + 1)
        go zero l = absurd (omega arith)
        go (suc left) l = let z : suc left - 1 ≡ left = omega arith in rw (z, ← is, h)

    pub digits-stop : is_digit b ≡ false → got n at ≡ digits_at s left n at
    unfolding digits_at
    digits-stop h = go left
      where
        go : (left : ℕ) → got n at ≡ digits_at s left n at
        go zero = refl
        go (suc left) = rw (← is, h)

  pub digits-out : (left n : ℕ) → left ≤ 0 → got n at ≡ digits_at s left n at
  unfolding digits_at
  digits-out zero n h = refl
  digits-out (suc left) n h = absurd (omega arith)

  -- the first digit
  module _ (b most : ℕ) (is : b ≡ get_or s at 0) where
    pub number-none : is_digit b ≡ false → bad ≡ number_at s most at
    unfolding number_at
    number-none h = rw (← is, h)

    pub number-zero : is_digit b ≡ true → b ≡ 48 → got 0 (at + 1) ≡ number_at s most at
    unfolding number_at
    number-zero h z = rw (← is, h, eq-eqb b 48 z)

    pub number-first : is_digit b ≡ true → (b ≡ 48 → ⊥) → digits_at s most (b - 48) (at + 1) ≡ number_at s most at
    unfolding number_at
    number-first h z = rw (← is, h, ne_eqb b 48 z)

-- what was read so far is small
power : (i j : ℕ) → i ≤ j → 10 ^ i ≤ 10 ^ j
power i j h = pow-le-pow_right (omega arith) h

pub small-first : (left n : ℕ) → left ≤ 9 → n < 10 → n < 10 ^ (10 - left)
small-first left n l h = let p = power 1 (10 - left) (omega arith) in omega arith

pub small-next : (left n d : ℕ) → 0 < left → left ≤ 9 → d < 10 → n < 10 ^ (10 - left)
    → n * 10 + d < 10 ^ (10 - (left - 1))
small-next left n d p l h s =
    let z : 10 - (left - 1) ≡ suc (10 - left) = omega arith in
    let e : 10 ^ suc (10 - left) ≡ 10 * 10 ^ (10 - left) = pow-succ' 10 (10 - left) in
    rw z (omega arith)

pub small-enough : (left n : ℕ) → 0 < left → n < 10 ^ (10 - left) → n < 1000000000
small-enough left n p h = let q = power (10 - left) 9 (omega arith) in omega arith
