-- The arithmetic of codes, as code works it out for four trains at most: powers by multiplying, a train's section by dividing, and a code
-- from the last train's section to the first's. Nothing runs over: sections and counts are bytes. Assumes nothing.
use mathlib.Core.Path.{◌≡◌, refl, sym, ◌∙◌, ap}
use mathlib.Core.Logic.{inl, inr}
use mathlib.Core.Bool.{Bool, true, false, cond}
use mathlib.Core.List.{List, [], ◌∷◌}
use Prim.Native.Nat.{ℕ, zero, suc, ◌+◌, ◌-◌, ◌*◌, ◌/◌, ◌%◌, ◌^◌, ◌≤◌, ◌<◌}
use native.Mathlib.Omega.{arith}
use native.Mathlib.Nat.{pow-succ', pow-zero, mul_comm, mul-add, mul_assoc, mul-le-mul, mod-lt}
use lib.Dec.{ltb}
use lib.ListN.{length, get_or, set, get_or-eq_default}
use borrow.Author.Tests.{lt-ltb, le-ltb}
use Rattle.laws.specs.Below.{list_below}
use Rattle.laws.proofs.Bools.{lt?}
use Rattle.laws.proofs.Below.{list_length, list_get}
use Rattle.railway.specs.Bounds.{most_trains}
use Rattle.game.specs.Placement.{code_of, sections_in}
use Rattle.game.proofs.Placement.{code-nil, code-cons}
use Rattle.game_moves.specs.Steps.{no_code, stride_of, code_put}

-- POWERS of a byte, up to the fourth.
pub times-fits : (m n : ℕ) {a b : ℕ} → a ≤ m → b ≤ n → a * b ≤ m * n
times-fits m n {a} {b} p q = mul-le-mul {n₁ = a} {n₂ = m} p q

-- A power by multiplying, one factor after the other: w has n of them, or k if that is less.
record Power (s k n w : ℕ) : Type 0 where
  up : n ≤ k → w ≡ s ^ n
  whole : k ≤ n → w ≡ s ^ k

module _ (s k : ℕ) where
  power-start : Power s k 0 1
  power-start = record { up = λ l. sym (pow-zero s); whole = λ l. let z : k ≡ 0 = omega arith in rw z (sym (pow-zero s)) }

  power-next : (n w v : ℕ) → Power s k n w → v ≡ cond (ltb n k) (w * s) w → Power s k (suc n) v
  power-next n w v h e = elim (lt? n k) [
    | inl l ↦
        let a : v ≡ w * s = e ∙ (rw (lt-ltb n k l)) in
        let b : v ≡ s ^ suc n = a ∙ ap (λ (x : ℕ). x * s) (h.up (omega arith)) ∙ mul_comm (s ^ n) s ∙ sym (pow-succ' s n) in
        record { up = λ m. b; whole = λ m. let z : k ≡ suc n = omega arith in rw z b }
    | inr l ↦
        let a : v ≡ w = e ∙ (rw (le-ltb n k l)) in
        record { up = λ m. absurd (omega arith); whole = λ m. a ∙ h.whole l }
  ]

  pub power-is : (a b c d : ℕ) → a ≡ cond (ltb 0 k) (1 * s) 1 → b ≡ cond (ltb 1 k) (a * s) a → c ≡ cond (ltb 2 k) (b * s) b → d ≡ cond (ltb 3 k) (c * s) c → d ≡ stride_of s k
  power-is a b c d ea eb ec ed =
      let all = power-next 3 c d (power-next 2 b c (power-next 1 a b (power-next 0 1 a power-start ea) eb) ec) ed in
      elim (lt? k most_trains) [
        | inl l ↦ rw (lt-ltb k most_trains l) (all.whole (omega arith))
        | inr l ↦ rw (le-ltb k most_trains l) (all.up l)
      ]

  -- the power itself, for as many as a railway can have
  pub stride-is : k ≤ most_trains → stride_of s k ≡ s ^ k
  stride-is l = elim (lt? k most_trains) [
    | inl m ↦ rw (lt-ltb k most_trains m)
    | inr m ↦ let z : k ≡ most_trains = omega arith in rw z
  ]

-- A stride times a byte, or as it is, is at most 255 times what the stride is.
pub times-small : (m s w v : ℕ) (more : Bool) → s < 256 → w ≤ m → v ≡ cond more (w * s) w → v ≤ m * 255
times-small m s w v more l h e = rw e (go more)
  where
    go : (b : Bool) → cond b (w * s) w ≤ m * 255
    go true = times-fits m 255 h (omega arith)
    go false = omega arith

-- A CODE BY A STRIDE, by the tests that code makes.
module _ (c stride x y : ℕ) where
  pub put-less : c + y * stride < x * stride → no_code ≡ code_put c stride x y
  put-less l = rw (lt-ltb (c + y * stride) (x * stride) l)

  module _ (more : x * stride ≤ c + y * stride) where
    pub put-code : c + y * stride - x * stride < no_code → c + y * stride - x * stride ≡ code_put c stride x y
    put-code l = rw (le-ltb (c + y * stride) (x * stride) more, lt-ltb (c + y * stride - x * stride) no_code l)

    pub put-large : no_code ≤ c + y * stride - x * stride → no_code ≡ code_put c stride x y
    put-large l = rw (le-ltb (c + y * stride) (x * stride) more, le-ltb (c + y * stride - x * stride) no_code l)

  -- where there is such a code, it is that
  pub put-there : (p : ℕ) → p < no_code → c + y * stride ≡ p + x * stride → code_put c stride x y ≡ p
  put-there p l e = let d : c + y * stride - x * stride ≡ p = omega arith in sym (put-code (omega arith) (omega arith)) ∙ d

-- The code of four bytes stays within 32 bits at each step.
module _ (s : ℕ) (l : s < 256) (b c d : ℕ) (lb : b < 256) (lc : c < 256) (ld : d < 256) where
  pub last_fits : s * d ≤ 65025
  last_fits = times-fits 255 255 (omega arith) (omega arith)

  pub third-fits : s * (c + s * d) ≤ 16646400
  third-fits = times-fits 255 65280 (omega arith) (omega (arith, last_fits))

  pub second_fits : s * (b + s * (c + s * d)) ≤ 4244897025
  second_fits = times-fits 255 16646655 (omega arith) (omega (arith, third-fits))

-- SECTIONS by dividing: what is left of a code without its first t trains
unfoldable pub without : ℕ → ℕ → ℕ → ℕ
without s zero p = p
without s (suc t) p = without s t (p / s)

pub section-left : (s k p t : ℕ) → get_or (sections_in s k p) t 0 ≡ cond (ltb t k) (without s t p % s) 0
unfolding sections_in without
section-left s zero p t = rw (le-ltb t 0 (omega arith))
section-left s (suc k) p zero = rw (lt-ltb 0 (suc k) (omega arith))
section-left s (suc k) p (suc t) = section-left s k (p / s) t ∙ ap (λ (b : Bool). cond b (without s t (p / s) % s) 0) one_less
  where
    one_less : ltb t k ≡ ltb (suc t) (suc k)
    one_less = elim (lt? t k) [
      | inl l ↦ lt-ltb t k l ∙ sym (lt-ltb (suc t) (suc k) (omega arith))
      | inr l ↦ le-ltb t k l ∙ sym (le-ltb (suc t) (suc k) (omega arith))
    ]

pub rest-small : (s rest : ℕ) → 0 < s → s < 256 → rest % s < 256
rest-small s rest p l = omega (arith, mod-lt rest p)

-- A CODE, from the last train on
in_digits : ℕ → ℕ → (ℕ → ℕ) → ℕ
in_digits s zero f = 0
in_digits s (suc n) f = f 0 + s * in_digits s n (λ t. f (suc t))

no-digits : (s n : ℕ) → in_digits s n (λ t. 0) ≡ 0
unfolding in_digits
no-digits s zero = refl
no-digits s (suc n) = rw (no-digits s n) (omega arith)

code-digits : (s n : ℕ) (xs : List ℕ) → length xs ≤ n → code_of s xs ≡ in_digits s n (λ t. get_or xs t 0)
unfolding in_digits
code-digits s n [] l = code-nil s ∙ sym (no-digits s n)
code-digits s zero (x ∷ xs) l = absurd (omega arith)
code-digits s (suc n) (x ∷ xs) l = code-cons s x xs ∙ (rw (code-digits s n xs (omega arith)))

-- What is listed for k trains, with 0 past them.
listed : (f : ℕ → ℕ) (k t : ℕ) → get_or (list_below f k) t 0 ≡ cond (ltb t k) (f t) 0
listed f k t = elim (lt? t k) [
  | inl l ↦ rw (lt-ltb t k l) (list_get f k t 0 l)
  | inr l ↦ rw (le-ltb t k l) (get_or-eq_default (list_below f k) 0 (rw (list_length f k) l))
]

pub code-of-sections : (s k : ℕ) (f : ℕ → ℕ) (a b c d : ℕ) → k ≤ most_trains → a ≡ cond (ltb 0 k) (f 0) 0 → b ≡ cond (ltb 1 k) (f 1) 0 → c ≡ cond (ltb 2 k) (f 2) 0 → d ≡ cond (ltb 3 k) (f 3) 0
    → a + s * (b + s * (c + s * d)) ≡ code_of s (list_below f k)
unfolding in_digits
code-of-sections s k f a b c d l ea eb ec ed =
    let z : get_or (list_below f k) 3 0 + s * 0 ≡ d = omega (arith, ed ∙ sym (listed f k 3)) in
    sym (code-digits s most_trains (list_below f k) (rw (list_length f k) l) ∙ (rw (z, ec ∙ sym (listed f k 2), eb ∙ sym (listed f k 1), ea ∙ sym (listed f k 0))))

-- A CODE with one train put elsewhere.
pub code-move : (s : ℕ) (xs : List ℕ) (t x : ℕ) → t < length xs → code_of s (set xs t x) + get_or xs t 0 * s ^ t ≡ code_of s xs + x * s ^ t
code-move s [] t x l = absurd (omega arith)
code-move s (z ∷ zs) zero x l =
    let one : s ^ 0 ≡ 1 = pow-zero s in
    rw (code-cons s x zs, code-cons s z zs, one) (omega arith)
code-move s (z ∷ zs) (suc t) x l =
    let ih : code_of s (set zs t x) + get_or zs t 0 * s ^ t ≡ code_of s zs + x * s ^ t = code-move s zs t x (omega arith) in
    let both : s * (code_of s (set zs t x) + get_or zs t 0 * s ^ t) ≡ s * (code_of s zs + x * s ^ t) = ap (λ (y : ℕ). s * y) ih in
    let a : s * (code_of s (set zs t x) + get_or zs t 0 * s ^ t) ≡ s * code_of s (set zs t x) + s * (get_or zs t 0 * s ^ t) = mul-add s (code_of s (set zs t x)) (get_or zs t 0 * s ^ t) in
    let b : s * (code_of s zs + x * s ^ t) ≡ s * code_of s zs + s * (x * s ^ t) = mul-add s (code_of s zs) (x * s ^ t) in
    let c : s * (get_or zs t 0 * s ^ t) ≡ get_or zs t 0 * s ^ suc t = swap (get_or zs t 0) in
    let d : s * (x * s ^ t) ≡ x * s ^ suc t = swap x in
    rw (code-cons s z (set zs t x), code-cons s z zs) (omega arith)
  where
    swap : (y : ℕ) → s * (y * s ^ t) ≡ y * s ^ suc t
    swap y = sym (mul_assoc s y (s ^ t)) ∙ ap (λ (z : ℕ). z * s ^ t) (mul_comm s y) ∙ mul_assoc y s (s ^ t) ∙ ap (λ (z : ℕ). y * z) (sym (pow-succ' s t))
