-- Laws of bits: a number below a power of two is made of its bits, what is made of bits has them, and two numbers can stand in one, the
-- second above the first. Each goes by bit 0 and the bits above it. Assumes nothing.
use mathlib.Core.Path.{◌≡◌, refl, sym, ◌∙◌, fun_ext}
use mathlib.Core.Bool.{Bool, true, false, cond, ◌||◌}
use Prim.Native.Nat.{ℕ, zero, suc, ◌+◌, ◌*◌, ◌/◌, ◌%◌, ◌^◌, ◌<◌}
use native.Mathlib.Omega.{arith}
use native.Mathlib.Nat.{pow-succ', mul_assoc, div-div-eq-div-mul, zero-div}
use lib.Dec.{eqb, eqb-suc-suc}
use borrow.Author.Tests.{eqb-true, eqb-false, ne_eqb}
use Rattle.laws.specs.Bits.{bit, from_bits}

-- bit 0 and the bits above it
pub bit-zero : (v : ℕ) → bit v 0 ≡ eqb (v % 2) 1
bit-zero v = let e : v / (2 ^ 0) ≡ v = omega arith in rw e

pub bit-suc : (v n : ℕ) → bit v (suc n) ≡ bit (v / 2) n
bit-suc v n = let e : v / (2 ^ suc n) ≡ v / 2 / (2 ^ n) = rw (pow-succ' 2 n) (sym (div-div-eq-div-mul v 2 (2 ^ n))) in rw e

double : (k y : ℕ) → 2 ^ suc k * y ≡ 2 * (2 ^ k * y)
double k y = rw (pow-succ' 2 k) (mul_assoc 2 (2 ^ k) y)

-- the bits of what is made of bits, with anything above them
pub bits_back : (f : ℕ → Bool) (k n y : ℕ) → n < k → bit (from_bits f k + 2 ^ k * y) n ≡ f n
unfolding from_bits
bits_back f zero n y l = absurd (omega arith)
bits_back f (suc k) zero y l = bit-zero (from_bits f (suc k) + 2 ^ suc k * y) ∙ rw (double k y) (low (f 0) (from_bits (λ i. f (suc i)) k) (2 ^ k * y))
  where
    low : (b : Bool) (x z : ℕ) → eqb ((cond b 1 0 + 2 * x + 2 * z) % 2) 1 ≡ b
    low true x z = let e : (1 + 2 * x + 2 * z) % 2 ≡ 1 = omega arith in rw e
    low false x z = let e : (0 + 2 * x + 2 * z) % 2 ≡ 0 = omega arith in rw e
bits_back f (suc k) (suc n) y l =
    bit-suc (from_bits f (suc k) + 2 ^ suc k * y) n
    ∙ rw (double k y, half (f 0) (from_bits (λ i. f (suc i)) k) (2 ^ k * y)) (bits_back (λ i. f (suc i)) k n y (omega arith))
  where
    half : (b : Bool) (x z : ℕ) → (cond b 1 0 + 2 * x + 2 * z) / 2 ≡ x + z
    half true x z = omega arith
    half false x z = omega arith

pub bits-plain : (f : ℕ → Bool) (k n : ℕ) → n < k → bit (from_bits f k) n ≡ f n
bits-plain f k n l =
    let e : from_bits f k + 2 ^ k * 0 ≡ from_bits f k = omega arith in
    let b : bit (from_bits f k + 2 ^ k * 0) n ≡ f n = bits_back f k n 0 l in
    rw e at b

pub bits_below : (f : ℕ → Bool) (k : ℕ) → from_bits f k < 2 ^ k
unfolding from_bits
bits_below f zero = omega arith
bits_below f (suc k) = rw (pow-succ' 2 k) (go (bits_below (λ i. f (suc i)) k) (f 0))
  where
    go : from_bits (λ i. f (suc i)) k < 2 ^ k → (b : Bool) → cond b 1 0 + 2 * from_bits (λ i. f (suc i)) k < 2 * 2 ^ k
    go h true = omega arith
    go h false = omega arith

-- a number below 2 to the power k is made of its bits
pub bits_of : (k b : ℕ) → b < 2 ^ k → from_bits (bit b) k ≡ b
unfolding from_bits
bits_of zero b l = omega arith
bits_of (suc k) b l =
    let e : 2 ^ suc k ≡ 2 * 2 ^ k = pow-succ' 2 k in
    let h : from_bits (bit (b / 2)) k ≡ b / 2 = bits_of k (b / 2) (omega arith) in
    let f : (λ (n : ℕ). bit b (suc n)) ≡ bit (b / 2) = fun_ext (bit-suc b) in
    rw (f, h, bit-zero b) (go (eqb (b % 2) 1) refl)
  where
    even : (m : ℕ) → m < 2 → (m ≡ 1 → ⊥) → m ≡ 0
    even zero l f = refl
    even (suc zero) l f = absurd (f refl)
    even (suc (suc m)) l f = absurd (omega arith)

    go : (c : Bool) → eqb (b % 2) 1 ≡ c → cond c 1 0 + 2 * (b / 2) ≡ b
    go true y = let z = eqb-true (b % 2) 1 y in omega arith
    go false y = let z = even (b % 2) (omega arith) (eqb-false (b % 2) 1 y) in omega arith

pub bits-same : (f g : ℕ → Bool) (k : ℕ) → ((n : ℕ) → n < k → f n ≡ g n) → from_bits f k ≡ from_bits g k
unfolding from_bits
bits-same f g zero h = refl
bits-same f g (suc k) h =
    let a : f 0 ≡ g 0 = h 0 (omega arith) in
    let b : from_bits (λ n. f (suc n)) k ≡ from_bits (λ n. g (suc n)) k = bits-same (λ n. f (suc n)) (λ n. g (suc n)) k (λ n l. h (suc n) (omega arith)) in
    rw (a, b)

-- TWO IN ONE: a number below 2 to the power k, and another above it
pub low_bit : (k b t n : ℕ) → b < 2 ^ k → n < k → bit (b + 2 ^ k * t) n ≡ bit b n
low_bit k b t n small l =
    let e : from_bits (bit b) k ≡ b = bits_of k b small in
    let c : bit (from_bits (bit b) k + 2 ^ k * t) n ≡ bit b n = bits_back (bit b) k n t l in
    rw e at c

pub high_bit : (k b t u : ℕ) → b < 2 ^ k → bit (b + 2 ^ k * t) (k + u) ≡ bit t u
high_bit zero b t u small = let e : b + 2 ^ 0 * t ≡ t = omega arith in let d : 0 + u ≡ u = omega arith in rw (e, d)
high_bit (suc k) b t u small =
    let e : 2 ^ suc k ≡ 2 * 2 ^ k = pow-succ' 2 k in
    let m : suc k + u ≡ suc (k + u) = omega arith in
    let d : (b + 2 ^ suc k * t) / 2 ≡ b / 2 + 2 ^ k * t = rw (double k t) (omega arith) in
    rw (m, bit-suc (b + 2 ^ suc k * t) (k + u), d) (high_bit k (b / 2) t u (omega arith))

-- zero has no bit
pub bit-none : (n : ℕ) → bit 0 n ≡ false
bit-none n = let e : 0 / (2 ^ n) ≡ 0 = zero-div (2 ^ n) in rw e

-- ONE BIT MORE: no bit set makes zero, and a bit that was not set adds its power
or_off : (a : Bool) → (a || false) ≡ a
or_off true = refl
or_off false = refl

pub bits_none : (k : ℕ) → 0 ≡ from_bits (λ n. false) k
unfolding from_bits
bits_none zero = refl
bits_none (suc k) = let h : 0 ≡ from_bits (λ n. false) k = bits_none k in omega arith

pub bits-add : (f : ℕ → Bool) (k x : ℕ) → x < k → f x ≡ false → from_bits (λ n. f n || eqb x n) k ≡ from_bits f k + 2 ^ x
unfolding from_bits
bits-add f zero x l e = absurd (omega arith)
bits-add f (suc k) zero l e =
    let b : from_bits (λ n. f (suc n) || eqb 0 (suc n)) k ≡ from_bits (λ n. f (suc n)) k =
    bits-same (λ n. f (suc n) || eqb 0 (suc n)) (λ n. f (suc n)) k (λ n h. rw (ne_eqb 0 (suc n) (λ z. omega arith)) (or_off (f (suc n)))) in
    rw (e, b) (omega arith)
bits-add f (suc k) (suc x) l e =
    let b : from_bits (λ n. f (suc n) || eqb (suc x) (suc n)) k ≡ from_bits (λ n. f (suc n) || eqb x n) k =
    bits-same (λ n. f (suc n) || eqb (suc x) (suc n)) (λ n. f (suc n) || eqb x n) k (λ n h. rw (eqb-suc-suc x n)) in
    let h : from_bits (λ n. f (suc n) || eqb x n) k ≡ from_bits (λ n. f (suc n)) k + 2 ^ x = bits-add (λ n. f (suc n)) k x (omega arith) e in
    let z : (f 0 || eqb (suc x) 0) ≡ f 0 = rw (ne_eqb (suc x) 0 (λ z. omega arith)) (or_off (f 0)) in
    let w : 2 ^ suc x ≡ 2 * 2 ^ x = pow-succ' 2 x in
    rw (z, b, h, w) (omega arith)
