-- Bits of what two numbers have together and in common, and of a power of two; numbers with the same bits are the same. Each bit goes by one digit of both
-- numbers. Assumes nothing.
use mathlib.Core.Path.{◌≡◌, refl, sym, ◌∙◌, ap, fun_ext}
use mathlib.Core.Bool.{Bool, ◌&&◌, ◌||◌}
use Prim.Native.Nat.{ℕ, zero, suc, ◌+◌, ◌*◌, ◌/◌, ◌%◌, ◌^◌, ◌≤◌, ◌<◌, min, max}
use native.Mathlib.Omega.{arith}
use native.Mathlib.Nat.{pow-succ', pow-le-pow_right}
use lib.Bits.{bit_and, bit_or, and_step, or_step, and_shr, or_shr}
use lib.Dec.{eqb, eqb-suc-suc}
use borrow.Author.Tests.{ne_eqb}
use Rattle.laws.specs.Bits.{bit, from_bits}
use Rattle.laws.proofs.Bits.{bit-zero, bit-suc, bit-none, bits_of}

-- one digit
digit_and : (p q : ℕ) → p < 2 → q < 2 → eqb (min p q) 1 ≡ (eqb p 1 && eqb q 1)
digit_and zero zero l m = refl
digit_and zero (suc zero) l m = refl
digit_and (suc zero) zero l m = refl
digit_and (suc zero) (suc zero) l m = refl
digit_and zero (suc (suc q)) l m = absurd (omega arith)
digit_and (suc zero) (suc (suc q)) l m = absurd (omega arith)
digit_and (suc (suc p)) q l m = absurd (omega arith)

digit_or : (p q : ℕ) → p < 2 → q < 2 → eqb (max p q) 1 ≡ (eqb p 1 || eqb q 1)
digit_or zero zero l m = refl
digit_or zero (suc zero) l m = refl
digit_or (suc zero) zero l m = refl
digit_or (suc zero) (suc zero) l m = refl
digit_or zero (suc (suc q)) l m = absurd (omega arith)
digit_or (suc zero) (suc (suc q)) l m = absurd (omega arith)
digit_or (suc (suc p)) q l m = absurd (omega arith)

min-small : (p q : ℕ) → p < 2 → q < 2 → min p q < 2
min-small zero zero l m = omega arith
min-small zero (suc q) l m = omega arith
min-small (suc zero) zero l m = omega arith
min-small (suc zero) (suc zero) l m = omega arith
min-small (suc zero) (suc (suc q)) l m = absurd (omega arith)
min-small (suc (suc p)) q l m = absurd (omega arith)

max-small : (p q : ℕ) → p < 2 → q < 2 → max p q < 2
max-small zero zero l m = omega arith
max-small zero (suc zero) l m = omega arith
max-small (suc zero) zero l m = omega arith
max-small (suc zero) (suc zero) l m = omega arith
max-small zero (suc (suc q)) l m = absurd (omega arith)
max-small (suc zero) (suc (suc q)) l m = absurd (omega arith)
max-small (suc (suc p)) q l m = absurd (omega arith)

low : (x m : ℕ) → m < 2 → (x * 2 + m) % 2 ≡ m
low x m l = omega arith

pub bit-and : (a b n : ℕ) → bit (bit_and a b) n ≡ (bit a n && bit b n)
bit-and a b n =
    let x = a / 2 ^ n in let y = b / 2 ^ n in
    let l : x % 2 < 2 = omega arith in let m : y % 2 < 2 = omega arith in
    let s : bit_and a b / 2 ^ n % 2 ≡ min (x % 2) (y % 2) =
    ap (λ (z : ℕ). z % 2) (and_shr a b n ∙ and_step x y) ∙ low (bit_and (x / 2) (y / 2)) (min (x % 2) (y % 2)) (min-small (x % 2) (y % 2) l m) in
    ap (λ (z : ℕ). eqb z 1) s ∙ digit_and (x % 2) (y % 2) l m

pub bit-or : (a b n : ℕ) → bit (bit_or a b) n ≡ (bit a n || bit b n)
bit-or a b n =
    let x = a / 2 ^ n in let y = b / 2 ^ n in
    let l : x % 2 < 2 = omega arith in let m : y % 2 < 2 = omega arith in
    let s : bit_or a b / 2 ^ n % 2 ≡ max (x % 2) (y % 2) =
    ap (λ (z : ℕ). z % 2) (or_shr a b n ∙ or_step x y) ∙ low (bit_or (x / 2) (y / 2)) (max (x % 2) (y % 2)) (max-small (x % 2) (y % 2) l m) in
    ap (λ (z : ℕ). eqb z 1) s ∙ digit_or (x % 2) (y % 2) l m

pub bit-power : (m n : ℕ) → bit (2 ^ m) n ≡ eqb m n
bit-power zero zero = refl
bit-power zero (suc n) = bit-suc (2 ^ 0) n ∙ bit-none n ∙ sym (ne_eqb 0 (suc n) (λ e. omega arith))
bit-power (suc m) zero = bit-zero (2 ^ suc m) ∙ (let e : 2 ^ suc m % 2 ≡ 0 = rw (pow-succ' 2 m) (omega arith) in rw e (sym (ne_eqb (suc m) 0 (λ e. omega arith))))
bit-power (suc m) (suc n) = bit-suc (2 ^ suc m) n ∙ (let e : 2 ^ suc m / 2 ≡ 2 ^ m = rw (pow-succ' 2 m) (omega arith) in rw e (bit-power m n ∙ sym (eqb-suc-suc m n)))

-- the same bits
wide : (n : ℕ) → n < 2 ^ n
wide zero = omega arith
wide (suc n) = let h = wide n in let e : 2 ^ suc n ≡ 2 * 2 ^ n = pow-succ' 2 n in omega arith

wider : (n k : ℕ) → n ≤ k → n < 2 ^ k
wider n k l = omega (arith, wide n, pow-le-pow_right {n = 2} (omega arith) {i = n} {j = k} l)

pub bits-ext : (a b : ℕ) → ((n : ℕ) → bit a n ≡ bit b n) → a ≡ b
bits-ext a b h =
    let f : bit a ≡ bit b = fun_ext h in
    sym (bits_of (a + b) a (wider a (a + b) (omega arith))) ∙ ap (λ (g : ℕ → Bool). from_bits g (a + b)) f ∙ bits_of (a + b) b (wider b (a + b) (omega arith))
