-- The counts add up: each placement is in one of them and in no other, so one placement more adds 1 to their sum. Assumes nothing.
use mathlib.Core.Path.{◌≡◌, refl, ◌∙◌}
use mathlib.Core.Logic.{inl, inr}
use mathlib.Core.Bool.{true, false, cond}
use Prim.Native.Nat.{ℕ, zero, suc, ◌+◌, ◌≤◌, ◌<◌}
use native.Mathlib.Omega.{arith}
use lib.Dec.{eqb}
use borrow.Author.Tests.{eq-eqb, ne_eqb}
use Rattle.laws.specs.Below.{count_below, sum_below}
use Rattle.laws.proofs.Bools.{eq?}

-- of the numbers below k one at most is c
sum-none : (c k : ℕ) → k ≤ c → sum_below (λ i. cond (eqb c i) 1 0) k ≡ 0
unfolding sum_below
sum-none c zero l = refl
sum-none c (suc k) l =
    let a : sum_below (λ i. cond (eqb c i) 1 0) k ≡ 0 = sum-none c k (omega arith) in
    let b : eqb c k ≡ false = ne_eqb c k (λ e. omega arith) in
    rw (a, b) (omega arith)

sum_one : (c k : ℕ) → c < k → sum_below (λ i. cond (eqb c i) 1 0) k ≡ 1
unfolding sum_below
sum_one c zero l = absurd (omega arith)
sum_one c (suc k) l = elim (eq? c k) [
  | inl e ↦ (let a : sum_below (λ i. cond (eqb c i) 1 0) k ≡ 0 = sum-none c k (omega arith) in let b : eqb c k ≡ true = eq-eqb c k e in rw (a, b) (omega arith))
  | inr e ↦ (let a : sum_below (λ i. cond (eqb c i) 1 0) k ≡ 1 = sum_one c k (omega arith) in let b : eqb c k ≡ false = ne_eqb c k e in rw (a, b) (omega arith))
]

sum-plus : (f g : ℕ → ℕ) (k : ℕ) → sum_below (λ i. f i + g i) k ≡ sum_below f k + sum_below g k
unfolding sum_below
sum-plus f g zero = refl
sum-plus f g (suc k) = let a : sum_below (λ i. f i + g i) k ≡ sum_below f k + sum_below g k = sum-plus f g k in rw a (omega arith)

sum-zero : (k : ℕ) → sum_below (λ i. 0) k ≡ 0
unfolding sum_below
sum-zero zero = refl
sum-zero (suc k) = let a : sum_below (λ i. 0) k ≡ 0 = sum-zero k in omega arith

-- THE NUMBERS BELOW m, each in one of k counts: the counts add up to m
pub by-class : (c : ℕ → ℕ) (k m : ℕ) → ((p : ℕ) → c p < k) → sum_below (λ i. count_below (λ p. eqb (c p) i) m) k ≡ m
unfolding count_below
by-class c k zero h = sum-zero k
by-class c k (suc m) h =
    let a : sum_below (λ i. count_below (λ p. eqb (c p) i) m) k ≡ m = by-class c k m h in
    let b : sum_below (λ i. cond (eqb (c m) i) 1 0) k ≡ 1 = sum_one (c m) k (h m) in
    sum-plus (λ i. count_below (λ p. eqb (c p) i) m) (λ i. cond (eqb (c m) i) 1 0) k ∙ (rw (a, b) (omega arith))
