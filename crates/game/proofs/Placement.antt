-- Codes and placements are one to one: a placement comes back from its code, which is below the number of placements, and a code below it
-- from its placement. The code is the first section and s times the code of the others (`code-cons`); all else goes by that. Assumes
-- nothing.
use mathlib.Core.Path.{◌≡◌, refl, sym, ◌∙◌, ap}
use mathlib.Core.List.{List, [], ◌∷◌}
use Prim.Native.Nat.{ℕ, zero, suc, ◌+◌, ◌*◌, ◌/◌, ◌%◌, ◌^◌, ◌≤◌, ◌<◌}
use native.Mathlib.Omega.{arith}
use native.Mathlib.Nat.{mul-suc, mul-one, mul-le-mul_left, pow-zero, pow-succ', mod-lt, mod-eq_of_lt, div-eq_of_lt}
use native.Mathlib.Nat.{add-mul-div_left, add-mul-mod_self_left, div-lt_iff_lt-mul, mod-add-div, mul_comm, mul_assoc}
use lib.ListN.{length, get_or, set}
use Rattle.laws.specs.Below.{sum_below}
use Rattle.laws.proofs.Below.{sum_same, sum_first, sum-times}
use Rattle.game.specs.Placement.{code_of, sections_in}

-- (Examples is named so that it is checked before: a wrong definition then shows at a computed value.)

-- all sections of a list are below s
abbrev pub AllBelow : ℕ → List ℕ → Type 0
AllBelow s xs = (i : ℕ) → i < length xs → get_or xs i 0 < s

below-tail : (s x : ℕ) (xs : List ℕ) → AllBelow s (x ∷ xs) → AllBelow s xs
below-tail s x xs h i l = h (suc i) (omega arith)

pub code-nil : (s : ℕ) → code_of s [] ≡ 0
unfolding code_of sum_below
code-nil s = refl

pub code-cons : (s x : ℕ) (xs : List ℕ) → code_of s (x ∷ xs) ≡ x + s * code_of s xs
unfolding code_of
code-cons s x xs =
    let one : x * s ^ 0 ≡ x = (let z : s ^ 0 ≡ 1 = pow-zero s in rw z (mul-one x)) in
    let rest : s * sum_below (λ t. get_or xs t 0 * s ^ t) (length xs) ≡ sum_below (λ t. get_or xs t 0 * s ^ suc t) (length xs) =
    sum-times s (λ t. get_or xs t 0 * s ^ t) (length xs) ∙ sum_same _ _ (length xs) (λ t l. swap (get_or xs t 0) t) in
    sum_first (λ t. get_or (x ∷ xs) t 0 * s ^ t) (length xs) ∙ (rw (one, rest))
  where
    swap : (y t : ℕ) → s * (y * s ^ t) ≡ y * s ^ suc t
    swap y t = sym (mul_assoc s y (s ^ t)) ∙ ap (λ (z : ℕ). z * s ^ t) (mul_comm s y) ∙ mul_assoc y s (s ^ t) ∙ ap (λ (z : ℕ). y * z) (sym (pow-succ' s t))

pub code_below : (s : ℕ) (xs : List ℕ) → AllBelow s xs → code_of s xs < s ^ length xs
code_below s [] h = rw (code-nil s) (omega (arith, pow-zero s))
code_below s (x ∷ xs) h =
    let c : code_of s xs < s ^ length xs = code_below s xs (below-tail s x xs h) in
    let m : s * suc (code_of s xs) ≤ s * s ^ length xs = mul-le-mul_left s c in
    let e : s * suc (code_of s xs) ≡ s * code_of s xs + s = mul-suc s (code_of s xs) in
    let z : x < s = h 0 (omega arith) in
    rw (code-cons s x xs, pow-succ' s (length xs)) (omega arith)

pub sections-length : (s k p : ℕ) → length (sections_in s k p) ≡ k
unfolding sections_in
sections-length s zero p = refl
sections-length s (suc k) p = ap suc (sections-length s k (p / s))

pub sections-below : (s k p : ℕ) → 0 < s → AllBelow s (sections_in s k p)
unfolding sections_in
sections-below s zero p h i l = absurd (omega arith)
sections-below s (suc k) p h zero l = mod-lt p h
sections-below s (suc k) p h (suc i) l = sections-below s k (p / s) h i (omega arith)

-- a code's placement has that code
pub code-sections : (s k p : ℕ) → 0 < s → p < s ^ k → code_of s (sections_in s k p) ≡ p
unfolding sections_in
code-sections s zero p h l = code-nil s ∙ omega (arith, pow-zero s)
code-sections s (suc k) p h l =
    let e : s ^ suc k ≡ s ^ k * s = pow-succ' s k ∙ mul_comm s (s ^ k) in
    let q : p / s < s ^ k = (div-lt_iff_lt-mul h).1 (rw e at l) in
    let c : code_of s (sections_in s k (p / s)) ≡ p / s = code-sections s k (p / s) h q in
    rw (code-cons s (p % s) (sections_in s k (p / s)), c) (mod-add-div p s)

-- sections come back from their code
pub sections-code : (s : ℕ) (xs : List ℕ) → 0 < s → AllBelow s xs → sections_in s (length xs) (code_of s xs) ≡ xs
unfolding sections_in
sections-code s [] h a = refl
sections-code s (x ∷ xs) h a =
    let z : x < s = a 0 (omega arith) in
    let m : (x + s * code_of s xs) % s ≡ x = add-mul-mod_self_left x s (code_of s xs) ∙ mod-eq_of_lt z in
    let d₁ : (x + s * code_of s xs) / s ≡ x / s + code_of s xs = add-mul-div_left x (code_of s xs) h in
    let d₂ : x / s ≡ 0 = div-eq_of_lt z in
    let d : (x + s * code_of s xs) / s ≡ code_of s xs = omega arith in
    rw (code-cons s x xs, m, d) (ap (λ (l : List ℕ). x ∷ l) (sections-code s xs h (below-tail s x xs a)))

-- a list stays below s where one section below s is put in
pub set_below : (s : ℕ) (xs : List ℕ) (t y : ℕ) → AllBelow s xs → y < s → AllBelow s (set xs t y)
set_below s [] t y a l i h = absurd (omega arith)
set_below s (x ∷ xs) zero y a l zero h = l
set_below s (x ∷ xs) zero y a l (suc i) h = a (suc i) h
set_below s (x ∷ xs) (suc t) y a l zero h = a 0 (omega arith)
set_below s (x ∷ xs) (suc t) y a l (suc i) h = set_below s xs t y (below-tail s x xs a) l i (omega arith)
