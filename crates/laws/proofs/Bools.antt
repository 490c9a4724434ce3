-- Case analysis that keeps the equation, and the laws of `&&`, `||` and `not` that searches and rows need.
-- Assumes nothing.
use mathlib.Core.Path.{◌≡◌, refl}
use mathlib.Core.Logic.{◌⊎◌, inl, inr}
use mathlib.Core.Bool.{Bool, true, false, not, ◌&&◌, ◌||◌}
use mathlib.Core.Option.{Option, none, some}
use Prim.Native.Nat.{ℕ, ◌≤◌, ◌<◌}
use native.Mathlib.Omega.{arith}
use lib.Dec.{ltb, eqb}
use borrow.Author.Tests.{ltb-true, ltb-false, eqb-true, eqb-false}

-- a value by cases, with the equation
pub bool? : (b : Bool) → (b ≡ true) ⊎ (b ≡ false)
bool? true = inl refl
bool? false = inr refl

pub option? : {A : Type 0} (o : Option A) → (o ≡ none) ⊎ ((x : A) × (o ≡ some x))
option? none = inl refl
option? (some x) = inr (x, refl)

pub lt? : (m n : ℕ) → (m < n) ⊎ (n ≤ m)
lt? m n = elim (bool? (ltb m n)) [ inl e ↦ inl (ltb-true m n e) | inr e ↦ inr (ltb-false m n e) ]

pub eq? : (m n : ℕ) → (m ≡ n) ⊎ (m ≡ n → ⊥)
eq? m n = elim (bool? (eqb m n)) [ inl e ↦ inl (eqb-true m n e) | inr e ↦ inr (eqb-false m n e) ]

-- two that are true together are the same
pub same_bool : (a b : Bool) → (a ≡ true → b ≡ true) → (b ≡ true → a ≡ true) → a ≡ b
same_bool true b f g = rw (f refl)
same_bool false true f g = g refl
same_bool false false f g = refl

-- contradictions
pub clash : {A : Type 0} {b : Bool} → b ≡ true → b ≡ false → A
clash p q = let z : ◌≡◌ {A = ℕ} 0 1 = cc in absurd (omega arith)

pub some-none : {A B : Type 0} {o : Option B} {x : B} → o ≡ some x → o ≡ none → A
some-none p q = let z : ◌≡◌ {A = ℕ} 0 1 = cc in absurd (omega arith)

pub some_one : {A : Type 0} {x y : A} → some x ≡ some y → x ≡ y
some_one e = cc

pub not-true : (b : Bool) → (b ≡ true → ⊥) → b ≡ false
not-true true f = absurd (f refl)
not-true false f = refl

pub not-false : (b : Bool) → (b ≡ false → ⊥) → b ≡ true
not-false true f = refl
not-false false f = absurd (f refl)

-- or
pub or-false : (a b : Bool) → (a || b) ≡ false → (a ≡ false) × (b ≡ false)
or-false true b e = clash refl e
or-false false b e = (refl, e)

pub or-none : (a b : Bool) → a ≡ false → b ≡ false → (a || b) ≡ false
or-none a b p q = rw (p, q)

pub or_assoc : (a b c : Bool) → (a || (b || c)) ≡ ((a || b) || c)
or_assoc true b c = refl
or_assoc false b c = refl

pub or_left : (a b : Bool) → a ≡ true → (a || b) ≡ true
or_left a b p = rw p

pub or_right : (a b : Bool) → b ≡ true → (a || b) ≡ true
or_right true b p = refl
or_right false b p = p

pub either : (a b : Bool) → (a || b) ≡ true → (a ≡ true) ⊎ (b ≡ true)
either true b e = inl refl
either false b e = inr e

-- and
pub and-true : (a b : Bool) → (a && b) ≡ true → (a ≡ true) × (b ≡ true)
and-true true b e = (refl, e)
and-true false b e = clash e refl

pub and_both : (a b : Bool) → a ≡ true → b ≡ true → (a && b) ≡ true
and_both a b p q = rw (p, q)

pub and-off : (a : Bool) → (a && false) ≡ false
and-off true = refl
and-off false = refl

pub not_is : (a : Bool) → not a ≡ false → a ≡ true
not_is true e = refl
not_is false e = clash refl e

pub not-and : (a b : Bool) → not (a && b) ≡ false → (a ≡ true) × (b ≡ true)
not-and a b e = and-true a b (not_is (a && b) e)

-- the tests of a loop, as code makes them
pub test-off : (a b : Bool) → a ≡ false → false ≡ (a && b)
test-off a b e = rw e

pub test_on : (a b c : Bool) → a ≡ true → c ≡ b → c ≡ (a && b)
test_on a b c e h = rw e h
