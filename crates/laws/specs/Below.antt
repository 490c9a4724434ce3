-- The numbers below k: whether all or some pass a test, how many and which do, which is the lowest; what a function gives at each, and in sum.
-- Assumes nothing.
use Rattle.std.specs.Prelude.{ℕ, zero, suc, ◌+◌, Bool, true, false, cond, ◌&&◌, ◌||◌, List, [], ◌∷◌, ◌++◌}
use Rattle.std.proofs.Math.Option.{Option, none, some}

-- All numbers below k pass a test.
unfoldable pub all_below : (ℕ → Bool) → ℕ → Bool
all_below f zero = true
all_below f (suc k) = all_below f k && f k

-- Some number below k passes a test.
unfoldable pub any_below : (ℕ → Bool) → ℕ → Bool
any_below f zero = false
any_below f (suc k) = any_below f k || f k

-- How many numbers below k pass a test.
unfoldable pub count_below : (ℕ → Bool) → ℕ → ℕ
count_below f zero = 0
count_below f (suc k) = count_below f k + cond (f k) 1 0

-- The sum of what a function gives at the numbers below k.
unfoldable pub sum_below : (ℕ → ℕ) → ℕ → ℕ
sum_below f zero = 0
sum_below f (suc k) = sum_below f k + f k

-- The numbers below k that pass a test, rising.
unfoldable pub which_below : (ℕ → Bool) → ℕ → List ℕ
which_below f zero = []
which_below f (suc k) = which_below f k ++ cond (f k) (k ∷ []) []

-- The first of two that is there.
abbrev pub or_else : {A : Type 0} → Option A → Option A → Option A
or_else none b = b
or_else (some x) b = some x

-- The lowest number below k that passes a test.
unfoldable pub lowest : (ℕ → Bool) → ℕ → Option ℕ
lowest f zero = none
lowest f (suc k) = or_else (lowest f k) (cond (f k) (some k) none)

module _ {A : Type 0} where
  -- What a function gives at 0, 1, .. below k.
  unfoldable pub list_below : (ℕ → A) → ℕ → List A
  list_below f zero = []
  list_below f (suc k) = list_below f k ++ (f k ∷ [])

  -- The same where it gives a list at each: one after the other.
  unfoldable pub gather_below : (ℕ → List A) → ℕ → List A
  gather_below f zero = []
  gather_below f (suc k) = gather_below f k ++ f k
