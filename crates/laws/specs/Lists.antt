-- Tests over a list, and lists that are made element by element.
-- Assumes nothing.
use Rattle.std.specs.Prelude.{Bool, true, false, ◌&&◌, ◌||◌, ℕ, suc, leb}
use mathlib.Core.List.{List, [], ◌∷◌, Memᴰ}

module _ {A : Type 0} where
  -- Some element passes the test.
  unfoldable pub any : (A → Bool) → List A → Bool
  any f [] = false
  any f (x ∷ xs) = f x || any f xs

  -- All elements pass the test.
  unfoldable pub all : (A → Bool) → List A → Bool
  all f [] = true
  all f (x ∷ xs) = f x && all f xs

  -- Some element stands twice.
  unfoldable pub repeats : (A → A → Bool) → List A → Bool
  repeats same [] = false
  repeats same (x ∷ xs) = any (same x) xs || repeats same xs

  -- Every element is such.
  abbrev pub Every : (A → Type 0) → List A → Type 0
  Every P xs = (x : A) → Memᴰ x xs → P x

  -- One more element in front of the first of several lists; a list by itself where there is none.
  abbrev pub on_first : A → List (List A) → List (List A)
  on_first x [] = (x ∷ []) ∷ []
  on_first x (l ∷ ls) = (x ∷ l) ∷ ls

-- Numbers that strictly rise, the first of them at least c.
unfoldable pub rises : ℕ → List ℕ → Bool
rises c [] = true
rises c (x ∷ xs) = leb c x && rises (suc x) xs
