-- Lists by their last element: every list is empty or has one, and two lists that are equal have the same last element and the same before it.
-- Assumes nothing.
use mathlib.Core.Path.{◌≡◌, refl, sym, ap}
use mathlib.Core.Bool.{Bool, true}
use mathlib.Core.List.{List, [], ◌∷◌, ◌++◌}
use native.Mathlib.Omega.{arith}
use lib.ListN.{length, length-append}
use Rattle.laws.specs.Lists.{all}
use Rattle.laws.proofs.Bools.{and-true, and_both}

module _ {A : Type 0} where
  -- empty, or with a last element
  pub data Snoc (l : List A) : Type 0 where
    empty : l ≡ [] → Snoc l
    snoc : (xs : List A) (x : A) → l ≡ xs ++ (x ∷ []) → Snoc l

  pub snoc? : (l : List A) → Snoc l
  snoc? [] = empty refl
  snoc? (y ∷ l) = go (snoc? l)
    where
      go : Snoc l → Snoc (y ∷ l)
      go (empty e) = snoc [] y (rw e)
      go (snoc xs x e) = snoc (y ∷ xs) x (rw e)

  pub snoc-not-empty : {B : Type 0} (xs : List A) (x : A) → xs ++ (x ∷ []) ≡ [] → B
  snoc-not-empty xs x e = absurd (omega (arith, length-append xs (x ∷ []), ap length e))

  pub record SameLast (xs ys : List A) (x y : A) : Type 0 where
    pub front : xs ≡ ys
    pub last : x ≡ y

  pub snoc-same : (xs ys : List A) (x y : A) → xs ++ (x ∷ []) ≡ ys ++ (y ∷ []) → SameLast xs ys x y
  snoc-same [] [] x y e = record { front = refl; last = (let z : x ≡ y = cc in z) }
  snoc-same [] (b ∷ ys) x y e = let z : [] ≡ ys ++ (y ∷ []) = cc in snoc-not-empty ys y (sym z)
  snoc-same (a ∷ xs) [] x y e = let z : xs ++ (x ∷ []) ≡ [] = cc in snoc-not-empty xs x z
  snoc-same (a ∷ xs) (b ∷ ys) x y e =
      let h : a ≡ b = cc in
      let t : xs ++ (x ∷ []) ≡ ys ++ (y ∷ []) = cc in
      let s = snoc-same xs ys x y t in
      let f : xs ≡ ys = s.front in
      record { front = rw (h, f); last = s.last }

  -- all elements of two lists put together pass a test
  pub all-parts : (f : A → Bool) (s t : List A) → all f (s ++ t) ≡ true → (all f s ≡ true) × (all f t ≡ true)
  unfolding all
  all-parts f [] t e = (refl, e)
  all-parts f (x ∷ s) t e = let h = and-true (f x) (all f (s ++ t)) e in let k = all-parts f s t h.1 in (and_both (f x) (all f s) h.0 k.0, k.1)
