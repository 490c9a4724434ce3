-- A list with values stored one after the other. Stores behind a place leave it alone, so each place has the value that was stored there; where
-- the list had one value everywhere, the rest still has it.
-- Assumes nothing.
use Prim.Native.Nat.{ℕ, zero, suc, ◌+◌, ◌-◌, ◌<◌, ◌≤◌}
use mathlib.Core.Path.{◌≡◌, refl, sym, ◌∙◌, ap}
use mathlib.Core.Logic.{inl, inr}
use mathlib.Core.List.{List, [], ◌∷◌}
use native.Mathlib.Omega.{arith}
use lib.ListN.{length, get_or, set, replicate, length-set}
use lib.Seq.{get_or-set_same, get_or-set_other, ext_get_or}
use Rattle.laws.specs.Below.{list_below}
use Rattle.laws.proofs.Bools.{eq?}
use Rattle.laws.proofs.Below.{list_length, list_get}

module _ {A : Type 0} where
  unfoldable pub store_from : List A → ℕ → List A → List A
  store_from ls i [] = ls
  store_from ls i (x ∷ xs) = store_from (set ls i x) (suc i) xs

  pub store_length : (xs ls : List A) (i : ℕ) → length (store_from ls i xs) ≡ length ls
  unfolding store_from
  store_length [] ls i = refl
  store_length (x ∷ xs) ls i = store_length xs (set ls i x) (suc i) ∙ simp length-set

  store-before : (xs ls : List A) (i j : ℕ) (d : A) → j < i → get_or (store_from ls i xs) j d ≡ get_or ls j d
  unfolding store_from
  store-before [] ls i j d h = refl
  store-before (x ∷ xs) ls i j d h = store-before xs (set ls i x) (suc i) j d (omega arith) ∙ get_or-set_other ls i j x d (λ e. omega arith)

  here-is : (x : A) (xs : List A) (i : ℕ) (d : A) → get_or (x ∷ xs) (i - i) d ≡ x
  here-is x xs i d = let z : i - i ≡ 0 = omega arith in rw z

  later-is : (x : A) (xs : List A) (i j : ℕ) (d : A) → suc i ≤ j → get_or xs (j - suc i) d ≡ get_or (x ∷ xs) (j - i) d
  later-is x xs i j d h = let z : j - i ≡ suc (j - suc i) = omega arith in rw z

  store_at : (xs ls : List A) (i j : ℕ) (d : A) → ((k : ℕ) → i ≤ k → get_or ls k d ≡ d) → i + length xs ≤ length ls
      → i ≤ j → get_or (store_from ls i xs) j d ≡ get_or xs (j - i) d
  unfolding store_from
  store_at [] ls i j d free fits h = free j h
  store_at (x ∷ xs) ls i j d free fits h = elim (eq? j i) [
    | inl e ↦ rw e (store-before xs (set ls i x) (suc i) i d (omega arith) ∙ get_or-set_same ls i x d (omega arith) ∙ sym (here-is x xs i d))
    | inr n ↦
        store_at xs (set ls i x) (suc i) j d
        (λ k l. get_or-set_other ls i k x d (λ e. omega arith) ∙ free k (omega arith)) (simp length-set (omega arith))
        (later i j n h)
        ∙ later-is x xs i j d (later i j n h)
  ]
    where
      later : (i j : ℕ) → (j ≡ i → ⊥) → i ≤ j → suc i ≤ j
      later i j n h = omega arith

  -- one value everywhere
  pub same-everywhere : (m : ℕ) (d : A) (k : ℕ) → get_or (replicate m d) k d ≡ d
  same-everywhere zero d k = refl
  same-everywhere (suc m) d zero = refl
  same-everywhere (suc m) d (suc k) = same-everywhere m d k

  pub everywhere-length : (m : ℕ) (d : A) → length (replicate m d) ≡ m
  everywhere-length zero d = refl
  everywhere-length (suc m) d = ap suc (everywhere-length m d)

  pub store-all : (xs : List A) (m : ℕ) (d : A) → length xs ≤ m → store_from (replicate m d) 0 xs ≡ list_below (λ i. get_or xs i d) m
  store-all xs m d h =
      let l : length (store_from (replicate m d) 0 xs) ≡ m = store_length xs (replicate m d) 0 ∙ everywhere-length m d in
      let e = everywhere-length m d in
      ext_get_or d (store_from (replicate m d) 0 xs) (list_below (λ i. get_or xs i d) m) (l ∙ sym (list_length (λ i. get_or xs i d) m)) (λ i b.
      store_at xs (replicate m d) 0 i d (λ k q. same-everywhere m d k) (omega arith) (omega arith)
      ∙ less_none xs i d ∙ sym (list_get (λ i. get_or xs i d) m i d (omega arith)))
    where
      less_none : (xs : List A) (i : ℕ) (d : A) → get_or xs (i - 0) d ≡ get_or xs i d
      less_none xs i d = let z : i - 0 ≡ i = omega arith in rw z
