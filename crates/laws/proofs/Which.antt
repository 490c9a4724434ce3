-- Laws of the numbers below k that pass a test, as a rising list: which of them pass another test, what comes first from a number on, when
-- two such lists are the same. Each goes by the last number, as the list is made. Assumes nothing.
use mathlib.Core.Path.{◌≡◌, refl, sym, ◌∙◌, ap, fun_ext}
use mathlib.Core.Logic.{inl, inr}
use mathlib.Core.Bool.{Bool, true, false, cond, ◌&&◌, ◌||◌}
use mathlib.Core.List.{List, [], ◌∷◌, ◌++◌, map, map-append}
use mathlib.Core.Option.{none, some}
use Prim.Native.Nat.{ℕ, zero, suc, ◌≤◌, ◌<◌}
use native.Mathlib.Omega.{arith}
use lib.ListN.{length, length-append}
use lib.Dec.{leb}
use borrow.Author.Tests.{leb-true, le-leb, lt-leb}
use Rattle.laws.specs.Below.{any_below, which_below, lowest, or_else}
use Rattle.laws.specs.Lists.{any, all}
use Rattle.laws.proofs.Bools.{bool?, some-none, and-true}
use Rattle.laws.proofs.Below.{lowest-cases}
use Rattle.laws.proofs.Lists.{any_append, all_append}

-- some of them passes another test, when it is changed
pub any-which : {A : Type 0} (g : A → Bool) (h : ℕ → A) (f : ℕ → Bool) (k : ℕ) → any g (map h (which_below f k)) ≡ any_below (λ i. f i && g (h i)) k
unfolding any any_below which_below
any-which g h f zero = refl
any-which g h f (suc k) =
    ap (any g) (map-append h (which_below f k) (cond (f k) (k ∷ []) []))
    ∙ any_append g (map h (which_below f k)) (map h (cond (f k) (k ∷ []) []))
    ∙ (let a : any g (map h (which_below f k)) ≡ any_below (λ i. f i && g (h i)) k = any-which g h f k in let b : any g (map h (cond (f k) (k ∷ []) [])) ≡ (f k && g (h k)) = last (f k) in rw (a, b))
  where
    or_nothing : (b : Bool) → (b || false) ≡ b
    or_nothing true = refl
    or_nothing false = refl

    last : (c : Bool) → any g (map h (cond c (k ∷ []) [])) ≡ (c && g (h k))
    last true = or_nothing (g (h k))
    last false = refl

-- the same tests, and changed in the same way: the same list
pub which-map : {A : Type 0} (f g : ℕ → Bool) (h i : ℕ → A) (k : ℕ) → ((p : ℕ) → p < k → f p ≡ g p) → ((p : ℕ) → p < k → h p ≡ i p) → map h (which_below f k) ≡ map i (which_below g k)
unfolding which_below
which-map f g h i zero a b = refl
which-map f g h i (suc k) a b =
    map-append h (which_below f k) (cond (f k) (k ∷ []) [])
    ∙ (let x : map h (which_below f k) ≡ map i (which_below g k) = which-map f g h i k (λ p l. a p (omega arith)) (λ p l. b p (omega arith)) in
    let y : f k ≡ g k = a k (omega arith) in
    rw (x, y) (ap (λ (l : List _). map i (which_below g k) ++ l) (last (g k))))
    ∙ sym (map-append i (which_below g k) (cond (g k) (k ∷ []) []))
  where
    last : (c : Bool) → map h (cond c (k ∷ []) []) ≡ map i (cond c (k ∷ []) [])
    last true = ap (λ (z : _). z ∷ []) (b k (omega arith))
    last false = refl

which-none : (f : ℕ → Bool) (k : ℕ) → ((i : ℕ) → i < k → f i ≡ false) → which_below f k ≡ []
unfolding which_below
which-none f zero h = refl
which-none f (suc k) h = rw (which-none f k (λ i l. h i (omega arith)), h k (omega arith))

-- FROM c ON: the lowest comes first, and behind it those from the next number on
abbrev pub from_on : (ℕ → Bool) → ℕ → ℕ → Bool
from_on f c p = leb c p && f p

pub next-none : (f : ℕ → Bool) (k : ℕ) → lowest f k ≡ none → which_below f k ≡ []
next-none f k e = elim (lowest-cases f k) [ inl r ↦ some-none r.1 e | inr r ↦ which-none f k r.1 ]

pub next-some : (f : ℕ → Bool) (k c q : ℕ) → lowest (from_on f c) k ≡ some q → which_below (from_on f c) k ≡ q ∷ which_below (from_on f (suc q)) k
unfolding which_below lowest
next-some f zero c q e = some-none e refl
next-some f (suc k) c q e = elim (lowest-cases (from_on f c) k) [
  | inl r ↦
      let o : or_else (lowest (from_on f c) k) (cond (from_on f c k) (some k) none) ≡ some r.0 = rw r.1 in
      let z : r.0 ≡ q = cc in
      let h : which_below (from_on f c) k ≡ q ∷ which_below (from_on f (suc q)) k = next-some f k c q (rw z at r.1) in
      let lc : c ≤ r.0 = leb-true c r.0 (and-true (leb c r.0) (f r.0) r.3).0 in
      let a : leb c k ≡ true = le-leb c k (omega (arith, r.2)) in
      let b : leb (suc q) k ≡ true = le-leb (suc q) k (omega (arith, r.2)) in
      rw (h, a, b)
  | inr r ↦ elim (bool? (from_on f c k)) [
    | inl y ↦
        let o : or_else (lowest (from_on f c) k) (cond (from_on f c k) (some k) none) ≡ some k = rw (r.0, y) in
        let z : k ≡ q = cc in
        let w : which_below (from_on f c) k ≡ [] = which-none (from_on f c) k r.1 in
        let v : which_below (from_on f (suc q)) k ≡ [] = which-none (from_on f (suc q)) k (λ i l. let u : leb (suc q) i ≡ false = lt-leb (suc q) i (omega arith) in rw u) in
        let t : leb (suc q) k ≡ false = lt-leb (suc q) k (omega arith) in
        rw (w, y, v, t, z)
    | inr y ↦ some-none e (rw (r.0, y))
  ]
]

pub from_zero : (f : ℕ → Bool) (k : ℕ) → which_below (from_on f 0) k ≡ which_below f k
from_zero f k = ap (λ (g : ℕ → Bool). which_below g k) (fun_ext (λ p. let e : leb 0 p ≡ true = le-leb 0 p (omega arith) in rw e))

pub which-length : (f : ℕ → Bool) (k : ℕ) → length (which_below f k) ≤ k
unfolding which_below
which-length f zero = omega arith
which-length f (suc k) = rw (length-append (which_below f k) (cond (f k) (k ∷ []) [])) (omega (arith, which-length f k, last (f k)))
  where
    last : (c : Bool) → length (cond c (k ∷ []) []) ≤ 1
    last true = omega arith
    last false = omega arith

-- all of them pass another test, when they are changed
pub all-which : {A : Type 0} (g : A → Bool) (h : ℕ → A) (f : ℕ → Bool) (k : ℕ) → ((i : ℕ) → i < k → f i ≡ true → g (h i) ≡ true) → all g (map h (which_below f k)) ≡ true
unfolding all which_below
all-which g h f zero e = refl
all-which g h f (suc k) e =
    ap (all g) (map-append h (which_below f k) (cond (f k) (k ∷ []) []))
    ∙ all_append g (map h (which_below f k)) (map h (cond (f k) (k ∷ []) [])) (all-which g h f k (λ i l. e i (omega arith))) (last (f k) (e k (omega arith)))
  where
    last : (c : Bool) → (c ≡ true → g (h k) ≡ true) → all g (map h (cond c (k ∷ []) [])) ≡ true
    last true q = rw (q refl)
    last false q = refl
