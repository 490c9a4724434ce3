-- Laws of the numbers below k: all, any, lowest, how many, sums, lists; and the steps of a loop that looks for one.
-- Assumes nothing.
use mathlib.Core.Path.{◌≡◌, refl, sym, ◌∙◌}
use mathlib.Core.Logic.{◌⊎◌, inl, inr}
use mathlib.Core.Bool.{Bool, true, false, cond}
use mathlib.Core.List.Memᴰ
use mathlib.Core.List.{List, [], ◌∷◌, ◌++◌, map, Memᴰ}
use mathlib.Core.Option.{none, some}
use Prim.Native.Nat.{ℕ, zero, suc, ◌+◌, ◌-◌, ◌*◌, ◌≤◌, ◌<◌}
use native.Mathlib.Omega.{arith}
use native.Mathlib.Nat.{mul-add}
use native.Mathlib.Numerals.{add-one}
use lib.ListN.{length, get_or, drop, length-append, length-drop, length-map, get_or-append, get_or-map}
use lib.Seq.{get_or_at, ext_get_or, get_or-append-add, get_or-drop}
use Rattle.laws.specs.Below.{all_below, any_below, count_below, sum_below, list_below, gather_below, lowest, or_else}
use Rattle.laws.proofs.Bools.{bool?, lt?, clash, and-true, and_both, either, or_left, or_right}

-- what holds below k and at k holds below k + 1
pub upto : (P : ℕ → Type 0) {k : ℕ} → ((u : ℕ) → u < k → P u) → P k → (u : ℕ) → u < suc k → P u
upto P {k} below here u h = elim (lt? u k) [ inl l ↦ below u l | inr l ↦ let same : u ≡ k = omega arith in rw same here ]

-- ALL AND ANY
pub all-at : (f : ℕ → Bool) (k : ℕ) → all_below f k ≡ true → (i : ℕ) → i < k → f i ≡ true
unfolding all_below
all-at f zero e i l = absurd (omega arith)
all-at f (suc k) e i l = let t = and-true (all_below f k) (f k) e in upto (λ i. f i ≡ true) (all-at f k t.0) t.1 i l

pub all_of : (f : ℕ → Bool) (k : ℕ) → ((i : ℕ) → i < k → f i ≡ true) → all_below f k ≡ true
unfolding all_below
all_of f zero h = refl
all_of f (suc k) h = and_both (all_below f k) (f k) (all_of f k (λ i l. h i (omega arith))) (h k (omega arith))

pub any_at : (f : ℕ → Bool) (k : ℕ) → any_below f k ≡ true → (i : ℕ) × (i < k) × (f i ≡ true)
unfolding any_below
any_at f zero e = clash e refl
any_at f (suc k) e = elim (either (any_below f k) (f k) e) [
  | inl a ↦ let r : (i : ℕ) × (i < k) × (f i ≡ true) = any_at f k a in (r.0, omega arith, r.2)
  | inr a ↦ (k, omega arith, a)
]

pub any_of : (f : ℕ → Bool) (k i : ℕ) → i < k → f i ≡ true → any_below f k ≡ true
unfolding any_below
any_of f zero i l e = absurd (omega arith)
any_of f (suc k) i l e = elim (lt? i k) [
  | inl m ↦ or_left (any_below f k) (f k) (any_of f k i m e)
  | inr m ↦ let z : i ≡ k = omega arith in or_right (any_below f k) (f k) (rw z at e)
]

pub any_false : (f : ℕ → Bool) (k : ℕ) → any_below f k ≡ false → (i : ℕ) → i < k → f i ≡ false
any_false f k e i l = elim (bool? (f i)) [ inl y ↦ clash (any_of f k i l y) e | inr y ↦ y ]

pub any_same : (f g : ℕ → Bool) (k : ℕ) → ((i : ℕ) → i < k → f i ≡ g i) → any_below f k ≡ any_below g k
unfolding any_below
any_same f g zero h = refl
any_same f g (suc k) h = let a : any_below f k ≡ any_below g k = any_same f g k (λ i l. h i (omega arith)) in let b : f k ≡ g k = h k (omega arith) in rw (a, b)

pub all_same : (f g : ℕ → Bool) (k : ℕ) → ((i : ℕ) → i < k → f i ≡ g i) → all_below f k ≡ all_below g k
unfolding all_below
all_same f g zero h = refl
all_same f g (suc k) h = let a : all_below f k ≡ all_below g k = all_same f g k (λ i l. h i (omega arith)) in let b : f k ≡ g k = h k (omega arith) in rw (a, b)

pub none_any : (f : ℕ → Bool) (k : ℕ) → ((i : ℕ) → i < k → f i ≡ false) → any_below f k ≡ false
none_any f k h = elim (bool? (any_below f k)) [
  | inl y ↦ let t : (i : ℕ) × (i < k) × (f i ≡ true) = any_at f k y in clash t.2 (h t.0 t.1)
  | inr y ↦ y
]

-- LOOPS that look for one, from 0 up
pub any_next : (f : ℕ → Bool) (i : ℕ) → any_below f i ≡ false → f i ≡ false → any_below f (i + 1) ≡ false
unfolding any_below
any_next f i a b = rw (add-one i, a) b

pub any_none : (f : ℕ → Bool) (k i : ℕ) → any_below f i ≡ false → i ≤ k → k ≤ i → false ≡ any_below f k
any_none f k i a l m = let e : k ≡ i = omega arith in rw e (sym a)

pub any-one : (f : ℕ → Bool) (k i : ℕ) → i < k → f i ≡ true → true ≡ any_below f k
any-one f k i l e = sym (any_of f k i l e)

pub all-next : (f : ℕ → Bool) (i : ℕ) → all_below f i ≡ true → f i ≡ true → all_below f (i + 1) ≡ true
unfolding all_below
all-next f i a b = rw (add-one i, a) b

pub all-each : (f : ℕ → Bool) (k i : ℕ) → all_below f i ≡ true → i ≤ k → k ≤ i → true ≡ all_below f k
all-each f k i a l m = let e : k ≡ i = omega arith in rw e (sym a)

pub all_but : (f : ℕ → Bool) (k i : ℕ) → i < k → f i ≡ false → false ≡ all_below f k
all_but f k i l e = elim (bool? (all_below f k)) [ inl y ↦ clash (all-at f k y i l) e | inr y ↦ sym y ]

-- THE LOWEST: there is one and it passes, or none passes
pub lowest-cases : (f : ℕ → Bool) (k : ℕ)
    → ((u : ℕ) × (lowest f k ≡ some u) × (u < k) × (f u ≡ true)) ⊎ ((lowest f k ≡ none) × ((t : ℕ) → t < k → f t ≡ false))
unfolding lowest
lowest-cases f zero = inr (refl, λ t h. absurd (omega arith))
lowest-cases f (suc k) =
    elim (lowest-cases f k) [
      | inl r ↦ inl (r.0, rw r.1, omega arith, r.3)
      | inr r ↦ elim (bool? (f k)) [
        | inl e ↦ inl (k, rw (r.0, e), omega arith, e)
        | inr e ↦ inr (rw (r.0, e), upto (λ t. f t ≡ false) r.1 e)
      ]
    ]

-- The lowest that passes is lower than any other that does
pub lowest-least : (f : ℕ → Bool) (k u : ℕ) → lowest f k ≡ some u → (i : ℕ) → f i ≡ true → i < k → u ≤ i
unfolding lowest
lowest-least f zero u e i p l = absurd (omega arith)
lowest-least f (suc k) u e i p l = elim (lowest-cases f k) [
  | inl r ↦ elim (lt? i k) [
    | inl m ↦ lowest-least f k u (r.1 ∙ same r.1) i p m
    | inr m ↦ let z : r.0 ≡ u = found r.1 in omega (arith, r.2)
  ]
  | inr r ↦ elim (bool? (f k)) [
    | inl y ↦ let z : k ≡ u = new r.0 y in elim (lt? i k) [ inl m ↦ clash p (r.1 i m) | inr m ↦ omega arith ]
    | inr n ↦ elim (lt? i k) [ inl m ↦ clash p (r.1 i m) | inr m ↦ let z : i ≡ k = omega arith in clash p (rw z n) ]
  ]
]
  where
    found : {w : ℕ} → lowest f k ≡ some w → w ≡ u
    found {w} q = let s : or_else (lowest f k) (cond (f k) (some k) none) ≡ some w = rw q in cc

    same : {w : ℕ} → lowest f k ≡ some w → some w ≡ some u
    same {w} q = let z : w ≡ u = found q in rw z

    new : lowest f k ≡ none → f k ≡ true → k ≡ u
    new q y = let s : or_else (lowest f k) (cond (f k) (some k) none) ≡ some k = rw (q, y) in cc

-- COUNTS
pub count-one : (f : ℕ → Bool) (k i : ℕ) → i < k → f i ≡ true → 1 ≤ count_below f k
unfolding count_below
count-one f zero i l e = absurd (omega arith)
count-one f (suc k) i l e = elim (lt? i k) [
  | inl m ↦ omega (arith, count-one f k i m e)
  | inr m ↦ let z : i ≡ k = omega arith in let y : f k ≡ true = rw z at e in rw y (omega arith)
]

pub count_none : (f : ℕ → Bool) (k : ℕ) → ((i : ℕ) → i < k → f i ≡ false) → count_below f k ≡ 0
unfolding count_below
count_none f zero h = refl
count_none f (suc k) h = rw (count_none f k (λ i l. h i (omega arith)), h k (omega arith))

-- only one number can pass: at most one does
pub count-at-most-one : (f : ℕ → Bool) (k e : ℕ) → ((i : ℕ) → f i ≡ true → i ≡ e) → count_below f k ≤ 1
unfolding count_below
count-at-most-one f zero e h = omega arith
count-at-most-one f (suc k) e h = elim (bool? (f k)) [
  | inl y ↦
      let n : count_below f k ≡ 0 = count_none f k (λ i l. elim (bool? (f i)) [ inl a ↦ (let p : i ≡ e = h i a in let q : k ≡ e = h k y in absurd (omega arith)) | inr a ↦ a ]) in
      rw (n, y) (omega arith)
  | inr y ↦ rw y (omega (arith, count-at-most-one f k e h))
]

-- two that pass are counted as two
pub count-two : (f : ℕ → Bool) (k i j : ℕ) → i < j → j < k → f i ≡ true → f j ≡ true → 2 ≤ count_below f k
unfolding count_below
count-two f zero i j l m a b = absurd (omega arith)
count-two f (suc k) i j l m a b = elim (lt? j k) [
  | inl n ↦ omega (arith, count-two f k i j l n a b)
  | inr n ↦ let z : j ≡ k = omega arith in let y : f k ≡ true = rw z at b in rw y (omega (arith, count-one f k i (omega arith) a))
]

pub count-le : (f : ℕ → Bool) (k : ℕ) → count_below f k ≤ k
unfolding count_below
count-le f zero = omega arith
count-le f (suc k) = omega (arith, count-le f k, bit_le (f k))
  where
    bit_le : (b : Bool) → cond b 1 0 ≤ 1
    bit_le true = omega arith
    bit_le false = omega arith

-- a test that more pass counts more
module _ (f g : ℕ → Bool) (keep : (i : ℕ) → f i ≡ true → g i ≡ true) where
  count-step : (i : ℕ) → cond (f i) 1 0 ≤ cond (g i) 1 0
  count-step i = elim (bool? (f i)) [ inl e ↦ rw (e, keep i e) (omega arith) | inr e ↦ rw e (omega arith) ]

  pub count-mono : (k : ℕ) → count_below f k ≤ count_below g k
  unfolding count_below
  count-mono zero = omega arith
  count-mono (suc k) = omega (arith, count-mono k, count-step k)

  pub count-more : (k i : ℕ) → i < k → f i ≡ false → g i ≡ true → count_below f k < count_below g k
  unfolding count_below
  count-more zero i l a b = absurd (omega arith)
  count-more (suc k) i l a b = elim (lt? i k) [
    | inl m ↦ omega (arith, count-more k i m a b, count-step k)
    | inr m ↦
        let z : i ≡ k = omega arith in
        let x : f k ≡ false = rw z at a in
        let y : g k ≡ true = rw z at b in
        rw (x, y) (omega (arith, count-mono k))
  ]

-- SUMS
pub sum_same : (f g : ℕ → ℕ) (k : ℕ) → ((i : ℕ) → i < k → f i ≡ g i) → sum_below f k ≡ sum_below g k
unfolding sum_below
sum_same f g zero h = refl
sum_same f g (suc k) h = let a : sum_below f k ≡ sum_below g k = sum_same f g k (λ i l. h i (omega arith)) in let b : f k ≡ g k = h k (omega arith) in rw (a, b)

-- the first summand apart
pub sum_first : (f : ℕ → ℕ) (k : ℕ) → sum_below f (suc k) ≡ f 0 + sum_below (λ i. f (suc i)) k
unfolding sum_below
sum_first f zero = omega arith
sum_first f (suc k) = let h : sum_below f (suc k) ≡ f 0 + sum_below (λ i. f (suc i)) k = sum_first f k in omega arith

pub sum-times : (s : ℕ) (f : ℕ → ℕ) (k : ℕ) → s * sum_below f k ≡ sum_below (λ i. s * f i) k
unfolding sum_below
sum-times s f zero = omega arith
sum-times s f (suc k) = mul-add s (sum_below f k) (f k) ∙ (let h : s * sum_below f k ≡ sum_below (λ i. s * f i) k = sum-times s f k in rw h)

-- LISTS made of a function
module _ {A : Type 0} where
  pub list_length : (f : ℕ → A) (k : ℕ) → length (list_below f k) ≡ k
  unfolding list_below
  list_length f zero = refl
  list_length f (suc k) = length-append (list_below f k) (f k ∷ []) ∙ (let h : length (list_below f k) ≡ k = list_length f k in rw h (omega arith))

  pub list_get : (f : ℕ → A) (k i : ℕ) (d : A) → i < k → get_or (list_below f k) i d ≡ f i
  unfolding list_below
  list_get f zero i d l = absurd (omega arith)
  list_get f (suc k) i d l = elim (lt? i k) [
    | inl m ↦ get_or-append (list_below f k) (f k ∷ []) d i (rw (list_length f k) m) ∙ list_get f k i d m
    | inr m ↦ let z : i ≡ k = omega arith in rw z (get_or_at (list_below f k) (f k) [] d k (list_length f k))
  ]

  pub list_same : (f g : ℕ → A) (k : ℕ) → ((i : ℕ) → i < k → f i ≡ g i) → list_below f k ≡ list_below g k
  unfolding list_below
  list_same f g zero h = refl
  list_same f g (suc k) h = let a : list_below f k ≡ list_below g k = list_same f g k (λ i l. h i (omega arith)) in let b : f k ≡ g k = h k (omega arith) in rw (a, b)

  pub gather-same : (f g : ℕ → List A) (k : ℕ) → ((i : ℕ) → i < k → f i ≡ g i) → gather_below f k ≡ gather_below g k
  unfolding gather_below
  gather-same f g zero h = refl
  gather-same f g (suc k) h = let a : gather_below f k ≡ gather_below g k = gather-same f g k (λ i l. h i (omega arith)) in let b : f k ≡ g k = h k (omega arith) in rw (a, b)

  -- an element of a list comes from some number below k
  pub record Listed (f : ℕ → A) (k : ℕ) (x : A) : Type 0 where
    pub index : ℕ
    pub below : index < k
    pub is : x ≡ f index

  pub listed : (f : ℕ → A) (k : ℕ) (x : A) → Memᴰ x (list_below f k) → Listed f k x
  unfolding list_below
  listed f zero x m = elim m [ ]
  listed f (suc k) x m = elim (Memᴰ.append_cases (list_below f k) m) [
    | inl h ↦ let t = listed f k x h in record { index = t.index; below = omega (arith, t.below); is = t.is }
    | inr h ↦ last h
  ]
    where
      last : Memᴰ x (f k ∷ []) → Listed f (suc k) x
      last (Memᴰ.head e) = record { index = k; below = omega arith; is = e }
      last (Memᴰ.tail n) = elim n [ ]

  -- an element of what was gathered comes from some number below k, and what a number below k gives is gathered
  pub record Gathered (f : ℕ → List A) (k : ℕ) (x : A) : Type 0 where
    pub index : ℕ
    pub below : index < k
    pub there : Memᴰ x (f index)

  pub gathered : (f : ℕ → List A) (k : ℕ) (x : A) → Memᴰ x (gather_below f k) → Gathered f k x
  unfolding gather_below
  gathered f zero x m = elim m [ ]
  gathered f (suc k) x m = elim (Memᴰ.append_cases (gather_below f k) m) [
    | inl h ↦ let t = gathered f k x h in record { index = t.index; below = omega (arith, t.below); there = t.there }
    | inr h ↦ record { index = k; below = omega arith; there = h }
  ]

  pub in-gathered : (f : ℕ → List A) (k i : ℕ) (x : A) → i < k → Memᴰ x (f i) → Memᴰ x (gather_below f k)
  unfolding gather_below
  in-gathered f zero i x l m = absurd (omega arith)
  in-gathered f (suc k) i x l m = elim (lt? i k) [
    | inl h ↦ Memᴰ.append_left (f k) (in-gathered f k i x h m)
    | inr h ↦ let z : i ≡ k = omega arith in Memᴰ.append_right (gather_below f k) (rw z at m)
  ]

-- a list by its places
pub list-places : {A B : Type 0} (f : A → B) (l : List A) (d : A) → list_below (λ i. f (get_or l i d)) (length l) ≡ map f l
list-places f l d =
    ext_get_or (f d) (list_below (λ i. f (get_or l i d)) (length l)) (map f l)
    (list_length (λ i. f (get_or l i d)) (length l) ∙ sym (length-map l f))
    (λ i h.
    let b : i < length l = rw (list_length (λ i. f (get_or l i d)) (length l)) at h in
    list_get (λ i. f (get_or l i d)) (length l) i (f d) b ∙ sym (get_or-map f l i d))

-- a list whose first k elements are a function's values, the rest as it was
module _ {A : Type 0} where
  abbrev pub overwritten : (ℕ → A) → ℕ → List A → List A
  overwritten f k old = list_below f k ++ drop k old

  module _ (f : ℕ → A) (k : ℕ) (old : List A) (l : k ≤ length old) where
    pub overwritten-length : length (overwritten f k old) ≡ length old
    overwritten-length =
        length-append (list_below f k) (drop k old)
        ∙ (let a : length (list_below f k) ≡ k = list_length f k in let b : length (drop k old) ≡ length old - k = length-drop k old in rw (a, b) (omega arith))

    pub overwritten-below : (i : ℕ) (d : A) → i < k → get_or (overwritten f k old) i d ≡ f i
    overwritten-below i d h = get_or-append (list_below f k) (drop k old) d i (rw (list_length f k) h) ∙ list_get f k i d h

    pub overwritten-past : (i : ℕ) (d : A) → k ≤ i → get_or (overwritten f k old) i d ≡ get_or old i d
    overwritten-past i d h =
        let j : ℕ = i - k in
        let a : length (list_below f k) + j ≡ i = (let n : length (list_below f k) ≡ k = list_length f k in omega arith) in
        let b : get_or (overwritten f k old) (length (list_below f k) + j) d ≡ get_or (drop k old) j d = get_or-append-add (list_below f k) (drop k old) j d in
        let c : get_or (drop k old) j d ≡ get_or old (k + j) d = get_or-drop k old j d in
        let e : k + j ≡ i = omega arith in
        rw a at b ∙ rw e at c
