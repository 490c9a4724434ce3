-- Laws of the tests over a list: members, repeats.
-- Assumes nothing.
use Prim.Native.Nat.{ℕ, zero, suc, ◌<◌}
use mathlib.Core.Path.{◌≡◌, refl, ap}
use mathlib.Core.Logic.{◌⊎◌, inl, inr}
use mathlib.Core.Bool.{Bool, true, false, ◌||◌}
use mathlib.Core.List.Memᴰ
use mathlib.Core.List.{List, [], ◌∷◌, ◌++◌, map, Memᴰ}
use native.Mathlib.Omega.{arith}
use lib.ListN.{length, get_or}
use Rattle.laws.specs.Below.{list_below, gather_below}
use Rattle.laws.specs.Lists.{any, all, repeats, Every}
use Rattle.laws.proofs.Bools.{clash, not-false, or-false, or-none, or_assoc, and-true, and_both}
use Rattle.laws.proofs.Below.{listed, gathered}

module _ {A : Type 0} where
  pub any_false : (f : A → Bool) (l : List A) (x : A) → any f l ≡ false → Memᴰ x l → f x ≡ false
  unfolding any
  any_false f [] x e m = elim m [ ]
  any_false f (y ∷ l) x e (Memᴰ.head p) = rw p (or-false (f y) (any f l) e).0
  any_false f (y ∷ l) x e (Memᴰ.tail m) = any_false f l x (or-false (f y) (any f l) e).1 m

  pub any_none : (f : A → Bool) (l : List A) → ((x : A) → Memᴰ x l → f x ≡ false) → any f l ≡ false
  unfolding any
  any_none f [] h = refl
  any_none f (y ∷ l) h = or-none (f y) (any f l) (h y (Memᴰ.head refl)) (any_none f l (λ x m. h x (Memᴰ.tail m)))

  pub any-true : (f : A → Bool) (l : List A) (x : A) → Memᴰ x l → f x ≡ true → any f l ≡ true
  any-true f l x m h = not-false (any f l) (λ e. clash h (any_false f l x e m))

  pub any_append : (f : A → Bool) (s t : List A) → any f (s ++ t) ≡ (any f s || any f t)
  unfolding any
  any_append f [] t = refl
  any_append f (x ∷ s) t = rw (any_append f s t) (or_assoc (f x) (any f s) (any f t))

  pub record Found (f : A → Bool) (l : List A) : Type 0 where
    pub element : A
    pub member : Memᴰ element l
    pub passes : f element ≡ true

  found-step : (f : A → Bool) (y : A) (l : List A) (p : Bool) → f y ≡ p → (p || any f l) ≡ true → (any f l ≡ true → Found f l) → Found f (y ∷ l)
  found-step f y l true h e ih = record { element = y; member = Memᴰ.head refl; passes = h }
  found-step f y l false h e ih = let t = ih e in record { element = t.element; member = Memᴰ.tail t.member; passes = t.passes }

  pub any_found : (f : A → Bool) (l : List A) → any f l ≡ true → Found f l
  unfolding any
  any_found f [] e = clash e refl
  any_found f (y ∷ l) e = found-step f y l (f y) refl e (λ h. any_found f l h)

  pub all_in : (f : A → Bool) (l : List A) (x : A) → all f l ≡ true → Memᴰ x l → f x ≡ true
  unfolding all
  all_in f [] x e m = elim m [ ]
  all_in f (y ∷ l) x e (Memᴰ.head p) = rw p (and-true (f y) (all f l) e).0
  all_in f (y ∷ l) x e (Memᴰ.tail m) = all_in f l x (and-true (f y) (all f l) e).1 m

  pub all-each : (f : A → Bool) (l : List A) → ((x : A) → Memᴰ x l → f x ≡ true) → all f l ≡ true
  unfolding all
  all-each f [] h = refl
  all-each f (y ∷ l) h = and_both (f y) (all f l) (h y (Memᴰ.head refl)) (all-each f l (λ x m. h x (Memᴰ.tail m)))

  pub all_append : (f : A → Bool) (s t : List A) → all f s ≡ true → all f t ≡ true → all f (s ++ t) ≡ true
  unfolding all
  all_append f [] t p q = q
  all_append f (x ∷ s) t p q = let h = and-true (f x) (all f s) p in and_both (f x) (all f (s ++ t)) h.0 (all_append f s t h.1 q)

  pub all-weaken : (f g : A → Bool) → ((x : A) → f x ≡ true → g x ≡ true) → (l : List A) → all f l ≡ true → all g l ≡ true
  unfolding all
  all-weaken f g h [] p = refl
  all-weaken f g h (x ∷ l) p = let t = and-true (f x) (all f l) p in and_both (g x) (all g l) (h x t.0) (all-weaken f g h l t.1)

  pub every-none : (P : A → Type 0) → Every P []
  every-none P x m = elim m [ ]

  pub every_more : (P : A → Type 0) (y : A) (l : List A) → P y → Every P l → Every P (y ∷ l)
  every_more P y l p h x (Memᴰ.head e) = rw e p
  every_more P y l p h x (Memᴰ.tail m) = h x m

  pub repeats-head : (same : A → A → Bool) (x : A) (l : List A) → repeats same (x ∷ l) ≡ false → ((y : A) → Memᴰ y l → same x y ≡ false) × (repeats same l ≡ false)
  unfolding repeats
  repeats-head same x l e = let t = or-false (any (same x) l) (repeats same l) e in (λ y m. any_false (same x) l y t.0 m, t.1)

  pub repeats-none : (same : A → A → Bool) (x : A) (l : List A) → ((y : A) → Memᴰ y l → same x y ≡ false) → repeats same l ≡ false → repeats same (x ∷ l) ≡ false
  unfolding repeats
  repeats-none same x l h e = or-none (any (same x) l) (repeats same l) (any_none (same x) l h) e

  pub get_or-member : (l : List A) (j : ℕ) (d : A) → j < length l → Memᴰ (get_or l j d) l
  get_or-member [] j d h = absurd (omega arith)
  get_or-member (x ∷ l) zero d h = Memᴰ.head refl
  get_or-member (x ∷ l) (suc j) d h = Memᴰ.tail (get_or-member l j d (omega arith))

  -- two elements at different places of a list without repeats are not the same
  pub repeats-apart : (same : A → A → Bool) (l : List A) (d : A) (i j : ℕ) → repeats same l ≡ false → i < j → j < length l → same (get_or l i d) (get_or l j d) ≡ false
  repeats-apart same [] d i j e h b = absurd (omega arith)
  repeats-apart same (x ∷ l) d i zero e h b = absurd (omega arith)
  repeats-apart same (x ∷ l) d zero (suc j) e h b = (repeats-head same x l e).0 (get_or l j d) (get_or-member l j d (omega arith))
  repeats-apart same (x ∷ l) d (suc i) (suc j) e h b = repeats-apart same l d i j (repeats-head same x l e).1 (omega arith) (omega arith)

  pub repeats-append : (same : A → A → Bool) (s t : List A) → repeats same s ≡ false → repeats same t ≡ false
      → ((x y : A) → Memᴰ x s → Memᴰ y t → same x y ≡ false) → repeats same (s ++ t) ≡ false
  repeats-append same [] t p q h = q
  repeats-append same (z ∷ s) t p q h =
      let k = repeats-head same z s p in
      repeats-none same z (s ++ t) (λ y m. elim (Memᴰ.append_cases s m) [ inl a ↦ k.0 y a | inr a ↦ h z y (Memᴰ.head refl) a ])
      (repeats-append same s t k.1 q (λ x y a b. h x y (Memᴰ.tail a) b))

  -- nothing repeats in what is gathered where nothing does at one number, nor at two
  pub repeats-gather : (same : A → A → Bool) (f : ℕ → List A) (k : ℕ) → ((i : ℕ) → i < k → repeats same (f i) ≡ false)
      → ((i j : ℕ) (x y : A) → i < j → j < k → Memᴰ x (f i) → Memᴰ y (f j) → same x y ≡ false) → repeats same (gather_below f k) ≡ false
  unfolding gather_below repeats
  repeats-gather same f zero p h = refl
  repeats-gather same f (suc k) p h =
      repeats-append same (gather_below f k) (f k) (repeats-gather same f k (λ i b. p i (omega arith)) (λ i j x y a b. h i j x y a (omega arith))) (p k (omega arith))
      (λ x y m n. let g = gathered f k x m in h g.index k x y g.below (omega arith) g.there n)

  pub repeats-list : (same : A → A → Bool) (f : ℕ → A) (k : ℕ) → ((i j : ℕ) → i < j → j < k → same (f i) (f j) ≡ false) → repeats same (list_below f k) ≡ false
  unfolding list_below repeats any
  repeats-list same f zero h = refl
  repeats-list same f (suc k) h =
      repeats-append same (list_below f k) (f k ∷ []) (repeats-list same f k (λ i j a b. h i j a (omega arith))) refl
      (λ x y m n. let l = listed f k x m in let z = in_one (f k) y n in rw (l.is, z) (h l.index k l.below (omega arith)))
    where
      in_one : (a y : A) → Memᴰ y (a ∷ []) → y ≡ a
      in_one a y (Memᴰ.head e) = e
      in_one a y (Memᴰ.tail m) = elim m [ ]

  -- two ways to part a list at an element: it is one element, or each stands before the other
  pub parted : (s t : List A) (x y : A) (u v : List A) → s ++ (x ∷ u) ≡ t ++ (y ∷ v) → (x ≡ y) ⊎ (Memᴰ x t ⊎ Memᴰ y s)
  parted [] [] x y u v e = inl cc
  parted [] (b ∷ t) x y u v e = let z : x ≡ b = cc in inr (inl (Memᴰ.head z))
  parted (a ∷ s) [] x y u v e = let z : y ≡ a = cc in inr (inr (Memᴰ.head z))
  parted (a ∷ s) (b ∷ t) x y u v e = elim (parted s t x y u v cc) [
    | inl p ↦ inl p
    | inr p ↦ elim p [ inl m ↦ inr (inl (Memᴰ.tail m)) | inr m ↦ inr (inr (Memᴰ.tail m)) ]
  ]

  pub map-append : {B : Type 0} (f : A → B) (s t : List A) → map f (s ++ t) ≡ map f s ++ map f t
  map-append f [] t = refl
  map-append f (x ∷ s) t = ap (λ (l : List _). f x ∷ l) (map-append f s t)

module _ {A : Type 0} where
  pub record Mapped {B : Type 0} (f : A → B) (l : List A) (y : B) : Type 0 where
    pub element : A
    pub member : Memᴰ element l
    pub is : y ≡ f element

  pub map-in : {B : Type 0} (f : A → B) (l : List A) (y : B) → Memᴰ y (map f l) → Mapped f l y
  map-in f [] y m = elim m [ ]
  map-in f (x ∷ l) y (Memᴰ.head p) = record { element = x; member = Memᴰ.head refl; is = p }
  map-in f (x ∷ l) y (Memᴰ.tail m) = let t = map-in f l y m in record { element = t.element; member = Memᴰ.tail t.member; is = t.is }

-- BY PLACE. Inside a list the default does not matter, and four things have four places
module _ {A : Type 0} where
  pub get_or-inside : (l : List A) (i : ℕ) (d e : A) → i < length l → get_or l i d ≡ get_or l i e
  get_or-inside [] i d e h = absurd (omega arith)
  get_or-inside (x ∷ l) zero d e h = refl
  get_or-inside (x ∷ l) (suc i) d e h = get_or-inside l i d e (omega arith)

  pub of_four : (P : ℕ → A → Type 0) (z a b c d : A) → P 0 a → P 1 b → P 2 c → P 3 d → (t : ℕ) → t < 4 → P t (get_or (a ∷ b ∷ c ∷ d ∷ []) t z)
  of_four P z a b c d pa pb pc pd zero l = pa
  of_four P z a b c d pa pb pc pd (suc zero) l = pb
  of_four P z a b c d pa pb pc pd (suc (suc zero)) l = pc
  of_four P z a b c d pa pb pc pd (suc (suc (suc zero))) l = pd
  of_four P z a b c d pa pb pc pd (suc (suc (suc (suc t)))) l = absurd (omega arith)
