-- Agreement train by train is the same as reaching the one log from the other by swaps. A swap of different trains leaves each train's sections as they are. The other way round, the
-- first entry of the one log is the first of its train in the other, so what stands before it there is of other trains, and it is swapped to the front; then so on with the rest.
-- Assumes nothing.
use mathlib.Core.Path.{◌≡◌, refl, sym, ◌∙◌, ap}
use mathlib.Core.Logic.{◌⊎◌, inl, inr}
use mathlib.Core.Bool.{true, false}
use mathlib.Core.List.{List, [], ◌∷◌, ◌++◌, head-eq_of_cons-eq, tail-eq_of_cons-eq, cons-ne-nil}
use Prim.Native.Nat.{ℕ}
use lib.Dec.{eqb}
use borrow.Author.Tests.{eqb-true, eqb-false, eq-eqb, ne_eqb}
use Rattle.laws.proofs.Bools.{bool?}
use Rattle.logs.specs.declared.Entry.{Entry}
use Rattle.logs.specs.Logs.{sections_for, Agreeing, Swaps, done, swap, AgreeBySwaps}

-- (Examples is named so that it is checked before: a wrong definition then shows at a computed value.)

-- SECTIONS of a train
take_own : (t : ℕ) (e : Entry) (es : List Entry) → e.train ≡ t → sections_for t (e ∷ es) ≡ e.section ∷ sections_for t es
unfolding sections_for
take_own t e es h = let b : eqb e.train t ≡ true = eq-eqb e.train t h in rw b refl

pass-other : (t : ℕ) (e : Entry) (es : List Entry) → (e.train ≡ t → ⊥) → sections_for t (e ∷ es) ≡ sections_for t es
unfolding sections_for
pass-other t e es h = let b : eqb e.train t ≡ false = ne_eqb e.train t h in rw b refl

own? : (t : ℕ) (e : Entry) → (e.train ≡ t) ⊎ (e.train ≡ t → ⊥)
own? t e = elim (bool? (eqb e.train t)) [ inl b ↦ inl (eqb-true e.train t b) | inr b ↦ inr (eqb-false e.train t b) ]

-- the same entry in front of both
front_same : (t : ℕ) (e : Entry) (a b : List Entry) → sections_for t a ≡ sections_for t b → sections_for t (e ∷ a) ≡ sections_for t (e ∷ b)
front_same t e a b h = elim (own? t e) [
  | inl o ↦ take_own t e a o ∙ ap (λ (l : List ℕ). e.section ∷ l) h ∙ sym (take_own t e b o)
  | inr o ↦ pass-other t e a o ∙ h ∙ sym (pass-other t e b o)
]

swap-same : (t : ℕ) (before : List Entry) (x y : Entry) (after : List Entry) → (x.train ≡ y.train → ⊥) → sections_for t (before ++ (x ∷ y ∷ after)) ≡ sections_for t (before ++ (y ∷ x ∷ after))
swap-same t [] x y after n = elim (own? t x) [
  | inl p ↦ elim (own? t y) [
    | inl q ↦ absurd (n (p ∙ sym q))
    | inr q ↦ take_own t x (y ∷ after) p ∙ ap (λ (l : List ℕ). x.section ∷ l) (pass-other t y after q) ∙ sym (pass-other t y (x ∷ after) q ∙ take_own t x after p)
  ]
  | inr p ↦ pass-other t x (y ∷ after) p ∙ front_same t y after (x ∷ after) (sym (pass-other t x after p))
]
swap-same t (e ∷ es) x y after n = front_same t e (es ++ (x ∷ y ∷ after)) (es ++ (y ∷ x ∷ after)) (swap-same t es x y after n)

-- swaps keep every train's sections
pub agreeing : (a b : List Entry) → Swaps a b → Agreeing a b
agreeing a b s t = go s
  where
    go : {a b : List Entry} → Swaps a b → sections_for t a ≡ sections_for t b
    go done = refl
    go (swap before x y after n s) = swap-same t before x y after n ∙ go s

-- SWAPS as a relation
then : {a b c : List Entry} → Swaps a b → Swaps b c → Swaps a c
then done t = t
then (swap before x y after n s) t = swap before x y after n (then s t)

back : {a b : List Entry} → Swaps a b → Swaps b a
back done = done
back (swap before x y after n s) = then (back s) (swap before y x after (λ e. n (sym e)) done)

below : (e : Entry) {a b : List Entry} → Swaps a b → Swaps (e ∷ a) (e ∷ b)
below e done = done
below e (swap before x y after n s) = swap (e ∷ before) x y after n (below e s)

nil : (t : ℕ) → sections_for t [] ≡ []
unfolding sections_for
nil t = refl

-- THE FIRST ENTRY of a train can be swapped to the front
record InFront (x : Entry) (b : List Entry) : Type 0 where
  rest : List Entry
  moves : Swaps b (x ∷ rest)

entry-same : (x y : Entry) → x.train ≡ y.train → x.section ≡ y.section → x ≡ y
entry-same x y p q = made x.train x.section y.train y.section p q
  where
    made : (a b c d : ℕ) → a ≡ c → b ≡ d → ◌≡◌ {A = Entry} (record { train = a; section = b }) (record { train = c; section = d })
    made a b c d p q = rw (p, q) refl

find : (x : Entry) (l : List ℕ) (b : List Entry) → sections_for x.train b ≡ x.section ∷ l → InFront x b
find x l [] h = absurd (cons-ne-nil _ _ (sym h ∙ nil x.train))
find x l (y ∷ ys) h = elim (own? x.train y) [
  | inl o ↦ (let e : y.section ≡ x.section = head-eq_of_cons-eq (sym (take_own x.train y ys o) ∙ h) in
      let z : y ≡ x = entry-same y x o e in record { rest = ys; moves = rw z done })
  | inr o ↦ (let f : InFront x ys = find x l ys (sym (pass-other x.train y ys o) ∙ h) in
      record { rest = y ∷ f.rest; moves = then (below y f.moves) (swap [] y x f.rest o done) })
]

-- what agrees is reached
pub reached : (a b : List Entry) → Agreeing a b → Swaps a b
reached [] [] h = done
reached [] (y ∷ ys) h = absurd (cons-ne-nil _ _ (sym (take_own y.train y ys refl) ∙ sym (h y.train) ∙ nil y.train))
reached (x ∷ xs) b h =
    let f : InFront x b = find x (sections_for x.train xs) b (sym (h x.train) ∙ take_own x.train x xs refl) in
    then (below x (reached xs f.rest (λ t. drop-front t x xs f.rest (h t ∙ agreeing b (x ∷ f.rest) f.moves t)))) (back f.moves)
  where
    drop-front : (t : ℕ) (e : Entry) (a b : List Entry) → sections_for t (e ∷ a) ≡ sections_for t (e ∷ b) → sections_for t a ≡ sections_for t b
    drop-front t e a b h = elim (own? t e) [
      | inl o ↦ tail-eq_of_cons-eq (sym (take_own t e a o) ∙ h ∙ take_own t e b o)
      | inr o ↦ sym (pass-other t e a o) ∙ h ∙ pass-other t e b o
    ]

pub agree-by-swaps : AgreeBySwaps
agree-by-swaps a b = (reached a b, agreeing a b)
