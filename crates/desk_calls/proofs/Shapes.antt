-- Two cases side by side: which of two refusals comes sooner, and whether the cases agree in sections, trains and headings. A law for each test that the code makes.
-- Assumes nothing.
use mathlib.Core.Path.{◌≡◌, refl, sym, ◌∙◌, ap}
use mathlib.Core.Bool.{true, false, not}
use mathlib.Core.Option.{some}
use Prim.Native.Nat.{ℕ, ◌≤◌, ◌<◌}
use native.Mathlib.Omega.{arith}
use lib.Dec.{eqb}
use borrow.Author.Tests.{eq-eqb, ne_eqb, lt-ltb, le-ltb}
use Rattle.laws.specs.Below.{any_below}
use Rattle.laws.proofs.Bools.{or_right}
use Rattle.laws.proofs.Below.{any-one, any_none}
use Rattle.railway.specs.declared.Side.{Side}
use Rattle.railway.specs.declared.Railway.{Railway}
use Rattle.railway.specs.declared.Refusal.{Refusal}
use Rattle.railway.specs.Ends.{side_index}
use Rattle.railway.specs.Refusals.{rank}
use Rattle.railway.specs.Record.{train_of}
use Rattle.desk.specs.Change.{heads_other, mismatch, sooner}

-- SOONER, of two refusals.
module _ (f g : Refusal) (m n : ℕ) (own : m ≡ rank f) (other : n ≡ rank g) where
  pub is-sooner : m < n → f ≡ sooner (some f) g
  is-sooner l = rw (lt-ltb (rank f) (rank g) (omega (arith, own, other))) refl

  pub not-sooner : n ≤ m → g ≡ sooner (some f) g
  not-sooner l = rw (le-ltb (rank f) (rank g) (omega (arith, own, other))) refl

module _ (r s : Railway) where
  -- THE SAME OR NOT: counts, and the heading of a train
  unequal : (a b m n : ℕ) → m ≡ a → n ≡ b → (m ≡ n → ⊥) → not (eqb a b) ≡ true
  unequal a b m n p q x = ap not (ne_eqb a b (λ z. x (p ∙ z ∙ sym q)))

  equal : (a b m n : ℕ) → m ≡ a → n ≡ b → m ≡ n → not (eqb a b) ≡ false
  equal a b m n p q e = ap not (eq-eqb a b (sym p ∙ e ∙ q))

  module _ (t : ℕ) (h k : Side) (m n : ℕ) (old : h ≡ (train_of r t).heading) (new : k ≡ (train_of s t).heading) (p : m ≡ side_index h) (q : n ≡ side_index k) where
    pub heads-other : (m ≡ n → ⊥) → heads_other r s t ≡ true
    heads-other = unequal _ _ m n (p ∙ ap side_index old) (q ∙ ap side_index new)

    pub heads-same : m ≡ n → heads_other r s t ≡ false
    heads-same = equal _ _ m n (p ∙ ap side_index old) (q ∙ ap side_index new)

  -- MISMATCH, by the first that is not the same
  pub other-sections : (m n : ℕ) → m ≡ r.sections → n ≡ s.sections → (m ≡ n → ⊥) → true ≡ mismatch r s
  unfolding mismatch
  other-sections m n p q x = rw (unequal r.sections s.sections m n p q x)

  module _ (k l : ℕ) (old : k ≡ r.trains) (new : l ≡ s.trains) where
    pub other-trains : (k ≡ l → ⊥) → true ≡ mismatch r s
    unfolding mismatch
    other-trains x = sym (or_right (not (eqb r.sections s.sections)) _ (rw (unequal r.trains s.trains k l old new x) refl))

    pub other-headings : (t : ℕ) → t < k → heads_other r s t ≡ true → true ≡ mismatch r s
    unfolding mismatch
    other-headings t b x =
        let any = any-one (heads_other r s) r.trains t (omega (arith, b, old)) x in
        sym (or_right (not (eqb r.sections s.sections)) _ (or_right (not (eqb r.trains s.trains)) _ (sym any)))

    pub same_shape : (m n : ℕ) → m ≡ r.sections → n ≡ s.sections → m ≡ n → k ≡ l → (t : ℕ) → t ≤ k → k ≤ t → any_below (heads_other r s) t ≡ false
        → false ≡ mismatch r s
    unfolding mismatch
    same_shape m n p q e f t a b none =
        rw (equal r.sections s.sections m n p q e, equal r.trains s.trains k l old new f)
        (any_none (heads_other r s) r.trains t none (omega (arith, a, old)) (omega (arith, b, old)))
