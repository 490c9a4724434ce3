-- Laws of a single turn: who moves where a train is named, when a play has ended, and that the computed test of a kept figure is the test.
-- All go by cases on the tests that the definitions make. Assumes nothing.
use mathlib.Core.Path.{◌≡◌, refl, subst}
use mathlib.Core.Logic.{◌⊎◌, inl, inr}
use mathlib.Core.Bool.{Bool, true, false, not, ◌&&◌, ◌||◌}
use mathlib.Core.List.{List, [], ◌∷◌}
use mathlib.Core.Option.{Option, none, some}
use Prim.Native.Nat.{ℕ, ◌+◌, ◌≤◌, ◌<◌}
use native.Mathlib.Omega.{arith}
use lib.Dec.{ltb}
use borrow.Author.Tests.{ltb-true, leb-true, le-leb}
use Rattle.laws.specs.Below.{all_below, any_below}
use Rattle.laws.proofs.Bools.{bool?, option?, clash, or_left, or_right, and-true, and_both}
use Rattle.laws.proofs.Below.{all-at, all_of, any_at, any_of, lowest-cases}
use Rattle.game.specs.Game.{Outcome, lost, at, Game, Turn, may, mover, home, over, grown, cost, spent}
use Rattle.game.specs.Claim.{Within, figure_of, Keeps}
use Rattle.game.specs.Local.{is_within, goes_within, Costs, keeps_test}

-- (Examples is named so that it is checked before: a wrong definition then shows at a computed value.)

-- home and over, from lost and home
pub home-over : (a b : Bool) → (not a && b) ≡ true → (a || b) ≡ true
home-over true b e = refl
home-over false b e = e

pub not-over : (a b : Bool) → a ≡ false → (not a && b) ≡ false → (a || b) ≡ false
not-over true b e f = e
not-over false b e f = f

pub over-cases : (a b : Bool) → (a || b) ≡ true → (a ≡ true) ⊎ ((not a && b) ≡ true)
over-cases true b e = inl refl
over-cases false b e = inr e

-- figures smaller by a weight, computed
pub within-is : (n w : ℕ) (f : Option ℕ) → Within n w f → is_within n w f ≡ true
within-is n w none b = absurd b
within-is n w (some j) b = le-leb (j + w) n b

pub is-within : (n w : ℕ) (f : Option ℕ) → is_within n w f ≡ true → Within n w f
is-within n w none e = clash e refl
is-within n w (some j) e = leb-true (j + w) n e

pub nothing-within : (w : ℕ) (f : Option ℕ) → 1 ≤ w → Within 0 w f → ⊥
nothing-within w none l b = b
nothing-within w (some j) l b = omega arith

module _ {S : Type 0} (g : Game S) where
  pub may-train : (p : ℕ) (s : S) (t : ℕ) → may g p s t ≡ true → t < g.trains
  may-train p s t e = ltb-true t g.trains (and-true (ltb t g.trains) (g.allowed p s t) e).0

  pub may-allowed : (p : ℕ) (s : S) (t : ℕ) → may g p s t ≡ true → g.allowed p s t ≡ true
  may-allowed p s t e = (and-true (ltb t g.trains) (g.allowed p s t) e).1

  -- whichever train is named, one that may moves if there is one; else none does
  pub mover-cases : (p : ℕ) (s : S) (t : ℕ)
      → ((u : ℕ) × (mover g p s t ≡ some u) × (may g p s u ≡ true)) ⊎ ((mover g p s t ≡ none) × ((u : ℕ) → may g p s u ≡ false))
  mover-cases p s t = elim (bool? (may g p s t)) [
    | inl e ↦ inl (t, rw e, e)
    | inr e ↦ elim (lowest-cases (may g p s) g.trains) [
      | inl r ↦ inl (r.0, rw e r.1, r.3)
      | inr r ↦ inr (rw e r.0, λ u. elim (bool? (may g p s u)) [ inl m ↦ r.1 u (may-train p s u m) | inr m ↦ m ])
    ]
  ]

  -- lost trains are not home, and their play has ended
  pub lost-not-home : (p : ℕ) → g.is_lost p ≡ true → (home g p ≡ false) × (over g p ≡ true)
  lost-not-home p e = (rw e refl, rw e)

  -- what a history with one more turn has cost
  pub spent-grown : (h : List (Turn S)) (p : ℕ) (s : S) (m : Option ℕ) → spent g (grown g h p s m) ≡ spent g h + cost g m
  unfolding spent
  spent-grown [] p s m = omega arith
  spent-grown (x ∷ h) p s m = omega (arith, spent-grown h p s m)

-- a kept figure, computed
module _ {S : Type 0} (g : Game S) (F : ℕ → Option ℕ) (p : ℕ) (s : S) (n : ℕ) where
  abbrev value : ℕ → Option ℕ
  value t = figure_of F (g.next p s t)

  pub keeps-test : Keeps g F p s n → keeps_test g F p s n ≡ true
  unfolding keeps_test
  keeps-test k =
      and_both (any_below (may g p s) g.trains) (all_below (goes_within g F p s n) g.trains)
      (any_of (may g p s) g.trains k.one-may.0 (may-train g p s k.one-may.0 k.one-may.1) k.one-may.1)
      (all_of (goes_within g F p s n) g.trains (λ t l. elim (bool? (may g p s t)) [
        | inl m ↦ or_right (not (may g p s t)) (is_within n (g.weight t) (value t)) (within-is n (g.weight t) (value t) (k.all-within t m))
        | inr m ↦ or_left (not (may g p s t)) (is_within n (g.weight t) (value t)) (rw m)
      ]))

  pub test-keeps : keeps_test g F p s n ≡ true → Keeps g F p s n
  unfolding keeps_test
  test-keeps e =
      let both = and-true (any_below (may g p s) g.trains) (all_below (goes_within g F p s n) g.trains) e in
      let a : (t : ℕ) × (t < g.trains) × (may g p s t ≡ true) = any_at (may g p s) g.trains both.0 in
      record { one-may = (a.0, a.2); all-within = λ t m. is-within n (g.weight t) (value t) (goes t m (all-at (goes_within g F p s n) g.trains both.1 t (may-train g p s t m))) }
    where
      goes : (t : ℕ) → may g p s t ≡ true → goes_within g F p s n t ≡ true → is_within n (g.weight t) (value t) ≡ true
      goes t m h = rw m at h

-- figure 0 is kept by no setting: some train moves, and that costs something
pub no-keeps-zero : {S : Type 0} (g : Game S) (F : ℕ → Option ℕ) → Costs g → (p : ℕ) (s : S) → Keeps g F p s 0 → ⊥
no-keeps-zero g F costs p s k = let t : ℕ = k.one-may.0 in nothing-within (g.weight t) (figure_of F (g.next p s t)) (costs t (may-train g p s t k.one-may.1)) (k.all-within t k.one-may.1)

-- a setting that keeps n by one table keeps m by another that has the same figures where its moves end, small enough for m where they are for n
pub keeps-map : {S : Type 0} (g : Game S) (F G : ℕ → Option ℕ) (p : ℕ) (s : S) (n m : ℕ)
    → ((t q j : ℕ) → may g p s t ≡ true → g.next p s t ≡ at q → F q ≡ some j → j + g.weight t ≤ n → (G q ≡ some j) × (j + g.weight t ≤ m)) → Keeps g F p s n → Keeps g G p s m
keeps-map g F G p s n m f k = record { one-may = k.one-may; all-within = λ t a. go (g.weight t) (g.next p s t) (λ q j e. f t q j a e) (k.all-within t a) }
  where
    go : (w : ℕ) (o : Outcome) → ((q j : ℕ) → o ≡ at q → F q ≡ some j → j + w ≤ n → (G q ≡ some j) × (j + w ≤ m)) → Within n w (figure_of F o) → Within m w (figure_of G o)
    go w (lost x) h b = b
    go w (at q) h b = elim (option? (F q)) [
      | inl e ↦ absurd (subst (Within n w) e b)
      | inr e ↦ let r : (G q ≡ some e.0) × (e.0 + w ≤ m) = h q e.0 refl e.1 (subst (Within n w) e.1 b) in rw r.0 r.1
    ]
