-- What `any` over the numbers from a to k answers, where the closure computes a test at each and none before a passes it.
-- Assumes nothing.
use Rattle.std.proofs.Common.{arith}
use Rattle.std.specs.declared.ops.Range.{Range}
use Rattle.std.specs.Bool.{MatchBool}
use Rattle.std.specs.Fn.{Called}
use Rattle.std.specs.Iterator.{YieldsThen}
use Rattle.std.specs.List.{range_with_len, FoldsTo, AllWithin, HoldsAt}
use Rattle.std.specs.Prelude.{Option}
use Rattle.std.specs.Option.{MatchOption}
use Rattle.std.proofs.iter.Yields.{nat_range_steps}
use Rattle.std.proofs.lemmas.Iterator.{YieldsList-from_range, cases_from_any}
use Rattle.std.proofs.lemmas.List.FromFn.{length-range_with_len, get_or-range_with_len}
use Rattle.laws.specs.Below.{any_below}
use Rattle.laws.proofs.Bools.{lt?}
use Rattle.laws.proofs.Below.{any-one, none_any}
use Prim.Native.Nat.{ℕ, ◌+◌, ◌-◌, ◌<◌, ◌≤◌}
use lib.ListN.{length}
use denote.Param.Members.{Mut}
use mathlib.Core.Bool.{Bool, true, false}
use mathlib.Core.List.{List}
use mathlib.Core.Logic.{inl, inr}
use mathlib.Core.Path.{◌≡◌, refl, sym}

module _ (p : ℕ → Bool) (a k : ℕ) where
  abbrev places : List ℕ
  places = range_with_len a (k - a)

  abbrev Yes : ℕ → Type 0
  Yes x = a ≤ x → x < k → p x ≡ true

  abbrev No : ℕ → Type 0
  No x = a ≤ x → x < k → p x ≡ false

  few : (i : ℕ) → i < length places → i < k - a
  few i l = rw (length-range_with_len a (k - a)) at l

  at-place : (i : ℕ) (P : ℕ → Type 0) → i < k - a → HoldsAt P places i → P (a + i)
  at-place i P l h = rw (get_or-range_with_len a (k - a) i 0 l) at (h 0)

  any-cases : ((i : ℕ) → i < a → p i ≡ false) → (r : Bool)
      → MatchBool r ((i : ℕ) × (i < length places) × HoldsAt Yes places i) (AllWithin No places 0 (length places))
      → r ≡ any_below p k
  any-cases before true m =
      let l = few m.0 m.1 in any-one p k (a + m.0) (omega (arith, l)) (at-place m.0 Yes l m.2 (omega arith) (omega (arith, l)))
  any-cases before false m = sym (none_any p k (λ x l. elim (lt? x a) [
    | inl b ↦ before x b
    | inr b ↦
        let s : x - a < k - a = omega (arith, l, b) in
        let n : x - a < length places = rw (length-range_with_len a (k - a)) s in
        let e : a + (x - a) ≡ x = omega (arith, b) in
        rw e at (at-place (x - a) No s (λ d. m (x - a) d (omega arith) n) (omega arith) (omega (arith, l, b)))
  ]))

  module _ {F : Type 0} {g : Mut F (ℕ × Unit {0}) Bool} {s : Range ℕ} (u : Range ℕ) (f : F) (r : Bool) where
    pub any_from : (xs : List ℕ) × (o : Option ℕ) × (j : F) × YieldsThen nat_range_steps s xs o u × FoldsTo (λ p x q. Called g p (x, tt) false q) f xs j
        × MatchOption o (r ≡ false) (λ x. (r ≡ true) × ((h : F) × Called g j (x, tt) true h))
        → s ≡ record { start = a; end = k }
        → ((i : ℕ) → i < a → p i ≡ false)
        → ((x : ℕ) (b : Bool) (q : F) → Called g f (x, tt) b q → (q ≡ f) × (a ≤ x → x < k → b ≡ p x))
        → r ≡ any_below p k
    any_from ran e before call = any-cases before r (cases_from_any u f r Yes No ran (YieldsList-from_range a k (k - a) e refl)
        (λ x q h m l. sym ((call x true q h).1 m l))
        (λ x q h. ((call x false q h).0, λ m l. sym ((call x false q h).1 m l))))

-- the same over all numbers below k
module _ (p : ℕ → Bool) (k : ℕ) {F : Type 0} {g : Mut F (ℕ × Unit {0}) Bool} {s : Range ℕ} (u : Range ℕ) (f : F) (r : Bool) where
  pub any_range : (xs : List ℕ) × (o : Option ℕ) × (j : F) × YieldsThen nat_range_steps s xs o u × FoldsTo (λ p x q. Called g p (x, tt) false q) f xs j
      × MatchOption o (r ≡ false) (λ x. (r ≡ true) × ((h : F) × Called g j (x, tt) true h))
      → s ≡ record { start = 0; end = k }
      → ((x : ℕ) (b : Bool) (q : F) → Called g f (x, tt) b q → (q ≡ f) × (x < k → b ≡ p x))
      → r ≡ any_below p k
  any_range ran e call = any_from p 0 k u f r ran e (λ i l. absurd (omega (arith, l))) (λ x b q h. ((call x b q h).0, λ m. (call x b q h).1))
