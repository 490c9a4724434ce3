-- What `any` and `all` over the numbers below k answer, where the closure computes a test at each.
-- Assumes nothing.
use Rattle.std.proofs.Common.{arith}
use Rattle.std.specs.declared.ops.Range.{Range}
use Rattle.std.specs.Bool.{MatchBool}
use Rattle.std.specs.Fn.{Called}
use Rattle.std.specs.Iterator.{YieldsThen}
use Rattle.std.specs.List.{range_with_len, FoldsTo, AllWithin, HoldsAt}
use Rattle.std.specs.Prelude.{Option}
use Rattle.std.specs.Option.{MatchOption}
use Rattle.std.proofs.iter.Yields.{nat_range_steps}
use Rattle.std.proofs.lemmas.Iterator.{YieldsList-from_range, cases_from_any, cases_from_all}
use Rattle.std.proofs.lemmas.List.FromFn.{length-range_with_len, get_or-range_with_len}
use Rattle.laws.specs.Below.{any_below, all_below}
use Rattle.laws.proofs.Below.{any-one, none_any, all_of, all_but}
use Prim.Native.Nat.{ℕ, ◌<◌}
use lib.ListN.{length, get_or}
use denote.Param.Members.{Mut}
use mathlib.Core.Bool.{Bool, true, false}
use mathlib.Core.List.{List}
use mathlib.Core.Path.{◌≡◌, sym, ◌∙◌}

place-value : (k i : ℕ) → i < k → get_or (range_with_len 0 k) i 0 ≡ i
place-value k i l = get_or-range_with_len 0 k i 0 l ∙ omega arith

-- a fact of the number at a place among those below k
at-place : (k i : ℕ) (P : ℕ → Type 0) → i < length (range_with_len 0 k) → HoldsAt P (range_with_len 0 k) i → P i
at-place k i P l h = let m : i < k = rw (length-range_with_len 0 k) at l in rw (place-value k i m) at (h 0)

place-below : (k i : ℕ) → i < length (range_with_len 0 k) → i < k
place-below k i l = rw (length-range_with_len 0 k) at l

all-places : (k : ℕ) (P : ℕ → Type 0) → AllWithin P (range_with_len 0 k) 0 (length (range_with_len 0 k)) → (i : ℕ) → i < k → P i
all-places k P h i l =
    let m : i < length (range_with_len 0 k) = rw (length-range_with_len 0 k) l in
    rw (place-value k i l) at (h i 0 (omega arith) m)

module _ (p : ℕ → Bool) (k : ℕ) where
  abbrev Yes : ℕ → Type 0
  Yes x = x < k → p x ≡ true

  abbrev No : ℕ → Type 0
  No x = x < k → p x ≡ false

  any-cases : (r : Bool)
      → MatchBool r ((i : ℕ) × (i < length (range_with_len 0 k)) × HoldsAt Yes (range_with_len 0 k) i) (AllWithin No (range_with_len 0 k) 0 (length (range_with_len 0 k)))
      → r ≡ any_below p k
  any-cases true m = let l = place-below k m.0 m.1 in any-one p k m.0 l (at-place k m.0 Yes m.1 m.2 l)
  any-cases false m = sym (none_any p k (λ i l. all-places k No m i l l))

  all-cases : (r : Bool)
      → MatchBool r (AllWithin Yes (range_with_len 0 k) 0 (length (range_with_len 0 k))) ((i : ℕ) × (i < length (range_with_len 0 k)) × HoldsAt No (range_with_len 0 k) i)
      → r ≡ all_below p k
  all-cases true m = sym (all_of p k (λ i l. all-places k Yes m i l l))
  all-cases false m = let l = place-below k m.0 m.1 in all_but p k m.0 l (at-place k m.0 No m.1 m.2 l)

  module _ {F : Type 0} {g : Mut F (ℕ × Unit {0}) Bool} {s : Range ℕ} (u : Range ℕ) (f : F) (r : Bool) where
    pub any_range : (xs : List ℕ) × (o : Option ℕ) × (j : F) × YieldsThen nat_range_steps s xs o u × FoldsTo (λ p x q. Called g p (x, tt) false q) f xs j
        × MatchOption o (r ≡ false) (λ x. (r ≡ true) × ((h : F) × Called g j (x, tt) true h))
        → s ≡ record { start = 0; end = k }
        → ((x : ℕ) (b : Bool) (q : F) → Called g f (x, tt) b q → (q ≡ f) × (x < k → b ≡ p x))
        → r ≡ any_below p k
    any_range ran e call = any-cases r (cases_from_any u f r Yes No ran (YieldsList-from_range 0 k k e (omega arith)) (λ x q h l. sym ((call x true q h).1 l))
        (λ x q h. ((call x false q h).0, λ l. sym ((call x false q h).1 l))))

    pub all_range : (xs : List ℕ) × (o : Option ℕ) × (j : F) × YieldsThen nat_range_steps s xs o u × FoldsTo (λ p x q. Called g p (x, tt) true q) f xs j
        × MatchOption o (r ≡ true) (λ x. (r ≡ false) × ((h : F) × Called g j (x, tt) false h))
        → s ≡ record { start = 0; end = k }
        → ((x : ℕ) (b : Bool) (q : F) → Called g f (x, tt) b q → (q ≡ f) × (x < k → b ≡ p x))
        → r ≡ all_below p k
    all_range ran e call = all-cases r (cases_from_all u f r Yes No ran (YieldsList-from_range 0 k k e (omega arith)) (λ x q h. ((call x true q h).0, λ l. sym ((call x true q h).1 l)))
        (λ x q h l. sym ((call x false q h).1 l)))
