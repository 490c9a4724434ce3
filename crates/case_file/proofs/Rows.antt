-- What it is for rows 3 to 8 and 16 not to apply to a description, fact by fact, both ways. Each row is a search; that it finds nothing says of every
-- element that it passes. Row 13 judges the railway of the description and is no search through its lines: it stands beside these, in Chained.
-- Assumes nothing.
use Prim.Native.Nat.{ℕ, suc, ◌<◌, ◌≤◌}
use mathlib.Core.Path.{◌≡◌, refl}
use mathlib.Core.Bool.{true, false, ◌||◌}
use mathlib.Core.List.Memᴰ
use mathlib.Core.List.{map}
use lib.Dec.{leb, eqb}
use borrow.Author.Tests.{leb-true, le-leb}
use Rattle.laws.specs.Lists.{any, repeats, Every}
use Rattle.laws.proofs.Bools.{or-false, or-none, and-true, and_both, not-and, not_is}
use Rattle.laws.proofs.Below as Below
use Rattle.laws.proofs.Lists.{any_false, any_none, every-none, every_more}
use Rattle.railway.specs.declared.Leg.{Leg}
use Rattle.railway.specs.declared.Leg.TheVariants.{Stem, Plus, Minus}
use Rattle.railway.specs.declared.Refusal.TheVariants.{Count, Weight, Unknown, Join, Loose, Chain, Double, Place}
use Rattle.railway.specs.Ends.{same_side}
use Rattle.railway.specs.Refusals.{row, NotApplying}
use Rattle.railway.specs.Rows.{one_owner}
use Rattle.railway.proofs.Rows.{Bounded, bounded, within-bounds, no-leg}
use Rattle.case_file.specs.Form.{port, JoinLine, Description, same_end, same_signal}
use Rattle.case_file.specs.Rows.{count_row, wrong_weight_in, weight_row, within, known, unknown_join, unknown_signal}
use Rattle.case_file.specs.Rows.{unknown_closed, unknown_train, unknown_row, owner_of, side_of, wrong_join, join_ends}
use Rattle.case_file.specs.Rows.{join_row, loose_end, loose_at, loose_row, chain_row, double_row, closed_in, shut_out}
use Rattle.case_file.specs.Rows.{place_row, description_rows}
use Rattle.case_file.specs.Claims.{JoinableLines}

-- (Examples is named so that it is checked before: a wrong definition then shows at a computed value.)

-- a J line as it should be
pub record RightJoin (d : Description) (j : JoinLine) : Type 0 where
  pub not-one : one_owner (owner_of j.one) (owner_of j.other) ≡ false
  pub sides : same_side (side_of d j.one) (side_of d j.other) ≡ false

-- what rows 3 to 6 leave: counts, and J lines as they should be
pub record Laid (d : Description) : Type 0 where
  pub bounds : Bounded d.sections d.points d.trains
  pub join-known : Every (λ j. (known d j.one ≡ true) × (known d j.other ≡ true)) d.joins
  pub join-right : Every (RightJoin d) d.joins
  pub ends-once : repeats same_end (join_ends d.joins) ≡ false
  pub port-joined : (n : ℕ) (l : Leg) → n < d.points → any (same_end (port (suc n) l)) (join_ends d.joins) ≡ true

pub record Faultless (d : Description) : Type 0 where
  pub laid : Laid d
  pub weights : Every (λ t. wrong_weight_in t ≡ false) d.roster
  pub signal-known : Every (λ g. within g.number d.sections ≡ true) d.signals
  pub closed-known : Every (λ n. within n d.sections ≡ true) d.closed
  pub train-known : Every (λ t. (within t.start d.sections ≡ true) × (within t.destination d.sections ≡ true)) d.roster
  pub signals-once : repeats same_signal d.signals ≡ false
  pub closed-once : repeats eqb d.closed ≡ false
  pub starts : repeats eqb (map (λ t. t.start) d.roster) ≡ false
  pub destinations : repeats eqb (map (λ t. t.destination) d.roster) ≡ false
  pub places-kept : Every (λ t. (closed_in d t.start ≡ false) × (closed_in d t.destination ≡ false)) d.roster

pub within-is : (n s : ℕ) → within n s ≡ true → (1 ≤ n) × (n ≤ s)
within-is n s e = let t = and-true (leb 1 n) (leb n s) e in (leb-true 1 n t.0, leb-true n s t.1)

pub is-within : (n s : ℕ) → 1 ≤ n → n ≤ s → within n s ≡ true
is-within n s a b = and_both (leb 1 n) (leb n s) (le-leb 1 n a) (le-leb n s b)

module _ (d : Description) where
  right-join : (j : JoinLine) → wrong_join d j ≡ false → RightJoin d j
  right-join j h =
      let b = or-false (one_owner (owner_of j.one) (owner_of j.other)) (same_side (side_of d j.one) (side_of d j.other)) h in
      record { not-one = b.0; sides = b.1 }

  -- row 4, part by part
  pub known-parts : unknown_row d ≡ false
      → (any (unknown_join d) d.joins ≡ false) × (any (unknown_signal d) d.signals ≡ false) × (any (unknown_closed d) d.closed ≡ false) × (any (unknown_train d) d.roster ≡ false)
  unfolding unknown_row
  known-parts h =
      let joins = any (unknown_join d) d.joins in
      let signals = any (unknown_signal d) d.signals in
      let shut = any (unknown_closed d) d.closed in
      let a = or-false (joins || signals || shut) (any (unknown_train d) d.roster) h in
      let b = or-false (joins || signals) shut a.0 in
      let c = or-false joins signals b.0 in
      (c.0, c.1, b.1, a.1)

  pub laid-facts : JoinableLines d → Laid d
  unfolding join_row loose_row
  laid-facts h =
      let k = known-parts h.unknown in
      let ends = or-false (any (wrong_join d) d.joins) (repeats same_end (join_ends d.joins)) h.join in
      record {
        bounds = bounded d.sections d.points d.trains h.count;
        join-known = λ j m. not-and (known d j.one) (known d j.other) (any_false (unknown_join d) d.joins j k.0 m);
        join-right = λ j m. right-join j (any_false (wrong_join d) d.joins j ends.0 m);
        ends-once = ends.1;
        port-joined = λ n l b. not_is (any (same_end (port (suc n) l)) (join_ends d.joins)) (no-leg (λ l. loose_end d (port (suc n) l)) (Below.any_false (loose_at d) d.points h.loose n b) l);
      }

  pub faultless-facts : Every NotApplying (description_rows d) → Faultless d
  unfolding weight_row double_row place_row
  faultless-facts h =
      let r3 = h (row Count (count_row d)) (Memᴰ.head refl) in
      let r16 = h (row Weight (weight_row d)) (Memᴰ.tail (Memᴰ.head refl)) in
      let r4 = h (row Unknown (unknown_row d)) (Memᴰ.tail (Memᴰ.tail (Memᴰ.head refl))) in
      let r5 = h (row Join (join_row d)) (Memᴰ.tail (Memᴰ.tail (Memᴰ.tail (Memᴰ.head refl)))) in
      let r6 = h (row Loose (loose_row d)) (Memᴰ.tail (Memᴰ.tail (Memᴰ.tail (Memᴰ.tail (Memᴰ.head refl))))) in
      let r7 = h (row Double (double_row d)) (Memᴰ.tail (Memᴰ.tail (Memᴰ.tail (Memᴰ.tail (Memᴰ.tail (Memᴰ.tail (Memᴰ.head refl))))))) in
      let r8 = h (row Place (place_row d)) (Memᴰ.tail (Memᴰ.tail (Memᴰ.tail (Memᴰ.tail (Memᴰ.tail (Memᴰ.tail (Memᴰ.tail (Memᴰ.head refl)))))))) in
      let k = known-parts r4 in
      let twice = or-false (repeats same_signal d.signals) (repeats eqb d.closed) r7 in
      let starts = repeats eqb (map (λ t. t.start) d.roster) in
      let destinations = repeats eqb (map (λ t. t.destination) d.roster) in
      let kept = or-false (starts || destinations) (any (shut_out d) d.roster) r8 in
      let places = or-false starts destinations kept.0 in
      record {
        laid = laid-facts (record { count = r3; weight = r16; unknown = r4; join = r5; loose = r6 });
        weights = λ t m. any_false wrong_weight_in d.roster t r16 m;
        signal-known = λ g m. not_is (within g.number d.sections) (any_false (unknown_signal d) d.signals g k.1 m);
        closed-known = λ n m. not_is (within n d.sections) (any_false (unknown_closed d) d.closed n k.2 m);
        train-known = λ t m. not-and (within t.start d.sections) (within t.destination d.sections) (any_false (unknown_train d) d.roster t k.3 m);
        signals-once = twice.0;
        closed-once = twice.1;
        starts = places.0;
        destinations = places.1;
        places-kept = λ t m. or-false (closed_in d t.start) (closed_in d t.destination) (any_false (shut_out d) d.roster t kept.1 m);
      }

  pub chain-free : Every NotApplying (description_rows d) → chain_row d ≡ false
  chain-free h = h (row Chain (chain_row d)) (Memᴰ.tail (Memᴰ.tail (Memᴰ.tail (Memᴰ.tail (Memᴰ.tail (Memᴰ.head refl))))))

  module _ (w : Faultless d) (c : chain_row d ≡ false) where
    no-weight : weight_row d ≡ false
    unfolding weight_row
    no-weight = any_none wrong_weight_in d.roster w.weights

    no-unknown : unknown_row d ≡ false
    unfolding unknown_row
    no-unknown =
        or-none _ _
        (or-none _ _
        (or-none _ _
        (any_none (unknown_join d) d.joins (λ j m. let k = w.laid.join-known j m in rw (k.0, k.1)))
        (any_none (unknown_signal d) d.signals (λ g m. rw (w.signal-known g m))))
        (any_none (unknown_closed d) d.closed (λ n m. rw (w.closed-known n m))))
        (any_none (unknown_train d) d.roster (λ t m. let k = w.train-known t m in rw (k.0, k.1)))

    no_join : join_row d ≡ false
    unfolding join_row
    no_join = or-none _ _ (any_none (wrong_join d) d.joins (λ j m. let k = w.laid.join-right j m in rw (k.not-one, k.sides))) w.laid.ends-once

    no-loose : loose_row d ≡ false
    unfolding loose_row
    no-loose = Below.none_any (loose_at d) d.points (λ n b. rw (w.laid.port-joined n Stem b, w.laid.port-joined n Plus b, w.laid.port-joined n Minus b))

    no-double : double_row d ≡ false
    unfolding double_row
    no-double = or-none _ _ w.signals-once w.closed-once

    no_place : place_row d ≡ false
    unfolding place_row
    no_place =
        or-none _ _ (or-none _ _ w.starts w.destinations)
        (any_none (shut_out d) d.roster (λ t m. let k = w.places-kept t m in or-none _ _ k.0 k.1))

    pub facts-faultless : Every NotApplying (description_rows d)
    facts-faultless =
        every_more NotApplying _ _ (within-bounds d.sections d.points d.trains w.laid.bounds)
        (every_more NotApplying _ _ no-weight
        (every_more NotApplying _ _ no-unknown
        (every_more NotApplying _ _ no_join
        (every_more NotApplying _ _ no-loose
        (every_more NotApplying _ _ c
        (every_more NotApplying _ _ no-double
        (every_more NotApplying _ _ no_place
        (every-none NotApplying))))))))
