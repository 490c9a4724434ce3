-- What it is for a record to be accepted, fact by fact, both ways; and what follows: its lookups stay within its counts
-- and are returned. For that rows 3 to 6 are enough. Assumes nothing.
use Prim.Native.Nat.{ℕ, ◌<◌, ◌≤◌}
use mathlib.Core.Path.{◌≡◌, refl, ◌∙◌, ap}
use mathlib.Core.Bool.{Bool, true, false, cond, not, ◌&&◌, ◌||◌}
use mathlib.Core.Option.{none}
use native.Mathlib.Omega.{arith}
use lib.Dec.{ltb, eqb}
use borrow.Author.Tests.{ltb-true, ltb-false, lt-ltb, le-ltb, eqb-true, eqb-false, ne_eqb}
use Rattle.laws.specs.Below.{any_below}
use Rattle.laws.proofs.Bools.{clash, or-false, or-none, not-and, not_is}
use Rattle.laws.proofs.Below.{any_false, none_any}
use Rattle.railway.specs.declared.Leg.{Leg}
use Rattle.railway.specs.declared.Leg.TheVariants.{Stem, Plus, Minus}
use Rattle.railway.specs.declared.End.{End}
use Rattle.railway.specs.declared.End.TheVariants.{Section, Port}
use Rattle.railway.specs.Joined.{Joined, Nothing, With}
use Rattle.railway.specs.declared.Refusal.TheVariants.{Count, Weight, Unknown, Join, Loose, Chain, Double, Place}
use Rattle.railway.specs.declared.Railway.{Railway}
use Rattle.railway.specs.Bounds.{least_weight, most_weight, most_sections, most_points, most_trains, section_ends}
use Rattle.railway.specs.Bounds.{all_ends}
use Rattle.railway.specs.Ends.{Numbered, end_index, end_at, same_side}
use Rattle.railway.specs.Refusals.{first}
use Rattle.railway.specs.Record.{is_closed, link_at, flag_at, joined, train_of, weight_of, side_of}
use Rattle.railway.specs.Rows.{unknown_closed_at, shut_out_at, wrong_weight, wrong_weight_at, weight_row, outside, known}
use Rattle.railway.specs.Rows.{unknown_link, unknown_link_at, unknown_signal_at, unknown_train_at, owner_of, one_owner}
use Rattle.railway.specs.Rows.{tied, wrong_pair, wrong_link, wrong_link_at, leads_to, unreturned, unreturned_at}
use Rattle.railway.specs.Rows.{unjoined, loose_at, longer, most_behind, chained_at, shares_with, shares_at, count_row}
use Rattle.railway.specs.Rows.{unknown_row, join_row, loose_row, chain_row, double_row, place_row, record_refusal}
use Rattle.railway.specs.Chains.{Joinable}
use Rattle.railway.proofs.Ends.{end-index, index-one, numbered_of}
use Rattle.railway.proofs.Refusals.{refuse-none}

-- (Examples is named so that it is checked before: a wrong definition then shows at a record's number.)

-- counts within their bounds
pub record Bounded (s p k : ℕ) : Type 0 where
  pub some-section : 1 ≤ s
  pub few-sections : s ≤ most_sections
  pub few-points : p ≤ most_points
  pub some-train : 1 ≤ k
  pub few-trains : k ≤ most_trains

pub bounded : (s p k : ℕ) → outside s p k ≡ false → Bounded s p k
bounded s p k e =
    let a = or-false (ltb s 1 || ltb most_sections s || ltb most_points p || ltb k 1) (ltb most_trains k) e in
    let b = or-false (ltb s 1 || ltb most_sections s || ltb most_points p) (ltb k 1) a.0 in
    let c = or-false (ltb s 1 || ltb most_sections s) (ltb most_points p) b.0 in
    let d = or-false (ltb s 1) (ltb most_sections s) c.0 in
    record {
      some-section = ltb-false s 1 d.0;
      few-sections = ltb-false most_sections s d.1;
      few-points = ltb-false most_points p c.1;
      some-train = ltb-false k 1 b.1;
      few-trains = ltb-false most_trains k a.1;
    }

pub within-bounds : (s p k : ℕ) → Bounded s p k → outside s p k ≡ false
within-bounds s p k b =
    simp (
      le-ltb s 1 b.some-section,
      le-ltb most_sections s b.few-sections,
      le-ltb most_points p b.few-points,
      le-ltb k 1 b.some-train,
      le-ltb most_trains k b.few-trains,
    )

-- a weight that a train may have, both ways
pub right-weight : (w : ℕ) → wrong_weight w ≡ false → (least_weight ≤ w) × (w ≤ most_weight)
right-weight w e =
    let a = or-false (ltb w least_weight) (ltb most_weight w) e in
    (ltb-false w least_weight a.0, ltb-false most_weight w a.1)

pub weight-right : (w : ℕ) → least_weight ≤ w → w ≤ most_weight → wrong_weight w ≡ false
weight-right w a b = or-none (ltb w least_weight) (ltb most_weight w) (le-ltb w least_weight a) (le-ltb most_weight w b)

-- a join as it should be
pub record Right (r : Railway) (e f : End) : Type 0 where
  pub not-one : one_owner (owner_of e) (owner_of f) ≡ false
  pub sides : same_side (side_of r e) (side_of r f) ≡ false
  pub back : leads_to (joined r f) e ≡ true

-- what rows 3 to 6 leave: counts, and joins as they should be
pub record Laid (r : Railway) : Type 0 where
  pub bounds : Bounded r.sections r.points r.trains
  pub link-known : (i : ℕ) (f : End) → i < all_ends → link_at r i ≡ With f → (known r (end_at i) ≡ true)
      × (known r f ≡ true)
  pub link-right : (i : ℕ) (f : End) → i < all_ends → link_at r i ≡ With f → Right r (end_at i) f
  pub port-joined : (n : ℕ) (l : Leg) → n < r.points → joined r (Port (record { 0 = n }) l) ≡ Nothing → ⊥

pub record Accepted (r : Railway) : Type 0 where
  pub bounds : Bounded r.sections r.points r.trains
  pub weights : (t : ℕ) → t < r.trains → (least_weight ≤ weight_of r t) × (weight_of r t ≤ most_weight)
  pub link-known : (i : ℕ) (f : End) → i < all_ends → link_at r i ≡ With f → (known r (end_at i) ≡ true)
      × (known r f ≡ true)
  pub signal-known : (i : ℕ) → i < section_ends → flag_at r i ≡ true → known r (end_at i) ≡ true
  pub closed-known : (x : ℕ) → x < most_sections → is_closed r x ≡ true → x < r.sections
  pub places-kept : (t : ℕ) → t < r.trains → (is_closed r (train_of r t).start.0 ≡ false)
      × (is_closed r (train_of r t).destination.0 ≡ false)
  pub train-known : (t : ℕ) → t < r.trains → ((train_of r t).start.0 < r.sections)
      × ((train_of r t).destination.0 < r.sections)
  pub link-right : (i : ℕ) (f : End) → i < all_ends → link_at r i ≡ With f → Right r (end_at i) f
  pub port-joined : (n : ℕ) (l : Leg) → n < r.points → joined r (Port (record { 0 = n }) l) ≡ Nothing → ⊥
  pub chain-free : (n : ℕ) (l : Leg) → n < r.points
      → longer r most_behind (joined r (Port (record { 0 = n }) l)) ≡ false
  pub starts : (t u : ℕ) → u < t → t < r.trains → (train_of r u).start.0 ≡ (train_of r t).start.0 → ⊥
  pub destinations : (t u : ℕ) → u < t → t < r.trains → (train_of r u).destination.0 ≡ (train_of r t).destination.0 → ⊥

right_of : (r : Railway) (e f : End) → wrong_pair (tied r e) (tied r f) ≡ false
    → not (leads_to (joined r f) e) ≡ false → Right r e f
right_of r e f h g =
    let b = or-false (one_owner (owner_of e) (owner_of f)) (same_side (side_of r e) (side_of r f)) h in
    record { not-one = b.0; sides = b.1; back = not_is (leads_to (joined r f) e) g }

-- what holds at none of a point's three ports
pub no-leg : (f : Leg → Bool) → (f Stem || f Plus || f Minus) ≡ false → (l : Leg) → f l ≡ false
no-leg f e l =
    let a = or-false (f Stem || f Plus) (f Minus) e in
    let b = or-false (f Stem) (f Plus) a.0 in
    cases l b.0 b.1 a.1
  where
    cases : (l : Leg) → f Stem ≡ false → f Plus ≡ false → f Minus ≡ false → f l ≡ false
    cases Stem a b c = a
    cases Plus a b c = b
    cases Minus a b c = c

-- row 4, part by part
record AllKnown (r : Railway) : Type 0 where
  links : any_below (unknown_link_at r) all_ends ≡ false
  flags : any_below (unknown_signal_at r) section_ends ≡ false
  shut : any_below (unknown_closed_at r) most_sections ≡ false
  roster : any_below (unknown_train_at r) r.trains ≡ false

all_known : (r : Railway) → unknown_row r ≡ false → AllKnown r
unfolding unknown_row
all_known r e =
    let links = any_below (unknown_link_at r) all_ends in
    let flags = any_below (unknown_signal_at r) section_ends in
    let roster = any_below (unknown_train_at r) r.trains in
    let shut = any_below (unknown_closed_at r) most_sections in
    let a = or-false (links || flags || shut) roster e in
    let s = or-false (links || flags) shut a.0 in
    let b = or-false links flags s.0 in
    record { links = b.0; flags = b.1; shut = s.1; roster = a.1 }

pub laid-facts : (r : Railway) → Joinable r → Laid r
unfolding join_row loose_row
laid-facts r h =
    let j = or-false (any_below (wrong_link_at r) all_ends) (any_below (unreturned_at r) all_ends) h.join in
    record {
      bounds = bounded r.sections r.points r.trains h.count;
      link-known = λ i f b l. not-and (known r (end_at i)) (known r f)
          (rw l at (any_false (unknown_link_at r) all_ends (all_known r h.unknown).links i b));
      link-right = λ i f b l.
          right_of r (end_at i) f (rw l at (any_false (wrong_link_at r) all_ends j.0 i b))
          (rw l at (any_false (unreturned_at r) all_ends j.1 i b));
      port-joined = λ n l b q. clash refl (rw q at (no-leg (λ l. unjoined (joined r (Port (record { 0 = n }) l)))
          (any_false (loose_at r) r.points h.loose n b) l));
    }

module _ (r : Railway) where
  pub accepted-facts : record_refusal r ≡ none → Accepted r
  unfolding record_refusal first weight_row chain_row place_row
  accepted-facts e =
      let r3 = refuse-none (count_row r) Count _ e in
      let r16 = refuse-none (weight_row r) Weight _ r3.1 in
      let r4 = refuse-none (unknown_row r) Unknown _ r16.1 in
      let r5 = refuse-none (join_row r) Join _ r4.1 in
      let r6 = refuse-none (loose_row r) Loose _ r5.1 in
      let r13 = refuse-none (chain_row r) Chain _ r6.1 in
      let r7 = refuse-none (double_row r) Double _ r13.1 in
      let r8 = refuse-none (place_row r) Place _ r7.1 in
      let w = laid-facts r (record { count = r3.0; unknown = r4.0; join = r5.0; loose = r6.0 }) in
      let k = all_known r r4.0 in
      let pl = or-false (any_below (shares_at r) r.trains) (any_below (shut_out_at r) r.trains) r8.0 in
      record {
        bounds = w.bounds;
        weights = λ t h. right-weight (weight_of r t) (any_false (wrong_weight_at r) r.trains r16.0 t h);
        link-known = w.link-known;
        signal-known =
            λ i h l. not_is (known r (end_at i)) (rw l at (any_false (unknown_signal_at r) section_ends k.flags i h));
        closed-known = λ x h l. ltb-true x r.sections
            (not_is (ltb x r.sections) (rw l at (any_false (unknown_closed_at r) most_sections k.shut x h)));
        places-kept = λ t h. or-false (is_closed r (train_of r t).start.0) (is_closed r (train_of r t).destination.0)
            (any_false (shut_out_at r) r.trains pl.1 t h);
        train-known = λ t h.
            let q =
            not-and (ltb (train_of r t).start.0 r.sections) (ltb (train_of r t).destination.0 r.sections)
            (any_false (unknown_train_at r) r.trains k.roster t h) in (
              ltb-true (train_of r t).start.0 r.sections q.0,
              ltb-true (train_of r t).destination.0 r.sections q.1,
            );
        link-right = w.link-right;
        port-joined = w.port-joined;
        chain-free = λ n l h. no-leg (λ l. longer r most_behind (joined r (Port (record { 0 = n }) l)))
            (any_false (chained_at r) r.points r13.0 n h) l;
        starts = λ t u h g. eqb-false (train_of r u).start.0 (train_of r t).start.0 (apart pl.0 t u h g).0;
        destinations =
            λ t u h g. eqb-false (train_of r u).destination.0 (train_of r t).destination.0 (apart pl.0 t u h g).1;
      }
    where
      apart : any_below (shares_at r) r.trains ≡ false → (t u : ℕ) → u < t → t < r.trains
          → (eqb (train_of r u).start.0 (train_of r t).start.0 ≡ false)
          × (eqb (train_of r u).destination.0 (train_of r t).destination.0 ≡ false)
      apart p t u h g =
          or-false (eqb (train_of r u).start.0 (train_of r t).start.0)
          (eqb (train_of r u).destination.0 (train_of r t).destination.0)
          (any_false (shares_with r t) t (any_false (shares_at r) r.trains p t g) u h)

  -- the converse
  module _ (w : Accepted r) where
    unknown-link : (i : ℕ) (j : Joined) → i < all_ends → link_at r i ≡ j → unknown_link r (end_at i) j ≡ false
    unknown-link i Nothing b l = refl
    unknown-link i (With f) b l = let k = w.link-known i f b l in simp (k.0, k.1)

    wrong-link : (i : ℕ) (j : Joined) → i < all_ends → link_at r i ≡ j → wrong_link r (end_at i) j ≡ false
    wrong-link i Nothing b l = refl
    wrong-link i (With f) b l = let k = w.link-right i f b l in simp (k.not-one, k.sides)

    returned : (i : ℕ) (j : Joined) → i < all_ends → link_at r i ≡ j → unreturned r (end_at i) j ≡ false
    returned i Nothing b l = refl
    returned i (With f) b l = simp (w.link-right i f b l).back

    unknown-signal : (i : ℕ) (p : Bool) → i < section_ends → flag_at r i ≡ p → (p && not (known r (end_at i))) ≡ false
    unknown-signal i true b l = simp (w.signal-known i b l)
    unknown-signal i false b l = refl

    unknown-closed : (x : ℕ) (p : Bool) → x < most_sections → is_closed r x ≡ p → (p && not (ltb x r.sections)) ≡ false
    unknown-closed x true b l = simp (lt-ltb x r.sections (w.closed-known x b l))
    unknown-closed x false b l = refl

    tight : (n : ℕ) (l : Leg) (j : Joined) → n < r.points → joined r (Port (record { 0 = n }) l) ≡ j
        → unjoined j ≡ false
    tight n l Nothing b h = absurd (w.port-joined n l b h)
    tight n l (With f) b h = refl

    no-weight : weight_row r ≡ false
    unfolding weight_row
    no-weight = none_any _ r.trains (λ t b. weight-right (weight_of r t) (w.weights t b).0 (w.weights t b).1)

    no-unknown : unknown_row r ≡ false
    unfolding unknown_row
    no-unknown =
        or-none _ _
        (or-none _ _
        (or-none _ _
        (none_any _ all_ends (λ i b. unknown-link i (link_at r i) b refl))
        (none_any _ section_ends (λ i b. unknown-signal i (flag_at r i) b refl)))
        (none_any _ most_sections (λ x b. unknown-closed x (is_closed r x) b refl)))
        (none_any _ r.trains (λ t b.
        let k = w.train-known t b in
        simp (
          lt-ltb (train_of r t).start.0 r.sections k.0,
          lt-ltb (train_of r t).destination.0 r.sections k.1,
        )))

    no_join : join_row r ≡ false
    unfolding join_row
    no_join =
        or-none _ _
        (none_any _ all_ends (λ i b. wrong-link i (link_at r i) b refl))
        (none_any _ all_ends (λ i b. returned i (link_at r i) b refl))

    no-loose : loose_row r ≡ false
    unfolding loose_row
    no-loose =
        none_any _ r.points (λ n b.
        or-none _ _ (or-none _ _ (tight n Stem (joined r (Port (record { 0 = n }) Stem)) b refl)
        (tight n Plus (joined r (Port (record { 0 = n }) Plus)) b refl))
        (tight n Minus (joined r (Port (record { 0 = n }) Minus)) b refl))

    pub no-chain : chain_row r ≡ false
    unfolding chain_row
    no-chain = none_any _ r.points
        (λ n b. or-none _ _ (or-none _ _ (w.chain-free n Stem b) (w.chain-free n Plus b)) (w.chain-free n Minus b))

    no_place : place_row r ≡ false
    unfolding place_row
    no_place =
        or-none _ _
        (none_any _ r.trains (λ t b.
        none_any _ t (λ u h.
        or-none _ _
        (ne_eqb (train_of r u).start.0 (train_of r t).start.0 (w.starts t u h b))
        (ne_eqb (train_of r u).destination.0 (train_of r t).destination.0 (w.destinations t u h b)))))
        (none_any _ r.trains (λ t b. or-none _ _ (w.places-kept t b).0 (w.places-kept t b).1))

    pub facts-accepted : record_refusal r ≡ none
    unfolding record_refusal first
    facts-accepted = simp (
      within-bounds r.sections r.points r.trains w.bounds,
      no-weight,
      no-unknown,
      no_join,
      no-loose,
      no-chain,
      no_place,
    )

-- what is known has a number that a railway can have
numbered_within : (r : Railway) → Bounded r.sections r.points r.trains → (e : End)
    → known r e ≡ true → Numbered e
numbered_within r b (Section n s) h = omega (arith, b.few-sections, ltb-true n.0 r.sections h)
numbered_within r b (Port n l) h = omega (arith, b.few-points, ltb-true n.0 r.points h)

pub known-numbered : (r : Railway) → Accepted r → (e : End) → known r e ≡ true → Numbered e
known-numbered r w = numbered_within r w.bounds

-- LOOKUPS of an accepted record, and of one to which rows 3 to 6 do not apply
pub joined-link : (r : Railway) (e f : End) → joined r e ≡ With f → (end_index e < all_ends)
    × (link_at r (end_index e) ≡ With f)
unfolding joined
joined-link r e f h = cases (ltb (end_index e) all_ends) refl h
  where
    cases : (b : Bool) → ltb (end_index e) all_ends ≡ b → cond b (link_at r (end_index e)) Nothing ≡ With f
        → (end_index e < all_ends) × (link_at r (end_index e) ≡ With f)
    cases true p q = (ltb-true (end_index e) all_ends p, q)
    cases false p q = let z : ◌≡◌ {A = ℕ} 0 1 = cc in absurd (omega arith)

module _ (r : Railway) (w : Laid r) where
  -- ends that are joined are within the counts
  pub laid-known : (e f : End) → joined r e ≡ With f → (known r e ≡ true) × (known r f ≡ true)
  laid-known e f h =
      let l = joined-link r e f h in
      let k = w.link-known (end_index e) f l.0 l.1 in
      (rw (end-index e (numbered_of e l.0)) at k.0, k.1)

  -- ends that are joined are a pair that a join may tie
  pub laid-right : (e f : End) → joined r e ≡ With f → Right r e f
  laid-right e f h =
      let l = joined-link r e f h in
      rw (end-index e (numbered_of e l.0)) at (w.link-right (end_index e) f l.0 l.1)

  -- joins are returned: what an end is joined to is joined to it
  pub laid-back : (e f : End) → joined r e ≡ With f → joined r f ≡ With e
  laid-back e f h = cases (joined r f) refl (laid-right e f h).back
    where
      cases : (j : Joined) → joined r f ≡ j → leads_to j e ≡ true → joined r f ≡ With e
      cases Nothing p q = clash q refl
      cases (With g) p q =
          let ne = numbered_within r w.bounds e (laid-known e f h).0 in
          let ng = numbered_within r w.bounds g (laid-known f g p).1 in
          p ∙ ap With (index-one g e ng ne (eqb-true (end_index g) (end_index e) q))

module _ (r : Railway) (w : Accepted r) where
  pub laid : Laid r
  laid = record {
    bounds = w.bounds;
    link-known = w.link-known;
    link-right = w.link-right;
    port-joined = w.port-joined;
  }

  pub joined-known : (e f : End) → joined r e ≡ With f → (known r e ≡ true) × (known r f ≡ true)
  joined-known = laid-known r laid

  pub joined-right : (e f : End) → joined r e ≡ With f → Right r e f
  joined-right = laid-right r laid

  pub joined_back : (e f : End) → joined r e ≡ With f → joined r f ≡ With e
  joined_back = laid-back r laid
