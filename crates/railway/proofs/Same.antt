-- To be the same railway is an equivalence, and nothing that a record answers tells two such records apart: its
-- lookups, its rows, its test. Each lookup is guarded by the counts and bounds within which records are compared, so it
-- goes by cases of its guard. Assumes nothing.
use mathlib.Core.Path.{◌≡◌, refl, sym, ◌∙◌, ap}
use mathlib.Core.Bool.{Bool, true, false, cond}
use mathlib.Core.List.{[]}
use Prim.Native.Nat.{ℕ, zero, suc, ◌<◌}
use lib.Dec.{ltb}
use borrow.Author.Tests.{ltb-true, ltb-false}
use Rattle.laws.specs.Below.{any_below}
use Rattle.laws.proofs.Below.{any_same}
use Rattle.railway.specs.declared.Leg.{Leg}
use Rattle.railway.specs.declared.Leg.TheVariants.{Stem, Plus, Minus}
use Rattle.railway.specs.declared.PointNo.{PointNo}
use Rattle.railway.specs.declared.End.{End}
use Rattle.railway.specs.declared.End.TheVariants.{Section, Port}
use Rattle.railway.specs.Joined.{Joined, Nothing, With}
use Rattle.railway.specs.declared.Refusal.TheVariants.{Count, Weight, Unknown, Join, Loose, Chain, Double, Place}
use Rattle.railway.specs.declared.Train.{Train}
use Rattle.railway.specs.declared.Railway.{Railway}
use Rattle.railway.specs.Bounds.{most_sections, section_ends, all_ends}
use Rattle.railway.specs.Ends.{end_index, end_at}
use Rattle.railway.specs.Record.{link_at, flag_at, closed_at, joined, has_signal, is_closed, legs_of, train_of, weight_of}
use Rattle.railway.specs.Record.{side_of}
use Rattle.railway.specs.Rows.{wrong_weight_at, weight_row, known, unknown_link, unknown_link_at, unknown_signal_at}
use Rattle.railway.specs.Rows.{unknown_closed_at, unknown_train_at, wrong_link, wrong_link_at, unreturned, unreturned_at}
use Rattle.railway.specs.Rows.{loose_at, longer_past, longer_over, longer, most_behind, chained_at, shares_with}
use Rattle.railway.specs.Rows.{shares_at, shut_out_at, count_row, unknown_row, join_row, loose_row, chain_row, place_row}
use Rattle.railway.specs.Rows.{record_refusal}
use Rattle.railway.specs.Same.{SameRailway}
use Rattle.railway.proofs.Lookups.{legs-none, roster-none}
use Rattle.railway.proofs.Refusals.{first-same}

-- AN EQUIVALENCE
pub same_refl : (r : Railway) → SameRailway r r
same_refl r =
    record {
      sections = refl;
      points = refl;
      trains = refl;
      legs = λ n b. refl;
      joins = λ i b. refl;
      signals = λ i b. refl;
      closed = λ x b. refl;
      roster = λ t b. refl;
    }

pub same-sym : {r q : Railway} → SameRailway r q → SameRailway q r
same-sym h =
    record {
      sections = sym h.sections;
      points = sym h.points;
      trains = sym h.trains;
      legs = λ n b. sym (h.legs n (rw h.points b));
      joins = λ i b. sym (h.joins i b);
      signals = λ i b. sym (h.signals i b);
      closed = λ x b. sym (h.closed x b);
      roster = λ t b. sym (h.roster t (rw h.trains b));
    }

pub same-trans : {r q u : Railway} → SameRailway r q → SameRailway q u → SameRailway r u
same-trans h g =
    record {
      sections = h.sections ∙ g.sections;
      points = h.points ∙ g.points;
      trains = h.trains ∙ g.trains;
      legs = λ n b. h.legs n b ∙ g.legs n (rw h.points at b);
      joins = λ i b. h.joins i b ∙ g.joins i b;
      signals = λ i b. h.signals i b ∙ g.signals i b;
      closed = λ x b. h.closed x b ∙ g.closed x b;
      roster = λ t b. h.roster t b ∙ g.roster t (rw h.trains at b);
    }

-- THE SAME ANSWERS
guarded : {A : Type 0} (i n : ℕ) (x y d : A) → (i < n → x ≡ y) → cond (ltb i n) x d ≡ cond (ltb i n) y d
guarded i n x y d h = cases (ltb i n) refl
  where
    cases : (b : Bool) → ltb i n ≡ b → cond b x d ≡ cond b y d
    cases true e = h (ltb-true i n e)
    cases false e = refl

module _ (r q : Railway) (h : SameRailway r q) where
  pub joined_same : (e : End) → joined r e ≡ joined q e
  unfolding joined
  joined_same e =
      guarded (end_index e) all_ends (link_at r (end_index e)) (link_at q (end_index e)) Nothing (h.joins (end_index e))

  pub signal-same : (e : End) → has_signal r e ≡ has_signal q e
  unfolding has_signal
  signal-same e =
      guarded (end_index e) section_ends (flag_at r (end_index e)) (flag_at q (end_index e)) false (h.signals (end_index e))

  pub closed_same : (x : ℕ) → is_closed r x ≡ is_closed q x
  unfolding is_closed
  closed_same x = guarded x most_sections (closed_at r x) (closed_at q x) false (h.closed x)

  pub legs-same : (n : ℕ) → legs_of r n ≡ legs_of q n
  legs-same n = cases (ltb n r.points) refl
    where
      cases : (b : Bool) → ltb n r.points ≡ b → legs_of r n ≡ legs_of q n
      cases true e = h.legs n (ltb-true n r.points e)
      cases false e = let b = ltb-false n r.points e in sym (legs-none r n b) ∙ legs-none q n (rw h.points at b)

  pub roster-same : (t : ℕ) → train_of r t ≡ train_of q t
  roster-same t = cases (ltb t r.trains) refl
    where
      cases : (b : Bool) → ltb t r.trains ≡ b → train_of r t ≡ train_of q t
      cases true e = h.roster t (ltb-true t r.trains e)
      cases false e =
          let b = ltb-false t r.trains e in
          sym (roster-none r t b) ∙ roster-none q t (rw h.trains at b)

  pub side_same : (e : End) → side_of r e ≡ side_of q e
  side_same (Section n s) = refl
  side_same (Port n l) = rw (legs-same n.0)

  pub known_same : (e : End) → known r e ≡ known q e
  known_same (Section n s) = rw h.sections
  known_same (Port n l) = rw h.points

  pub weight-same : (t : ℕ) → weight_of r t ≡ weight_of q t
  unfolding weight_of
  weight-same t = ap (λ (x : Train). x.weight) (roster-same t)

  -- the rows
  weights-same : weight_row r ≡ weight_row q
  unfolding weight_row
  weights-same =
      let a : any_below (wrong_weight_at r) r.trains ≡ any_below (wrong_weight_at q) r.trains
      = any_same (wrong_weight_at r) (wrong_weight_at q) r.trains (λ t b. rw (weight-same t)) in
      rw (a, h.trains)

  unknown-link-same : (e : End) (j : Joined) → unknown_link r e j ≡ unknown_link q e j
  unknown-link-same e Nothing = refl
  unknown-link-same e (With f) = rw (known_same e, known_same f)

  wrong-link-same : (e : End) (j : Joined) → wrong_link r e j ≡ wrong_link q e j
  wrong-link-same e Nothing = refl
  wrong-link-same e (With f) = rw (side_same e, side_same f)

  unreturned-same : (e : End) (j : Joined) → unreturned r e j ≡ unreturned q e j
  unreturned-same e Nothing = refl
  unreturned-same e (With f) = rw (joined_same f)

  unknown-same : unknown_row r ≡ unknown_row q
  unfolding unknown_row
  unknown-same =
      let a : any_below (unknown_link_at r) all_ends ≡ any_below (unknown_link_at q) all_ends
      = any_same (unknown_link_at r) (unknown_link_at q) all_ends
      (λ i b. (let z = h.joins i b in rw z (unknown-link-same (end_at i) (link_at q i)))) in
      let b : any_below (unknown_signal_at r) section_ends ≡ any_below (unknown_signal_at q) section_ends
      = any_same (unknown_signal_at r) (unknown_signal_at q) section_ends
      (λ i b. (let z = h.signals i b in rw (z, known_same (end_at i)))) in
      let d : any_below (unknown_closed_at r) most_sections ≡ any_below (unknown_closed_at q) most_sections
      = any_same (unknown_closed_at r) (unknown_closed_at q) most_sections (λ x b. rw (closed_same x, h.sections)) in
      let c : any_below (unknown_train_at r) r.trains ≡ any_below (unknown_train_at q) r.trains
      = any_same (unknown_train_at r) (unknown_train_at q) r.trains (λ t b. rw (roster-same t, h.sections)) in
      rw (a, b, d, c, h.trains)

  join-same : join_row r ≡ join_row q
  unfolding join_row
  join-same =
      let a : any_below (wrong_link_at r) all_ends ≡ any_below (wrong_link_at q) all_ends
      = any_same (wrong_link_at r) (wrong_link_at q) all_ends
      (λ i b. (let z = h.joins i b in rw z (wrong-link-same (end_at i) (link_at q i)))) in
      let b : any_below (unreturned_at r) all_ends ≡ any_below (unreturned_at q) all_ends
      = any_same (unreturned_at r) (unreturned_at q) all_ends
      (λ i b. (let z = h.joins i b in rw z (unreturned-same (end_at i) (link_at q i)))) in
      rw (a, b)

  loose_same : loose_row r ≡ loose_row q
  unfolding loose_row
  loose_same =
      let a : any_below (loose_at r) r.points ≡ any_below (loose_at q) r.points
      = any_same (loose_at r) (loose_at q) r.points (λ n b. simp joined_same) in
      rw (a, h.points)

  over-same : (f g : Joined → Bool) → ((j : Joined) → f j ≡ g j) → (n : PointNo) (l : Leg)
      → longer_over r f n l ≡ longer_over q g n l
  over-same f g s n Stem = rw (
    joined_same (Port n Plus),
    joined_same (Port n Minus),
    s (joined q (Port n Plus)),
    s (joined q (Port n Minus)),
  )
  over-same f g s n Plus = rw (joined_same (Port n Stem), s (joined q (Port n Stem)))
  over-same f g s n Minus = rw (joined_same (Port n Stem), s (joined q (Port n Stem)))

  past_same : (f g : PointNo → Leg → Bool) → ((n : PointNo) (l : Leg) → f n l ≡ g n l) → (j : Joined)
      → longer_past f j ≡ longer_past g j
  past_same f g s Nothing = refl
  past_same f g s (With (Section n d)) = refl
  past_same f g s (With (Port n l)) = s n l

  longer-same : (k : ℕ) (j : Joined) → longer r k j ≡ longer q k j
  unfolding longer
  longer-same zero j = refl
  longer-same (suc k) j = past_same _ _ (over-same _ _ (longer-same k)) j

  at_same : (n : PointNo) (l : Leg)
      → longer r most_behind (joined r (Port n l)) ≡ longer q most_behind (joined q (Port n l))
  at_same n l = rw (joined_same (Port n l)) (longer-same most_behind (joined q (Port n l)))

  chain_same : chain_row r ≡ chain_row q
  unfolding chain_row
  chain_same =
      let a : any_below (chained_at r) r.points ≡ any_below (chained_at q) r.points
      = any_same (chained_at r) (chained_at q) r.points (λ n b.
      rw (at_same (record { 0 = n }) Stem, at_same (record { 0 = n }) Plus, at_same (record { 0 = n }) Minus)) in
      rw (a, h.points)

  place_same : place_row r ≡ place_row q
  unfolding place_row
  place_same =
      let a : any_below (shares_at r) r.trains ≡ any_below (shares_at q) r.trains
      = any_same (shares_at r) (shares_at q) r.trains
      (λ t b. any_same (shares_with r t) (shares_with q t) t (λ u c. rw (roster-same u, roster-same t))) in
      let b : any_below (shut_out_at r) r.trains ≡ any_below (shut_out_at q) r.trains
      = any_same (shut_out_at r) (shut_out_at q) r.trains
      (λ t b. rw (roster-same t, closed_same (train_of q t).start.0, closed_same (train_of q t).destination.0)) in
      rw (a, b, h.trains)

  count_same : count_row r ≡ count_row q
  count_same = rw (h.sections, h.points, h.trains)

  -- THE ANSWER OF THE TEST is the same, for each row is
  pub refusal-same : record_refusal r ≡ record_refusal q
  unfolding record_refusal
  refusal-same =
      first-same Count (count_row r) (count_row q) _ _ count_same
      (first-same Weight (weight_row r) (weight_row q) _ _ weights-same
      (first-same Unknown (unknown_row r) (unknown_row q) _ _ unknown-same
      (first-same Join (join_row r) (join_row q) _ _ join-same
      (first-same Loose (loose_row r) (loose_row q) _ _ loose_same
      (first-same Chain (chain_row r) (chain_row q) _ _ chain_same
      (first-same Double false false _ _ refl
      (first-same Place (place_row r) (place_row q) [] [] place_same refl)))))))
