-- Rows 3 to 8, 13 and 16 of the table of numbers, for a record handed in: one definition a row, in the order in which they are given, and the first that applies.
-- A record can have faults that no text can express; each row says what it makes of them (docs/DECISIONS.md gives the reasons). Assumes nothing.
use Rattle.std.specs.Prelude.{Bool, true, false, not, ◌&&◌, ◌||◌, List, [], ◌∷◌, ℕ, zero, suc, ◌-◌, ltb, eqb}
use Rattle.std.proofs.Math.Option.{Option}
use Rattle.laws.specs.Below.{any_below}
use Rattle.railway.specs.declared.Side.{Side}
use Rattle.railway.specs.declared.Leg.{Leg}
use Rattle.railway.specs.declared.Leg.TheVariants.{Stem, Plus, Minus}
use Rattle.railway.specs.declared.PointNo.{PointNo}
use Rattle.railway.specs.declared.End.{End}
use Rattle.railway.specs.declared.End.TheVariants.{Section, Port}
use Rattle.railway.specs.Joined.{Joined, Nothing, With}
use Rattle.railway.specs.declared.Railway.{Railway}
use Rattle.railway.specs.declared.Refusal.{Refusal}
use Rattle.railway.specs.declared.Refusal.TheVariants.{Count, Weight, Unknown, Join, Loose, Chain, Double, Place}
use Rattle.railway.specs.Bounds.{fewest_sections, fewest_trains, most_sections, most_points, most_trains, least_weight, most_weight, section_ends, all_ends}
use Rattle.railway.specs.Ends.{same_side, end_index, end_at}
use Rattle.railway.specs.Refusals.{Row, row, first}
use Rattle.railway.specs.Passing.{most_met}
use Rattle.railway.specs.Record.{link_at, flag_at, joined, is_closed, train_of, weight_of, side_of}

-- Too few or too many sections, points or trains.
abbrev pub outside : ℕ → ℕ → ℕ → Bool
outside s p k = ltb s fewest_sections || ltb most_sections s || ltb most_points p || ltb k fewest_trains || ltb most_trains k

-- 3, count: a count lies outside its bounds.
abbrev pub count_row : Railway → Bool
count_row r = outside r.sections r.points r.trains

-- A weight that no train may have. Records and case texts share this.
abbrev pub wrong_weight : ℕ → Bool
wrong_weight w = ltb w least_weight || ltb most_weight w

-- The weight of a train is such a one.
abbrev pub wrong_weight_at : Railway → ℕ → Bool
wrong_weight_at r t = wrong_weight (weight_of r t)

-- 16, weight: the weight of some train is 0, or over 255. (Document 02, Q-12. A record has a byte for it, so 0 alone can come.)
unfoldable pub weight_row : Railway → Bool
weight_row r = any_below (wrong_weight_at r) r.trains

-- The section or point of an end is there.
abbrev pub known : Railway → End → Bool
known r (Section n s) = ltb n.0 r.sections
known r (Port n l) = ltb n.0 r.points

-- A link at an end that is not there, or to one.
abbrev pub unknown_link : Railway → End → Joined → Bool
unknown_link r e Nothing = false
unknown_link r e (With f) = not (known r e && known r f)

-- The link at index i names something beyond the counts.
abbrev pub unknown_link_at : Railway → ℕ → Bool
unknown_link_at r i = unknown_link r (end_at i) (link_at r i)

-- A signal at a section end that is not there.
abbrev pub unknown_signal_at : Railway → ℕ → Bool
unknown_signal_at r i = flag_at r i && not (known r (end_at i))

-- A train whose start or destination is not there.
abbrev pub unknown_train_at : Railway → ℕ → Bool
unknown_train_at r t = not (ltb (train_of r t).start.0 r.sections && ltb (train_of r t).destination.0 r.sections)

-- A closed section that is not there.
abbrev pub unknown_closed_at : Railway → ℕ → Bool
unknown_closed_at r x = is_closed r x && not (ltb x r.sections)

-- 4, unknown: something in the record refers to a section or a point beyond the counts.
-- A link at an end beyond the counts, and a link to one, is a join that names it; a flag beyond the sections is a signal, or a
-- closed section, that does.
-- Legs of points and trains beyond the counts name nothing, and are not looked at.
unfoldable pub unknown_row : Railway → Bool
unknown_row r =
    any_below (unknown_link_at r) all_ends
    || any_below (unknown_signal_at r) section_ends
    || any_below (unknown_closed_at r) most_sections
    || any_below (unknown_train_at r) r.trains

-- What an end belongs to, by its number. Records and case texts share this and what follows.
pub data Owner : Type 0 where
  of_section : ℕ → Owner
  of_point : ℕ → Owner

-- What is asked of each end of a pair: what it belongs to, and its side.
pub record Tied : Type 0 where
  pub owner : Owner
  pub side : Side

-- Both ends belong to one section, or both to one point.
abbrev pub one_owner : Owner → Owner → Bool
one_owner (of_section m) (of_section n) = eqb m n
one_owner (of_section m) (of_point n) = false
one_owner (of_point m) (of_section n) = false
one_owner (of_point m) (of_point n) = eqb m n

-- Two ends that no join may tie.
abbrev pub wrong_pair : Tied → Tied → Bool
wrong_pair a b = one_owner a.owner b.owner || same_side a.side b.side

-- What an end of the record belongs to.
abbrev pub owner_of : End → Owner
owner_of (Section n s) = of_section n.0
owner_of (Port n l) = of_point n.0

-- What row 5 asks of an end of the record.
abbrev pub tied : Railway → End → Tied
tied r e = record { owner = owner_of e; side = side_of r e }

-- A link between two such ends.
abbrev pub wrong_link : Railway → End → Joined → Bool
wrong_link r e Nothing = false
wrong_link r e (With f) = wrong_pair (tied r e) (tied r f)

-- The link at index i ties two ends that no join may tie.
abbrev pub wrong_link_at : Railway → ℕ → Bool
wrong_link_at r i = wrong_link r (end_at i) (link_at r i)

-- What is joined is this end.
abbrev pub leads_to : Joined → End → Bool
leads_to Nothing e = false
leads_to (With f) e = eqb (end_index f) (end_index e)

-- An end in two joins: in a record that is a link that its other end does not return, for that end is then in another join, or in half of one.
abbrev pub unreturned : Railway → End → Joined → Bool
unreturned r e Nothing = false
unreturned r e (With f) = not (leads_to (joined r f) e)

-- The link at index i is not returned.
abbrev pub unreturned_at : Railway → ℕ → Bool
unreturned_at r i = unreturned r (end_at i) (link_at r i)

-- 5, join: a pair of ends that no join may tie, or a second join at one end.
unfoldable pub join_row : Railway → Bool
join_row r = any_below (wrong_link_at r) all_ends || any_below (unreturned_at r) all_ends

-- Nothing is joined.
abbrev pub unjoined : Joined → Bool
unjoined Nothing = true
unjoined (With e) = false

-- One of a point's three ports is in no join.
abbrev pub loose_at : Railway → ℕ → Bool
loose_at r n =
    unjoined (joined r (Port (record { 0 = n }) Stem))
    || unjoined (joined r (Port (record { 0 = n }) Plus))
    || unjoined (joined r (Port (record { 0 = n }) Minus))

-- 6, loose: some port of a point has nothing joined to it.
unfoldable pub loose_row : Railway → Bool
loose_row r = any_below (loose_at r) r.points

-- A test of the port that a join leads to; it fails where there is no join, and at a section.
abbrev pub longer_past : (PointNo → Leg → Bool) → Joined → Bool
longer_past over Nothing = false
longer_past over (With (Section n s)) = false
longer_past over (With (Port n l)) = over n l

-- A point entered by a port leads on so, given the test of a join: by the stem either leg goes on, by a leg the stem.
abbrev pub longer_over : Railway → (Joined → Bool) → PointNo → Leg → Bool
longer_over r on n Stem = on (joined r (Port n Plus)) || on (joined r (Port n Minus))
longer_over r on n Plus = on (joined r (Port n Stem))
longer_over r on n Minus = on (joined r (Port n Stem))

-- More than k points can be met in a row past a join, under some choice of legs.
unfoldable pub longer : Railway → ℕ → Joined → Bool
longer r zero j = longer_past (λ n l. true) j
longer r (suc k) j = longer_past (λ n l. longer_over r (λ i. longer r k i) n l) j

-- The most points that may be met in a row behind one that a train has met.
abbrev pub most_behind : ℕ
most_behind = most_met - 1

-- A train that leaves this point by one of its ports can meet more than that many.
abbrev pub chained_at : Railway → ℕ → Bool
chained_at r n =
    longer r most_behind (joined r (Port (record { 0 = n }) Stem))
    || longer r most_behind (joined r (Port (record { 0 = n }) Plus))
    || longer r most_behind (joined r (Port (record { 0 = n }) Minus))

-- 13, chain: so with some point, and so more than four are met in a row. (`ChainExactly` in Chains says what this means for ways and rounds.)
unfoldable pub chain_row : Railway → Bool
chain_row r = any_below (chained_at r) r.points

-- 7, double: never so in a record, which has one flag for each section end and one for each section.
abbrev pub double_row : Railway → Bool
double_row r = false

-- Two trains have one start, or one destination.
abbrev pub shares_with : Railway → ℕ → ℕ → Bool
shares_with r t u = eqb (train_of r u).start.0 (train_of r t).start.0 || eqb (train_of r u).destination.0 (train_of r t).destination.0

-- A train shares a place with one before it.
abbrev pub shares_at : Railway → ℕ → Bool
shares_at r t = any_below (shares_with r t) t

-- A train starts or ends on a closed section.
abbrev pub shut_out_at : Railway → ℕ → Bool
shut_out_at r t = is_closed r (train_of r t).start.0 || is_closed r (train_of r t).destination.0

-- 8, place: two trains would begin, or would end, on one section, or one would on a closed one.
unfoldable pub place_row : Railway → Bool
place_row r = any_below (shares_at r) r.trains || any_below (shut_out_at r) r.trains

-- These rows in the order in which they are given, by whether each applies.
abbrev pub rows_by : Bool → Bool → Bool → Bool → Bool → Bool → Bool → Bool → List Row
rows_by count weight unknown join loose chain double place =
    row Count count
    ∷ row Weight weight
    ∷ row Unknown unknown
    ∷ row Join join
    ∷ row Loose loose
    ∷ row Chain chain
    ∷ row Double double
    ∷ row Place place
    ∷ []

-- Those of a record.
abbrev pub record_rows : Railway → List Row
record_rows r = rows_by (count_row r) (weight_row r) (unknown_row r) (join_row r) (loose_row r) (chain_row r) (double_row r) (place_row r)

-- What the test of a record gives: the first row that applies; none: the record is accepted.
unfoldable pub record_refusal : Railway → Option Refusal
record_refusal r = first (record_rows r)
