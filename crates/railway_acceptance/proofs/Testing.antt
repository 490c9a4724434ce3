-- The test of a record as code makes it: each function's answer is the definition's, by what it looked up and what it
-- found. Assumes nothing.
use Prim.Native.Nat.{ℕ, ◌≤◌, ◌<◌}
use mathlib.Core.Path.{◌≡◌, refl, sym, ◌∙◌, ap}
use mathlib.Core.Bool.{Bool, true, false, not, ◌&&◌, ◌||◌}
use mathlib.Core.List.{List, [], ◌∷◌}
use mathlib.Core.Option.{Option, none, some}
use native.Mathlib.Omega.{arith}
use lib.Dec.{ltb, eqb}
use lib.ListN.{length, drop, get_or}
use borrow.Author.Tests.{le-ltb}
use Rattle.laws.specs.Below.{any_below}
use Rattle.railway.specs.declared.Side.TheVariants.{Up}
use Rattle.railway.specs.declared.Train.{Train}
use Rattle.railway.specs.declared.Railway.{Railway}
use Rattle.railway.specs.declared.Refusal.{Refusal}
use Rattle.railway.specs.declared.Refusal.TheVariants.{Count}
use Rattle.railway.specs.Bounds.{most_sections, most_points, most_trains, least_weight, most_weight, section_ends, all_ends}
use Rattle.railway.specs.Record.{is_closed, train_of, weight_of}
use Rattle.railway.specs.Refusals.{Row, number_of, first}
use Rattle.railway.specs.Rows.{outside, wrong_weight, wrong_weight_at, weight_row, unknown_signal_at, unknown_closed_at}
use Rattle.railway.specs.Rows.{unknown_train_at, shares_with, shares_at, shut_out_at, rows_by, count_row, unknown_row, join_row}
use Rattle.railway.specs.Rows.{loose_row, chain_row, place_row, record_refusal}
use Rattle.railway.proofs.Rows.{bounded}
use Rattle.railway.proofs.Lookups.{roster-there}
use Rattle.railway_acceptance.specs.Answers.{Looked, RosterOf}
use Rattle.railway_acceptance.proofs.Bytes.{or_nothing}

-- THE TRAINS. A record's own are few enough for their table
pub own-roster : (r : Railway) → length r.roster ≡ most_trains → r.trains ≤ most_trains
    → RosterOf r r.roster r.trains
own-roster r n h = record { are = refl; count = refl; room = omega arith }

-- what an index past the trains would read
abbrev pub unread : Train
unread = record { heading = Up; start = record { 0 = 0 }; destination = record { 0 = 0 }; weight = 0 }

-- one by one
module _ (r : Railway) (roster : List Train) (k : ℕ) (h : RosterOf r roster k) where
  room-here : k ≤ length r.roster
  room-here = rw h.are h.room

  train-there : (t : ℕ) (d : Train) → t < k → get_or roster t d ≡ train_of r t
  train-there t d l = ap (λ (xs : List Train). get_or xs t d) (sym h.are)
      ∙ roster-there r t d (omega (arith, h.count)) (omega (arith, room-here))

  pub weight-at : (t : ℕ) (d : Train) (b : Bool) → t < k → b ≡ wrong_weight (get_or roster t d).weight
      → b ≡ wrong_weight_at r t
  unfolding weight_of
  weight-at t d b l q = q ∙ ap (λ (x : Train). wrong_weight x.weight) (train-there t d l)

  pub unknown-at : (t s : ℕ) (d : Train) (b : Bool) → t < k → r.sections ≡ s
      → b ≡ not (ltb (get_or roster t d).start.0 s && ltb (get_or roster t d).destination.0 s) → b ≡ unknown_train_at r t
  unknown-at t s d b l e q = rw (← train-there t d l, e) q

  pub shut_at : (t : ℕ) (d : Train) (b : Bool) → t < k
      → b ≡ (is_closed r (get_or roster t d).start.0 || is_closed r (get_or roster t d).destination.0) → b ≡ shut_out_at r t
  shut_at t d b l q = rw (← train-there t d l) q

  pub shares-at : (t u : ℕ) (d : Train) (b : Bool) → t < k → u < t
      → b ≡ (eqb (get_or roster u d).start.0 (get_or roster t d).start.0 ||
      eqb (get_or roster u d).destination.0 (get_or roster t d).destination.0) → b ≡ shares_with r t u
  shares-at t u d b l m q = rw (← train-there t d l, ← train-there u d (omega arith)) q

  pub all-trains : (f : ℕ → Bool) (b : Bool) → b ≡ any_below f k → b ≡ any_below f r.trains
  all-trains f b q = q ∙ ap (any_below f) (sym h.count)

  pub weights-by : (b : Bool) → b ≡ any_below (wrong_weight_at r) k → b ≡ weight_row r
  unfolding weight_row
  weights-by b hb = all-trains (wrong_weight_at r) b hb

  pub places-by : (a b : Bool) → a ≡ any_below (shares_at r) k → b ≡ any_below (shut_out_at r) k → (a || b) ≡ place_row r
  unfolding place_row
  places-by a b ha hb =
      let x : a ≡ any_below (shares_at r) r.trains = all-trains (shares_at r) a ha in
      let y : b ≡ any_below (shut_out_at r) r.trains = all-trains (shut_out_at r) b hb in
      rw (x, y)

-- a byte is no weight where it is less than the least
pub light : (w : ℕ) → w ≤ most_weight → ltb w least_weight ≡ wrong_weight w
light w h = rw (le-ltb most_weight w h) (sym (or_nothing (ltb w least_weight)))

-- the rows, one after the other: those before these have been asked and do not apply, so what is given is given by
-- these
pub record Left (given : Option Refusal) (rows : List Row) : Type 0 where
  pub gives : first rows ≡ given

module _ {given : Option Refusal} {x : Row} {rows : List Row} (left : Left given (x ∷ rows)) where
  pub passed : x.applies ≡ false → Left given rows
  unfolding first
  passed p = let e : first rows ≡ first (x ∷ rows) = rw p in record { gives = e ∙ left.gives }

  pub given_by : x.applies ≡ true → some x.refusal ≡ given
  unfolding first
  given_by p = let e : some x.refusal ≡ first (x ∷ rows) = rw p in e ∙ left.gives

pub all-passed : {given : Option Refusal} → Left given [] → none ≡ given
unfolding first
all-passed left = left.gives

-- of these rows the first n have been asked
abbrev pub Asked : List Row → ℕ → Type 0
Asked rows n = Left (first rows) (drop n rows)

pub none-asked : (rows : List Row) → Asked rows 0
none-asked rows = record { gives = refl }

-- what is given, by its number
pub judged : {o g : Option Refusal} → o ≡ g → number_of o ≡ number_of g
judged h = ap number_of h

-- counts within their bounds are as small as tables need them
pub few-counted : (s p k : ℕ) (b : Bool) → b ≡ outside s p k → b ≡ false
    → (s ≤ most_sections) × (p ≤ most_points) × (k ≤ most_trains)
few-counted s p k b h e = let w = bounded s p k (sym h ∙ e) in (w.few-sections, w.few-points, w.few-trains)

-- the test of a record: a count outside its bounds comes before all else
pub count-given : (r : Railway) (b : Bool) → b ≡ count_row r → b ≡ true
    → number_of (some Count) ≡ number_of (record_refusal r)
unfolding record_refusal first
count-given r b h e = let z : count_row r ≡ true = sym h ∙ e in rw z

-- else it is what is found in its trains' weights, its links, its signals, its closed sections and its trains
pub tested : (r : Railway) (n : Option ℕ) (v u w b g x t : Bool)
    → n ≡ number_of
    (first (rows_by (count_row r) v (((u || g) || x) || t) (w || b) (loose_row r) (chain_row r) false (place_row r)))
    → v ≡ weight_row r → Looked r all_ends u w b → g ≡ any_below (unknown_signal_at r) section_ends
    → x ≡ any_below (unknown_closed_at r) most_sections
    → t ≡ any_below (unknown_train_at r) r.trains → n ≡ number_of (record_refusal r)
unfolding record_refusal unknown_row join_row
tested r n v u w b g x t e hv h hg hx ht = e ∙ rw (hv, h.unknown, h.wrong, h.unreturned, hg, hx, ht)
