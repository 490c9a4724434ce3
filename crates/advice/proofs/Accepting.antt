-- A case with one signal more is accepted if the case is, with the same placements and the same start. Only row 4 asks for signals, and it finds no fault with one at an end that is there; all else
-- is the same in both records, field by field. Assumes nothing.
use mathlib.Core.Path.{◌≡◌, refl, sym, ◌∙◌}
use mathlib.Core.Logic.{inl, inr}
use mathlib.Core.Bool.{Bool, true, false}
use mathlib.Core.List.{List, []}
use mathlib.Core.Option.{none}
use Prim.Native.Nat.{ℕ, zero, suc, ◌<◌}
use native.Mathlib.Omega.{arith}
use lib.ListN.{get_or, set}
use lib.Seq.{get_or-set_other}
use borrow.Author.Tests.{lt-ltb}
use Rattle.laws.specs.Below.{any_below}
use Rattle.laws.proofs.Bools.{eq?, and-off}
use Rattle.laws.proofs.Below.{any_same}
use Rattle.railway.specs.declared.Side.{Side}
use Rattle.railway.specs.declared.Leg.TheVariants.{Stem, Plus, Minus}
use Rattle.railway.specs.declared.SectionNo.{SectionNo}
use Rattle.railway.specs.declared.End.{End}
use Rattle.railway.specs.declared.End.TheVariants.{Section, Port}
use Rattle.railway.specs.Joined.{Joined, Nothing, With}
use Rattle.railway.specs.declared.Railway.{Railway}
use Rattle.railway.specs.declared.Refusal.TheVariants.{Count, Weight, Unknown, Join, Loose, Chain, Double, Place}
use Rattle.railway.specs.Bounds.{most_sections, section_ends, all_ends}
use Rattle.railway.specs.Ends.{end_index, end_at}
use Rattle.railway.specs.Record.{link_at, flag_at, joined, is_closed, legs_of, train_of, weight_of, side_of, with_signal}
use Rattle.railway.specs.Rows.{weight_row, known, unknown_link, unknown_link_at, unknown_signal_at, unknown_row, wrong_link}
use Rattle.railway.specs.Rows.{wrong_link_at, unreturned, unreturned_at, join_row, loose_row, longer, most_behind, chained_at}
use Rattle.railway.specs.Rows.{chain_row, place_row, record_refusal}
use Rattle.railway.proofs.Ends.{end-index, section-below}
use Rattle.railway.proofs.Refusals.{first-same}
use Rattle.game.specs.Placement.{start_code}
use Rattle.game.proofs.Accepted.{facts}
use Rattle.advice.specs.Advising.{There, signalled, StillAccepted}

-- (Examples is named so that it is checked before: a wrong definition then shows at a computed value.)

-- the record with other signals
abbrev pub flagged : Railway → List Bool → Railway
flagged r flags =
    record {
      sections = r.sections;
      points = r.points;
      trains = r.trains;
      legs = r.legs;
      links = r.links;
      signals = flags;
      closed = r.closed;
      roster = r.roster;
    }

module _ (r : Railway) (flags : List Bool) where
  abbrev q : Railway
  q = flagged r flags

  side-kept : (e : End) → side_of q e ≡ side_of r e
  unfolding legs_of
  side-kept (Section n s) = refl
  side-kept (Port n l) = refl

  known_kept : (e : End) → known q e ≡ known r e
  known_kept (Section n s) = refl
  known_kept (Port n l) = refl

  unknown-link-kept : (e : End) (j : Joined) → unknown_link q e j ≡ unknown_link r e j
  unknown-link-kept e Nothing = refl
  unknown-link-kept e (With f) = rw (known_kept e, known_kept f)

  wrong-link-kept : (e : End) (j : Joined) → wrong_link q e j ≡ wrong_link r e j
  wrong-link-kept e Nothing = refl
  wrong-link-kept e (With f) = rw (side-kept e, side-kept f)

  unreturned-kept : (e : End) (j : Joined) → unreturned q e j ≡ unreturned r e j
  unfolding joined
  unreturned-kept e Nothing = refl
  unreturned-kept e (With f) = refl

  longer-kept : (k : ℕ) (j : Joined) → longer q k j ≡ longer r k j
  unfolding longer joined
  longer-kept zero j = refl
  longer-kept (suc k) Nothing = refl
  longer-kept (suc k) (With (Section n s)) = refl
  longer-kept (suc k) (With (Port n Stem)) =
      let a : longer q k (joined q (Port n Plus)) ≡ longer r k (joined r (Port n Plus)) = longer-kept k (joined r (Port n Plus)) in
      let b : longer q k (joined q (Port n Minus)) ≡ longer r k (joined r (Port n Minus)) = longer-kept k (joined r (Port n Minus)) in
      rw (a, b)
  longer-kept (suc k) (With (Port n Plus)) = longer-kept k (joined r (Port n Stem))
  longer-kept (suc k) (With (Port n Minus)) = longer-kept k (joined r (Port n Stem))

  -- the rows
  weight-kept : weight_row q ≡ weight_row r
  unfolding weight_row weight_of train_of
  weight-kept = refl

  join_kept : join_row q ≡ join_row r
  unfolding join_row
  join_kept =
      let a : any_below (wrong_link_at q) all_ends ≡ any_below (wrong_link_at r) all_ends = any_same (wrong_link_at q) (wrong_link_at r) all_ends (λ i b. wrong-link-kept (end_at i) (link_at r i)) in
      let b : any_below (unreturned_at q) all_ends ≡ any_below (unreturned_at r) all_ends = any_same (unreturned_at q) (unreturned_at r) all_ends (λ i b. unreturned-kept (end_at i) (link_at r i)) in
      rw (a, b)

  loose-kept : loose_row q ≡ loose_row r
  unfolding loose_row joined
  loose-kept = refl

  at-kept : (e : End) → longer q most_behind (joined q e) ≡ longer r most_behind (joined r e)
  unfolding joined
  at-kept e = longer-kept most_behind (joined r e)

  chain-kept : chain_row q ≡ chain_row r
  unfolding chain_row
  chain-kept =
      any_same (chained_at q) (chained_at r) r.points
      (λ n b. rw (at-kept (Port (record { 0 = n }) Stem), at-kept (Port (record { 0 = n }) Plus), at-kept (Port (record { 0 = n }) Minus)))

  place_kept : place_row q ≡ place_row r
  unfolding place_row train_of is_closed
  place_kept = refl

  pub start-kept : start_code q ≡ start_code r
  unfolding start_code train_of
  start-kept = refl

  module _ (signals : any_below (unknown_signal_at q) section_ends ≡ any_below (unknown_signal_at r) section_ends) where
    unknown-kept : unknown_row q ≡ unknown_row r
    unfolding unknown_row is_closed train_of
    unknown-kept =
        let a : any_below (unknown_link_at q) all_ends ≡ any_below (unknown_link_at r) all_ends = any_same (unknown_link_at q) (unknown_link_at r) all_ends (λ i b. unknown-link-kept (end_at i) (link_at r i)) in
        rw (a, signals)

    pub refusal-kept : record_refusal q ≡ record_refusal r
    unfolding record_refusal
    refusal-kept =
        first-same Count _ _ _ _ refl
        (first-same Weight (weight_row q) (weight_row r) _ _ weight-kept
        (first-same Unknown (unknown_row q) (unknown_row r) _ _ unknown-kept
        (first-same Join (join_row q) (join_row r) _ _ join_kept
        (first-same Loose (loose_row q) (loose_row r) _ _ loose-kept
        (first-same Chain (chain_row q) (chain_row r) _ _ chain-kept
        (first-same Double false false _ _ refl
        (first-same Place (place_row q) (place_row r) [] [] place_kept refl)))))))

-- ONE SIGNAL MORE, at an end that is there
module _ (r : Railway) (e : End) (below : end_index e < section_ends) (there : known r (end_at (end_index e)) ≡ true) where
  abbrev more : List Bool
  more = set r.signals (end_index e) true

  pub one_more : with_signal r e ≡ flagged r more
  unfolding with_signal
  one_more = rw (lt-ltb (end_index e) section_ends below)

  signal-at : (i : ℕ) → unknown_signal_at (flagged r more) i ≡ unknown_signal_at r i
  signal-at i = elim (eq? i (end_index e)) [
    | inl h ↦
        let k : known r (end_at i) ≡ true = rw h there in
        rw k (and-off (get_or more i false) ∙ sym (and-off (flag_at r i)))
    | inr h ↦
        let g : get_or more i false ≡ flag_at r i = get_or-set_other r.signals (end_index e) i true false h in
        rw (g, known_kept r more (end_at i))
  ]

  pub signals-kept : any_below (unknown_signal_at (flagged r more)) section_ends ≡ any_below (unknown_signal_at r) section_ends
  signals-kept = any_same (unknown_signal_at (flagged r more)) (unknown_signal_at r) section_ends (λ i b. signal-at i)

-- STILL ACCEPTED
pub still-accepted : (r : Railway) (n : SectionNo) (s : Side) → record_refusal r ≡ none → There r n → StillAccepted r (signalled r n s)
still-accepted r n s accepted l =
    let few = (facts r accepted).few-sections in
    let within : n.0 < most_sections = omega arith in
    let below : end_index (Section n s) < section_ends = section-below n s within in
    let there : known r (end_at (end_index (Section n s))) ≡ true = rw (end-index (Section n s) within) (lt-ltb n.0 r.sections l) in
    let flags = set r.signals (end_index (Section n s)) true in
    let same : signalled r n s ≡ flagged r flags = one_more r (Section n s) below there in
    rw same
    (record {
      accepted = refusal-kept r flags (signals-kept r (Section n s) below there) ∙ accepted;
      placements = refl;
      start = start-kept r flags;
    })
