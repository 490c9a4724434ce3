-- What an accepted record has, for the game: its counts within their bounds, every join between ends that are there, every train's sections there.
-- Each is what a row that does not apply says. Assumes nothing.
use mathlib.Core.Path.{◌≡◌, refl}
use mathlib.Core.Bool.{Bool, true, false, cond, ◌||◌}
use mathlib.Core.Option.{Option, none}
use Prim.Native.Nat.{ℕ, ◌≤◌, ◌<◌}
use lib.Dec.{ltb}
use borrow.Author.Tests.{ltb-true, ltb-false}
use native.Mathlib.Omega.{arith}
use Rattle.laws.specs.Below.{any_below}
use Rattle.laws.proofs.Bools.{clash, some-none, not-and}
use Rattle.laws.proofs.Below.{any_false}
use Rattle.railway.specs.declared.End.{End}
use Rattle.railway.specs.Joined.{Joined, Nothing, With}
use Rattle.railway.specs.declared.Railway.{Railway}
use Rattle.railway.specs.declared.Refusal.{Refusal}
use Rattle.railway.specs.Bounds.{least_weight, most_weight, most_sections, most_points, most_trains, section_ends, all_ends}
use Rattle.railway.specs.Ends.{end_index, end_at}
use Rattle.railway.specs.Refusals.{first, refuse_if}
use Rattle.railway.specs.Record.{link_at, joined, train_of, weight_of}
use Rattle.railway.specs.Rows.{count_row, wrong_weight_at, weight_row, known, unknown_link, unknown_link_at, unknown_signal_at, unknown_closed_at, unknown_train_at, unknown_row, record_refusal}
use Rattle.railway.proofs.Rows.{right-weight}

-- (Examples is named so that it is checked before: a wrong definition then shows at a computed value.)

-- an end that something is joined to is there
abbrev pub Known : Railway → Joined → Type 0
Known r Nothing = Unit {0}
Known r (With e) = known r e ≡ true

pub record Facts (r : Railway) : Type 0 where
  pub one-section : 0 < r.sections
  pub few-sections : r.sections ≤ most_sections
  pub few-points : r.points ≤ most_points
  pub one-train : 0 < r.trains
  pub few-trains : r.trains ≤ most_trains
  pub joins : (e : End) → Known r (joined r e)
  pub starts : (t : ℕ) → t < r.trains → (train_of r t).start.0 < r.sections
  pub destinations : (t : ℕ) → t < r.trains → (train_of r t).destination.0 < r.sections
  pub weights : (t : ℕ) → t < r.trains → (least_weight ≤ weight_of r t) × (weight_of r t ≤ most_weight)

-- where nothing is refused the first row does not apply, and the others refuse nothing either
off : (b : Bool) (f : Refusal) (rest : Option Refusal) → refuse_if b f rest ≡ none → (b ≡ false) × (rest ≡ none)
off true f rest e = some-none refl e
off false f rest e = (refl, e)

link-known : (r : Railway) (e : End) (j : Joined) → unknown_link r e j ≡ false → Known r j
link-known r e Nothing h = tt
link-known r e (With f) h = (not-and (known r e) (known r f) h).1

five : (a b c d e : Bool) → (a || b || c || d || e) ≡ false → (a ≡ false) × (b ≡ false) × (c ≡ false) × (d ≡ false) × (e ≡ false)
five false false false false e h = (refl, refl, refl, refl, h)
five false false false true e h = clash refl h
five false false true d e h = clash refl h
five false true c d e h = clash refl h
five true b c d e h = clash refl h

four : (a b c d : Bool) → (a || b || c || d) ≡ false → (a ≡ false) × (b ≡ false) × (c ≡ false) × (d ≡ false)
four false false false d h = (refl, refl, refl, h)
four false false true d h = clash refl h
four false true c d h = clash refl h
four true b c d h = clash refl h

module _ (r : Railway) where
  joins-known : any_below (unknown_link_at r) all_ends ≡ false → (e : End) → Known r (joined r e)
  unfolding joined
  joins-known h e = go (ltb (end_index e) all_ends) refl
    where
      go : (b : Bool) → ltb (end_index e) all_ends ≡ b → Known r (cond b (link_at r (end_index e)) Nothing)
      go true l = link-known r (end_at (end_index e)) (link_at r (end_index e)) (any_false (unknown_link_at r) all_ends h (end_index e) (ltb-true (end_index e) all_ends l))
      go false l = tt

  train-known : any_below (unknown_train_at r) r.trains ≡ false → (t : ℕ) → t < r.trains → ((train_of r t).start.0 < r.sections) × ((train_of r t).destination.0 < r.sections)
  train-known h t l =
      let both = not-and (ltb (train_of r t).start.0 r.sections) (ltb (train_of r t).destination.0 r.sections) (any_false (unknown_train_at r) r.trains h t l) in
      (ltb-true _ _ both.0, ltb-true _ _ both.1)

  pub facts : record_refusal r ≡ none → Facts r
  unfolding record_refusal first weight_row unknown_row
  facts a =
      let count = off (count_row r) _ _ a in
      let weight = off (weight_row r) _ _ count.1 in
      let unknown = off (unknown_row r) _ _ weight.1 in
      let c = five (ltb r.sections 1) (ltb most_sections r.sections) (ltb most_points r.points) (ltb r.trains 1) (ltb most_trains r.trains) count.0 in
      let u = four (any_below (unknown_link_at r) all_ends) (any_below (unknown_signal_at r) section_ends) (any_below (unknown_closed_at r) most_sections) (any_below (unknown_train_at r) r.trains) unknown.0 in
      record {
        one-section = omega (arith, ltb-false r.sections 1 c.0);
        few-sections = ltb-false most_sections r.sections c.1;
        few-points = ltb-false most_points r.points c.2;
        one-train = omega (arith, ltb-false r.trains 1 c.3);
        few-trains = ltb-false most_trains r.trains c.4;
        joins = joins-known u.0;
        starts = λ t l. (train-known u.3 t l).0;
        destinations = λ t l. (train-known u.3 t l).1;
        weights = λ t l. right-weight (weight_of r t) (any_false (wrong_weight_at r) r.trains weight.0 t l);
      }
