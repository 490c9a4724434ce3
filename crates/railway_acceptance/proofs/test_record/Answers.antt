-- `railway_acceptance::test_record` meets its contract: a count outside its bounds comes before all else; then rows 16, 4 and 5
-- are found on the record's own links, signals, closed sections, trains and legs, and row 7 applies to none.
-- Assumes nothing.
use native.Mathlib.Omega.{arith}
use mathlib.Core.Path.{refl}
use Rattle.railway.proofs.Arrays.{own-links, own-signals, own-closed, roster-length}
use Rattle.railway_acceptance.specs.Answers.{Looked, RosterOf}
use Rattle.railway.specs.Bounds.{most_sections, most_points, most_trains, all_ends}
use Prim.Native.Nat.{◌≤◌}
use Rattle.railway_acceptance.proofs.Testing.{tested, count-given, few-counted, own-roster}
use Rattle.railway_acceptance.proofs.test_record.Goals as goal

pub returns-then-counts_outside : goal.returns-then-counts_outside
returns-then-counts_outside c = count-given c.args.r _ c.counts_outside.ensures c.if-counts_outside.true

pub wrong_weights-weight-requires : goal.wrong_weights-weight-requires
wrong_weights-weight-requires c =
    let few : let r = c.args.r in
    (r.sections ≤ most_sections) × (r.points ≤ most_points) × (r.trains ≤ most_trains) = few-counted _ _ _ _ c.counts_outside.ensures c.if-counts_outside.false in
    few.2

pub overflow_mul-ends : goal.overflow_mul-ends
overflow_mul-ends c =
    let few : let r = c.args.r in
    (r.sections ≤ most_sections) × (r.points ≤ most_points) × (r.trains ≤ most_trains) = few-counted _ _ _ _ c.counts_outside.ensures c.if-counts_outside.false in
    omega (arith, few.0)

pub overflow_mul-ports : goal.overflow_mul-ports
overflow_mul-ports c =
    let few : let r = c.args.r in
    (r.sections ≤ most_sections) × (r.points ≤ most_points) × (r.trains ≤ most_trains) = few-counted _ _ _ _ c.counts_outside.ensures c.if-counts_outside.false in
    omega (arith, few.1)

pub overflow_add-ports : goal.overflow_add-ports
overflow_add-ports c =
    let few : let r = c.args.r in
    (r.sections ≤ most_sections) × (r.points ≤ most_points) × (r.trains ≤ most_trains) = few-counted _ _ _ _ c.counts_outside.ensures c.if-counts_outside.false in
    omega (arith, few.1)

pub unknown_signals-requires : goal.unknown_signals-requires
unknown_signals-requires c =
    let few : let r = c.args.r in
    (r.sections ≤ most_sections) × (r.points ≤ most_points) × (r.trains ≤ most_trains) = few-counted _ _ _ _ c.counts_outside.ensures c.if-counts_outside.false in
    omega (arith, few.0)

pub unknown_closed-requires : goal.unknown_closed-requires
unknown_closed-requires c =
    let few : let r = c.args.r in
    (r.sections ≤ most_sections) × (r.points ≤ most_points) × (r.trains ≤ most_trains) = few-counted _ _ _ _ c.counts_outside.ensures c.if-counts_outside.false in
    few.0

pub unknown_trains-requires : goal.unknown_trains-requires
unknown_trains-requires c =
    let few : let r = c.args.r in
    (r.sections ≤ most_sections) × (r.points ≤ most_points) × (r.trains ≤ most_trains) = few-counted _ _ _ _ c.counts_outside.ensures c.if-counts_outside.false in
    few.2

pub returns : goal.returns
returns c =
    let few : let r = c.args.r in
    (r.sections ≤ most_sections) × (r.points ≤ most_points) × (r.trains ≤ most_trains) = few-counted _ _ _ _ c.counts_outside.ensures c.if-counts_outside.false in
    let trains : let r = c.args.r in RosterOf r r.roster r.trains = let r = c.args.r in
    own-roster r (roster-length r _ c.well_formed.0) few.2 in
    let found : let a = c.look-found.result in
    Looked c.args.r all_ends a.unknown a.wrong a.unreturned = let r = c.args.r in
    c.look-found.ensures r
    record {
      linked = own-links r _ c.well_formed.0;
      sided = c.sides_of-sides.ensures r refl refl;
      counts = record { sections = refl; points = refl };
    } in
    let r = c.args.r in
    tested r _ _ _ _ _ _ _ _ c.first_row.ensures (c.wrong_weights-weight.ensures r trains)
    found
    (c.unknown_signals.ensures r (own-signals r _ c.well_formed.0) refl)
    (c.unknown_closed.ensures r (own-closed r _ c.well_formed.0) refl)
    (c.unknown_trains.ensures r trains refl)
