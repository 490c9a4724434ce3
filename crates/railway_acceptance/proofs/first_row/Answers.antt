-- `railway_acceptance::first_row` meets its contract: each row is asked once those before it have not applied.
-- Assumes nothing.
use mathlib.Core.Path.{◌≡◌, refl, sym, ◌∙◌}
use mathlib.Core.List.{List}
use Prim.Native.Nat.{◌≤◌}
use Rattle.railway.specs.Bounds.{most_trains}
use Rattle.railway.specs.Refusals.{Row}
use Rattle.railway.specs.Rows.{rows_by, count_row, loose_row, chain_row, place_row}
use Rattle.railway.proofs.Arrays.{own-links, own-closed, roster-length}
use Rattle.railway_acceptance.proofs.Testing.{passed, given_by, all-passed, Asked, none-asked, judged, few-counted}
use Rattle.railway_acceptance.proofs.Testing.{own-roster}
use Rattle.railway_acceptance.proofs.first_row.Goals as goal

pub returns-then-counts_outside : goal.returns-then-counts_outside
returns-then-counts_outside c =
    let rows0 : List Row = let r = c.args.r in
    rows_by (count_row r) c.args.weight c.args.unknown c.args.wrong (loose_row r) (chain_row r) c.args.double (place_row r) in
    judged (given_by (none-asked rows0) (sym c.counts_outside.ensures ∙ c.if-counts_outside.true))

pub returns-then-weight : goal.returns-then-weight
returns-then-weight c =
    let rows0 : List Row = let r = c.args.r in
    rows_by (count_row r) c.args.weight c.args.unknown c.args.wrong (loose_row r) (chain_row r) c.args.double (place_row r) in
    let rows1 : List Row = rows0 in
    let asked1 : Asked rows1 1 = passed (none-asked rows1) (sym c.counts_outside.ensures ∙ c.if-counts_outside.false) in
    judged (given_by asked1 c.if-weight.true)

pub returns-then-unknown : goal.returns-then-unknown
returns-then-unknown c =
    let rows0 : List Row = let r = c.args.r in
    rows_by (count_row r) c.args.weight c.args.unknown c.args.wrong (loose_row r) (chain_row r) c.args.double (place_row r) in
    let rows1 : List Row = rows0 in
    let asked1 : Asked rows1 1 = passed (none-asked rows1) (sym c.counts_outside.ensures ∙ c.if-counts_outside.false) in
    let asked2 : Asked rows1 2 = passed asked1 c.if-weight.false in
    judged (given_by asked2 c.if-unknown.true)

pub returns-then-wrong : goal.returns-then-wrong
returns-then-wrong c =
    let rows0 : List Row = let r = c.args.r in
    rows_by (count_row r) c.args.weight c.args.unknown c.args.wrong (loose_row r) (chain_row r) c.args.double (place_row r) in
    let rows1 : List Row = rows0 in
    let rows3 : List Row = rows1 in
    let asked1 : Asked rows1 1 = passed (none-asked rows1) (sym c.counts_outside.ensures ∙ c.if-counts_outside.false) in
    let asked2 : Asked rows1 2 = passed asked1 c.if-weight.false in
    let asked3 : Asked rows3 3 = passed asked2 c.if-unknown.false in
    judged (given_by asked3 c.if-wrong.true)

pub returns-then-loose_ports : goal.returns-then-loose_ports
returns-then-loose_ports c =
    let rows0 : List Row = let r = c.args.r in
    rows_by (count_row r) c.args.weight c.args.unknown c.args.wrong (loose_row r) (chain_row r) c.args.double (place_row r) in
    let rows1 : List Row = rows0 in
    let rows3 : List Row = rows1 in
    let rows4 : List Row = rows3 in
    let asked1 : Asked rows1 1 = passed (none-asked rows1) (sym c.counts_outside.ensures ∙ c.if-counts_outside.false) in
    let asked2 : Asked rows1 2 = passed asked1 c.if-weight.false in
    let asked3 : Asked rows3 3 = passed asked2 c.if-unknown.false in
    let asked4 : Asked rows4 4 = passed asked3 c.if-wrong.false in
    let loose-is : c.loose_ports.result ≡ loose_row c.args.r = c.loose_ports.ensures c.args.r (own-links c.args.r _ c.well_formed.0) refl in
    judged (given_by asked4 (sym loose-is ∙ c.if-loose_ports.true))

pub returns-then-chained : goal.returns-then-chained
returns-then-chained c =
    let rows0 : List Row = let r = c.args.r in
    rows_by (count_row r) c.args.weight c.args.unknown c.args.wrong (loose_row r) (chain_row r) c.args.double (place_row r) in
    let rows1 : List Row = rows0 in
    let rows3 : List Row = rows1 in
    let rows4 : List Row = rows3 in
    let asked1 : Asked rows1 1 = passed (none-asked rows1) (sym c.counts_outside.ensures ∙ c.if-counts_outside.false) in
    let asked2 : Asked rows1 2 = passed asked1 c.if-weight.false in
    let asked3 : Asked rows3 3 = passed asked2 c.if-unknown.false in
    let asked4 : Asked rows4 4 = passed asked3 c.if-wrong.false in
    let loose-is : c.loose_ports.result ≡ loose_row c.args.r = c.loose_ports.ensures c.args.r (own-links c.args.r _ c.well_formed.0) refl in
    let asked5 : Asked rows4 5 = passed asked4 (sym loose-is ∙ c.if-loose_ports.false) in
    let chained-is : c.chained.result ≡ chain_row c.args.r = c.chained.ensures c.args.r (own-links c.args.r _ c.well_formed.0) refl in
    judged (given_by asked5 (sym chained-is ∙ c.if-chained.true))

pub returns-then-double : goal.returns-then-double
returns-then-double c =
    let rows0 : List Row = let r = c.args.r in
    rows_by (count_row r) c.args.weight c.args.unknown c.args.wrong (loose_row r) (chain_row r) c.args.double (place_row r) in
    let rows1 : List Row = rows0 in
    let rows3 : List Row = rows1 in
    let rows4 : List Row = rows3 in
    let asked1 : Asked rows1 1 = passed (none-asked rows1) (sym c.counts_outside.ensures ∙ c.if-counts_outside.false) in
    let asked2 : Asked rows1 2 = passed asked1 c.if-weight.false in
    let asked3 : Asked rows3 3 = passed asked2 c.if-unknown.false in
    let asked4 : Asked rows4 4 = passed asked3 c.if-wrong.false in
    let loose-is : c.loose_ports.result ≡ loose_row c.args.r = c.loose_ports.ensures c.args.r (own-links c.args.r _ c.well_formed.0) refl in
    let asked5 : Asked rows4 5 = passed asked4 (sym loose-is ∙ c.if-loose_ports.false) in
    let chained-is : c.chained.result ≡ chain_row c.args.r = c.chained.ensures c.args.r (own-links c.args.r _ c.well_formed.0) refl in
    let asked6 : Asked rows4 6 = passed asked5 (sym chained-is ∙ c.if-chained.false) in
    judged (given_by asked6 c.if-double.true)

pub misplaced-requires : goal.misplaced-requires
misplaced-requires c =
    let few-trains : c.args.r.trains ≤ most_trains = let r = c.args.r in
    (few-counted r.sections r.points r.trains _ c.counts_outside.ensures c.if-counts_outside.false).2 in
    few-trains

pub returns-then-misplaced : goal.returns-then-misplaced
returns-then-misplaced c =
    let rows0 : List Row = let r = c.args.r in
    rows_by (count_row r) c.args.weight c.args.unknown c.args.wrong (loose_row r) (chain_row r) c.args.double (place_row r) in
    let rows1 : List Row = rows0 in
    let rows3 : List Row = rows1 in
    let rows4 : List Row = rows3 in
    let asked1 : Asked rows1 1 = passed (none-asked rows1) (sym c.counts_outside.ensures ∙ c.if-counts_outside.false) in
    let asked2 : Asked rows1 2 = passed asked1 c.if-weight.false in
    let asked3 : Asked rows3 3 = passed asked2 c.if-unknown.false in
    let asked4 : Asked rows4 4 = passed asked3 c.if-wrong.false in
    let loose-is : c.loose_ports.result ≡ loose_row c.args.r = c.loose_ports.ensures c.args.r (own-links c.args.r _ c.well_formed.0) refl in
    let asked5 : Asked rows4 5 = passed asked4 (sym loose-is ∙ c.if-loose_ports.false) in
    let chained-is : c.chained.result ≡ chain_row c.args.r = c.chained.ensures c.args.r (own-links c.args.r _ c.well_formed.0) refl in
    let asked6 : Asked rows4 6 = passed asked5 (sym chained-is ∙ c.if-chained.false) in
    let asked7 : Asked rows4 7 = passed asked6 c.if-double.false in
    let few-trains : c.args.r.trains ≤ most_trains = let r = c.args.r in
    (few-counted r.sections r.points r.trains _ c.counts_outside.ensures c.if-counts_outside.false).2 in
    let misplaced-is : c.misplaced.result ≡ place_row c.args.r = let r = c.args.r in
    c.misplaced.ensures r
    (own-roster r (roster-length r _ c.well_formed.0) few-trains) (own-closed r _ c.well_formed.0) in
    judged (given_by asked7 (sym misplaced-is ∙ c.if-misplaced.true))

pub returns : goal.returns
returns c =
    let rows0 : List Row = let r = c.args.r in
    rows_by (count_row r) c.args.weight c.args.unknown c.args.wrong (loose_row r) (chain_row r) c.args.double (place_row r) in
    let rows1 : List Row = rows0 in
    let rows3 : List Row = rows1 in
    let rows4 : List Row = rows3 in
    let asked1 : Asked rows1 1 = passed (none-asked rows1) (sym c.counts_outside.ensures ∙ c.if-counts_outside.false) in
    let asked2 : Asked rows1 2 = passed asked1 c.if-weight.false in
    let asked3 : Asked rows3 3 = passed asked2 c.if-unknown.false in
    let asked4 : Asked rows4 4 = passed asked3 c.if-wrong.false in
    let loose-is : c.loose_ports.result ≡ loose_row c.args.r = c.loose_ports.ensures c.args.r (own-links c.args.r _ c.well_formed.0) refl in
    let asked5 : Asked rows4 5 = passed asked4 (sym loose-is ∙ c.if-loose_ports.false) in
    let chained-is : c.chained.result ≡ chain_row c.args.r = c.chained.ensures c.args.r (own-links c.args.r _ c.well_formed.0) refl in
    let asked6 : Asked rows4 6 = passed asked5 (sym chained-is ∙ c.if-chained.false) in
    let asked7 : Asked rows4 7 = passed asked6 c.if-double.false in
    let few-trains : c.args.r.trains ≤ most_trains = let r = c.args.r in
    (few-counted r.sections r.points r.trains _ c.counts_outside.ensures c.if-counts_outside.false).2 in
    let misplaced-is : c.misplaced.result ≡ place_row c.args.r = let r = c.args.r in
    c.misplaced.ensures r
    (own-roster r (roster-length r _ c.well_formed.0) few-trains) (own-closed r _ c.well_formed.0) in
    judged (all-passed (passed asked7 (sym misplaced-is ∙ c.if-misplaced.false)))
