-- `desk_calls::Desk::reported` meets its contract: what is refused, then a desk that 12 stops, then whether the report
-- counts. Assumes nothing.
use Rattle.std.proofs.lemmas.Result.{err_from_is_err_and}
use Rattle.game_placement.proofs.ByValue.{placement-length}
use Rattle.desk_calls.proofs.Desks.{desk-length}
use Rattle.desk_calls.proofs.Calling.{report-refused, report-stopped, report-heard, report-counts, report-not}
use Rattle.desk_calls.proofs.Desk.reported.Goals as goal

pub returns-in_err-table : goal.returns-in_err-table
returns-in_err-table c =
    let p = err_from_is_err_and c.from_residual.result c.from_residual.ensures.1 in
    rw (p.1, p.2)
    (report-refused c.args.r c.args.figures.now c.args.settings.now _ c.open_case.ensures _ c.in_err-table.was
    c.args.self c.args.t c.args.x)

pub returns-then-stopped : goal.returns-then-stopped
returns-then-stopped c =
    report-stopped c.args.r c.args.figures.now c.args.settings.now _ c.open_case.ensures _ c.in_ok-table.was
    c.args.self _ c.stopped.ensures c.if-stopped.true c.args.t c.args.x

pub returns-then-not-counts : goal.returns-then-not-counts
returns-then-not-counts c =
    report-not (report-heard c.args.r c.args.figures.now c.args.settings.now _ c.open_case.ensures _ c.in_ok-table.was
    c.args.self _ c.stopped.ensures c.if-stopped.false _ c.entry_at-v.ensures c.args.t c.args.x _ c.case_ways-ways.ensures _
    c.placement_of.ensures _ c.counts.ensures) c.if-not-counts.true

pub returns : goal.returns
returns c =
    report-counts (report-heard c.args.r c.args.figures.now c.args.settings.now _ c.open_case.ensures _ c.in_ok-table.was
    c.args.self _ c.stopped.ensures c.if-stopped.false _ c.entry_at-v.ensures c.args.t c.args.x _ c.case_ways-ways.ensures _
    c.placement_of.ensures _ c.counts.ensures) c.if-not-counts.false _ c.put_on.ensures
    (placement-length c.put_on.result _ c.put_on.type_inv) (desk-length c.args.self _ c.well_formed.0) _ c.desk_on.ensures
