-- `desk_calls::Desk::setting` meets its contract: what is refused, then a desk that 12 stops, then what the table has.
-- Assumes nothing.
use Rattle.std.proofs.lemmas.Result.{err_from_is_err_and}
use Rattle.desk_calls.proofs.Calling.{setting-refused, setting-stopped, setting-given}
use Rattle.desk_calls.proofs.Desk.setting.Goals as goal

pub returns-in_err-table : goal.returns-in_err-table
returns-in_err-table c =
    let p = err_from_is_err_and c.from_residual.result c.from_residual.ensures.1 in
    rw (p.1, p.2)
    (setting-refused c.args.r c.args.figures.now c.args.settings.now _ c.open_case.ensures _ c.in_err-table.was c.args.self)

pub returns-then-stopped : goal.returns-then-stopped
returns-then-stopped c =
    setting-stopped c.args.r c.args.figures.now c.args.settings.now _ c.open_case.ensures _ c.in_ok-table.was
    c.args.self _ c.stopped.ensures c.if-stopped.true

pub returns-else-stopped : goal.returns-else-stopped
returns-else-stopped c =
    setting-given c.args.r c.args.figures.now c.args.settings.now _ c.open_case.ensures _ c.in_ok-table.was
    c.args.self _ c.stopped.ensures c.if-stopped.false _ c.entry_at-v.ensures
