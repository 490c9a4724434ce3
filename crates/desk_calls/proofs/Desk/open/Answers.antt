-- `desk_calls::Desk::open` meets its contract: what is refused, then whether the start has a figure.
-- Assumes nothing.
use Rattle.std.proofs.lemmas.Result.{err_from_is_err_and}
use Rattle.game_placement.proofs.ByValue.{placement-length}
use Rattle.desk_calls.proofs.Calling.{open-refused, open_none, open-stands}
use Rattle.desk_calls.proofs.Desk.open.Goals as goal

pub returns-in_err-table : goal.returns-in_err-table
returns-in_err-table c =
    let p = err_from_is_err_and c.from_residual.result c.from_residual.ensures.1 in
    rw (p.1, p.2) (open-refused c.args.r c.args.figures.now c.args.settings.now _ c.open_case.ensures _ c.in_err-table.was)

pub returns-then-entry_at : goal.returns-then-entry_at
returns-then-entry_at c =
    open_none c.args.r c.args.figures.now c.args.settings.now _ c.open_case.ensures _ c.in_ok-table.was _ _
    c.start_code-p.ensures c.entry_at.ensures c.if-entry_at.true

pub returns : goal.returns
returns c =
    open-stands c.args.r c.args.figures.now c.args.settings.now _ c.open_case.ensures _ c.in_ok-table.was _ _
    c.start_code-p.ensures c.entry_at.ensures c.if-entry_at.false _ c.placement_of.ensures
    (placement-length c.placement_of.result _ c.placement_of.type_inv) _ c.desk_on.ensures
