-- `desk_calls::Desk::change` meets its contract: the text is refused, or the old record is, or the desk goes over from one accepted case to the other.
-- Assumes nothing.
use Rattle.std.proofs.lemmas.Result.{err_from_is_err_and}
use Rattle.desk_calls.proofs.Changing.{change-not-read, change-neither, change-not-left, change-over}
use Rattle.desk_calls.proofs.Desk.change.Goals as goal

pub returns-in_err-table-in-Ok : goal.returns-in_err-table-in-Ok
returns-in_err-table-in-Ok c =
    let p = err_from_is_err_and c.from_residual.result c.from_residual.ensures.1 in
    rw (p.1, p.2)
    (change-not-left c.args.r c.args.text.now c.args.figures.now c.args.settings.now c.args.self.now _ c.compile-old.ensures _
    c.read_case.ensures _ c.in-Ok.is _ c.in_err-table-in-Ok.was)

pub returns-in_ok-table-in-Ok : goal.returns-in_ok-table-in-Ok
returns-in_ok-table-in-Ok c =
    change-over c.args.r c.args.text.now c.args.figures.now c.args.settings.now c.args.self.now _ c.compile-old.ensures _
    c.read_case.ensures _ c.in-Ok.is _ c.in_ok-table-in-Ok.was _ _ c.go_over.ensures

pub returns-in-Ok-old : goal.returns-in-Ok-old
returns-in-Ok-old c =
    change-not-read c.args.r c.args.text.now c.args.figures.now c.args.settings.now c.args.self.now _ c.compile-old.ensures _
    c.read_case.ensures _ c.in-Err.is _ c.in-Ok-old.is

pub returns-in-Err-old : goal.returns-in-Err-old
returns-in-Err-old c =
    change-neither c.args.r c.args.text.now c.args.figures.now c.args.settings.now c.args.self.now _ c.compile-old.ensures _
    c.read_case.ensures _ c.in-Err.is _ _ c.in-Err-old.is c.sooner.ensures
