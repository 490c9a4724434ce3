-- `search_calls::open` meets its contract: the case is refused before anything is written, or the tables are cleared.
-- Assumes nothing.
use Rattle.std.proofs.Common.{refl}
use Rattle.std.proofs.lemmas.Result.{err_from_is_err_and}
use Rattle.search_calls.proofs.Standings.{open-refused, open-stands}
use Rattle.search_calls.proofs.open.Goals as goal

pub returns-in_err-table : goal.returns-in_err-table
returns-in_err-table c =
    let p = err_from_is_err_and c.from_residual.result c.from_residual.ensures.1 in
    rw (p.1, p.2)
    (open-refused c.args.r c.args.figures.now c.args.settings.now c.args.marks.now _ c.in_err-table.ensures _ refl)

pub returns : goal.returns
returns c =
    open-stands c.args.r c.args.figures.now c.args.settings.now c.args.marks.now _ c.in_ok-table.ensures refl _ _
    (c.begin.ensures c.args.r)
