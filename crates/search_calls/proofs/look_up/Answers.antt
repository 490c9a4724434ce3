-- `search_calls::look_up` meets its contract: what is refused, then what names no section, then what the table has.
-- Assumes nothing.
use Rattle.std.proofs.Common.{refl}
use Rattle.std.proofs.lemmas.Result.{err_from_is_err_and}
use Rattle.search_calls.proofs.Showing.{looks-refused, looks-nowhere, looks-there}
use Rattle.search_calls.proofs.look_up.Goals as goal

pub returns-in_err-table : goal.returns-in_err-table
returns-in_err-table c =
    let p = err_from_is_err_and c.from_residual.result c.from_residual.ensures.1 in
    rw (p.1, p.2)
    (looks-refused c.args.r c.args.figures.now c.args.settings.now _ c.in_err-table.ensures c.args.search _ _ refl)

pub returns-then-names_none : goal.returns-then-names_none
returns-then-names_none c =
    looks-nowhere c.args.r c.args.figures.now c.args.settings.now _ c.in_ok-table.ensures
    c.args.search _ refl _ c.names_none.ensures c.if-names_none.true

pub returns : goal.returns
returns c =
    looks-there c.args.r c.args.figures.now c.args.settings.now _ c.in_ok-table.ensures
    c.args.search _ refl _ c.names_none.ensures c.if-names_none.false _ _ _
    c.code_of.ensures c.entry_at-f.ensures c.shows.ensures
