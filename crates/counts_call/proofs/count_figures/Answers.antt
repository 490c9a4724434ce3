-- `counts_call::count_figures` meets its contract: the test of the record comes first, and what it refuses is refused; an accepted record has s to the power k placements.
-- Assumes nothing.
use Rattle.std.proofs.lemmas.Result.{err_from_is_err_and}
use Rattle.counts_call.proofs.Tallying.{record-refused, space-refused, all-counted}
use Rattle.counts_call.proofs.count_figures.Goals as goal

pub returns-in_err-test_record : goal.returns-in_err-test_record
returns-in_err-test_record c =
    let p = err_from_is_err_and c.from_residual.result c.from_residual.ensures.1 in
    rw (p.1, p.2) (record-refused c.args.r _ _ c.in_err-test_record.ensures)

pub returns-then-figures-n : goal.returns-then-figures-n
returns-then-figures-n c = space-refused c.args.r _ c.in_ok-test_record.ensures _ c.power-n.ensures c.if-figures-n.true

pub returns : goal.returns
returns c = all-counted c.args.r _ c.in_ok-test_record.ensures _ c.power-n.ensures c.if-figures-n.false _ c.tally.ensures
