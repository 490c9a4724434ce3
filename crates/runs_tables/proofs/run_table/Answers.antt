-- `runs_tables::run_table` meets its contract: the record is judged by its test; refused, the answer is that of the test; accepted, the rows are filled by the ways of the record.
-- Assumes nothing.
use Rattle.std.proofs.lemmas.Result.{err_from_is_err_and}
use Rattle.runs_tables.proofs.Steps.{refused, filled}
use Rattle.runs_tables.proofs.run_table.Goals as goal

pub returns-in_err-test_record : goal.returns-in_err-test_record
returns-in_err-test_record c =
    let p = err_from_is_err_and c.from_residual.result c.from_residual.ensures.1 in
    rw (p.1, p.2) (refused c.args.r c.args.heading c.args.table _ c.in_err-test_record.ensures)

pub returns : goal.returns
returns c = filled c.args.r c.args.heading c.args.table _ _ c.in_ok-test_record.ensures c.case_ways-ways.ensures c.fill.ensures
