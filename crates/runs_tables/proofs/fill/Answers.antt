-- `runs_tables::fill` meets its contract. The loop's invariant: the rows below x are those of their sections. Assumes nothing.
use Rattle.runs_tables.proofs.Steps.{no_rows, one-row, all-rows}
use Rattle.runs_tables.proofs.fill.Goals as goal

pub loop-x-init : goal.loop-x-init
loop-x-init c = λ r h. no_rows r _ _ _ c.well_formed.1.1.1.0

pub loop-x-preserved : goal.loop-x-preserved
loop-x-preserved c = λ r h. one-row r _ _ _ _ c.loop-x-test.true (c.row_from.ensures r h) (c.loop-x.invariant r h)

pub returns : goal.returns
returns c = λ r h. all-rows r _ _ _ c.loop-x-test.false (c.loop-x.invariant r h)
