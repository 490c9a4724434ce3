-- `counts_text::put_row` meets its contract: nothing, or what the row is of and the count.
-- Assumes nothing.
use Rattle.counts_text.specs.Chart.{label, together}
use Rattle.counts_text.proofs.Chart.{row-none, row_made, row_of}
use Rattle.counts_text.proofs.put_row.Goals as goal

pub returns-then-c-eq0 : goal.returns-then-c-eq0
returns-then-c-eq0 c =
    row_of c.args.h (label c.args.s c.args.first) _ (together c.args.counts.now c.args.s c.args.first) c.together-c.ensures
    (row-none c.args.h (label c.args.s c.args.first) _ c.if-c-eq0.true)

pub returns : goal.returns
returns c =
    row_of c.args.h (label c.args.s c.args.first) _ (together c.args.counts.now c.args.s c.args.first) c.together-c.ensures
    (row_made c.args.h (label c.args.s c.args.first) _ c.if-c-eq0.false c.put_label-behind.ensures c.put_count.ensures)
