-- `counts_text::put_counts` meets its contract: the head, the rows behind it, and that of greater figures.
-- Assumes nothing.
use Rattle.counts_text.proofs.Chart.{counts-made}
use Rattle.counts_text.proofs.put_counts.Goals as goal

pub returns : goal.returns
returns c =
    counts-made c.args.m c.args.a c.args.counts.now _ _ _ c.entry_at-without.ensures c.entry_at-greater.ensures
    c.span_of.ensures c.put_head-rows.ensures c.put_rows-more.ensures c.put_more.ensures
