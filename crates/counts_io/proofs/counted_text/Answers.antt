-- `counts_io::counted_text` meets its contract: what is told of the table is written, and there is room for it.
-- Assumes nothing.
use Rattle.counts_io.proofs.Shown.{told-counts}
use Rattle.counts_io.proofs.counted_text.Goals as goal

pub returns : goal.returns
returns c =
    told-counts c.args.figures.now c.args.counts.now c.args.n _ c.so_far-a.ensures c.requires
    c.put_counts.auto.out c.put_counts.ensures
