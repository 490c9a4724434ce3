-- `counts_text::put_named` meets its contract: the word, a tab, the number and the end of the line.
-- Assumes nothing.
use Rattle.counts_text.proofs.Chart.{named-made}
use Rattle.counts_text.proofs.put_named.Goals as goal

pub returns : goal.returns
returns c = named-made _ c.args.n c.bytes-behind.ensures c.byte-number.ensures c.number.ensures
