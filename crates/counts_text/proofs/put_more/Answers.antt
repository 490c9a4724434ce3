-- `counts_text::put_more` meets its contract: nothing, or the word and the count.
-- Assumes nothing.
use Rattle.text.specs.Text.{bytes}
use Rattle.counts_text.proofs.Chart.{row-none, row_made}
use Rattle.counts_text.proofs.put_more.Goals as goal

pub returns-then-c-eq0 : goal.returns-then-c-eq0
returns-then-c-eq0 c = row-none c.args.h (bytes "more") c.args.c c.if-c-eq0.true

pub returns : goal.returns
unfolding bytes
returns c = row_made c.args.h (bytes "more") c.args.c c.if-c-eq0.false c.bytes-behind.ensures c.put_count.ensures
