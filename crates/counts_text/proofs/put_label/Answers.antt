-- `counts_text::put_label` meets its contract: one figure, or the first and the last of several.
-- Assumes nothing.
use Rattle.text.specs.Text.{bytes}
use Rattle.counts_text.proofs.Chart.{label-one, label-some}
use Rattle.counts_text.proofs.put_label.Goals as goal

pub returns-then-s-eq0 : goal.returns-then-s-eq0
returns-then-s-eq0 c = label-one c.args.s c.args.first c.if-s-eq0.true c.number.ensures

pub returns : goal.returns
unfolding bytes
returns c = label-some c.args.s c.args.first c.if-s-eq0.false c.number-last.ensures c.number-2.ensures
