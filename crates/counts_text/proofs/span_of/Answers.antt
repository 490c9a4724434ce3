-- `counts_text::span_of` meets its contract: by the largest figure, or by 254.
-- Assumes nothing.
use Rattle.counts_text.proofs.Chart.{span_small, span-large}
use Rattle.counts_text.proofs.span_of.Goals as goal

pub returns-then-largest-lt255 : goal.returns-then-largest-lt255
returns-then-largest-lt255 c = span_small _ c.if-largest-lt255.true

pub returns : goal.returns
returns c = span-large _ c.if-largest-lt255.false
