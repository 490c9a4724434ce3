-- `text::peek` meets its contract: the byte inside the text, and 0 past its end.
-- Assumes nothing.
use Rattle.text.proofs.Numbers.{past_end}
use Rattle.text.proofs.peek.Goals as goal

pub returns-else-at-text : goal.returns-else-at-text
returns-else-at-text c = past_end c.args.text.now _ c.if-at-text.false
