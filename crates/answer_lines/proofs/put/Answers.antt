-- `answer_lines::put` meets its contract, by the two lengths.
-- Assumes nothing.
use Rattle.answer_lines.proofs.Puts.{put_refused, put_written}
use Rattle.answer_lines.proofs.put.Goals as goal

pub returns-then-out-text : goal.returns-then-out-text
returns-then-out-text c = put_refused _ _ c.if-out-text.true

pub returns : goal.returns
returns c = put_written _ _ c.if-out-text.false _ _ c.bytes.ensures
