-- `check_text::check_line` meets its contract: the line put is that of the answer.
-- Assumes nothing.
use Rattle.check_text.proofs.Line.{answer-put}
use Rattle.check_text.proofs.check_line.Goals as goal

pub returns : goal.returns
returns c = answer-put _ _ _ _ _ _ c.check_case-answer.ensures c.test_line.ensures
