-- `answer_lines::test_line` meets its contract, by the answer.
-- Assumes nothing.
use Rattle.text.specs.Text.{line, bytes}
use Rattle.answer_lines.proofs.Lines.{passed-line, refused-line}
use Rattle.answer_lines.proofs.test_line.Goals as goal

pub returns-in-Ok : goal.returns-in-Ok
unfolding bytes line
returns-in-Ok c = passed-line _ _ _ _ c.in-Ok.is c.put.ensures

pub returns-in-Err : goal.returns-in-Err
returns-in-Err c = refused-line _ _ _ _ _ c.in-Err.is c.refusal_line.ensures
