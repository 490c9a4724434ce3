-- `answer_lines::none_line` meets its contract: the bytes are those of the line.
-- Assumes nothing.
use Rattle.text.specs.Text.{line, bytes}
use Rattle.answer_lines.proofs.none_line.Goals as goal

pub returns : goal.returns
unfolding bytes line
returns c = c.put.ensures
