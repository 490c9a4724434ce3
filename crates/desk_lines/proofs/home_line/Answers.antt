-- `desk_lines::home_line` meets its contract: the bytes are those of the line.
-- Assumes nothing.
use Rattle.text.specs.Text.{line, bytes}
use Rattle.desk_lines.proofs.home_line.Goals as goal

pub returns : goal.returns
unfolding bytes line
returns c = c.put.ensures
