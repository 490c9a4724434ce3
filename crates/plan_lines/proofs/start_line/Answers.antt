-- `plan_lines::start_line` meets its contract: the word, a tab, the figure.
-- Assumes nothing.
use Rattle.text.specs.Text.{bytes}
use Rattle.plan_lines.proofs.Spelling.{start-spelled}
use Rattle.plan_lines.proofs.start_line.Goals as goal

pub returns : goal.returns
unfolding bytes
returns c = start-spelled c.args.n c.bytes-behind.ensures c.number.ensures
