-- `check_io::check_input` meets its contract: what came in is a case text and a plan, and the line for them stands in the buffer that is written out.
-- Assumes nothing.
use mathlib.Core.Path.{◌∙◌}
use Rattle.check_io.proofs.Answered.{answered}
use Rattle.check_io.proofs.check_input.Goals as goal

pub returns : goal.returns
returns c =
    answered _ _ _ _ _ _ (c.check_files-heard.auto.case ∙ c.requires.0) (c.check_files-heard.auto.plan ∙ c.requires.1)
    c.requires.2 _ c.check_files-heard.ensures _ c.bytes_put.ensures
