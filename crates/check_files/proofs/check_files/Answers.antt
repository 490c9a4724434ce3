-- `check_files::check_files` meets its contract: the line put is that of the answer.
-- Assumes nothing.
use Rattle.check_text.proofs.Line.{answer-put}
use Rattle.check_files.proofs.check_files.Goals as goal

pub returns : goal.returns
returns g c =
    record {
      case-within = c.read_full-n.ensures.0;
      plan-within = c.answer_to-read.ensures.0;
      put = answer-put _ _ _ _ _ _ c.answer_to-read.ensures.1 c.test_line-put.ensures;
    }
