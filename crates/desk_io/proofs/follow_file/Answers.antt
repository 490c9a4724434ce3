-- `desk_io::follow_file` meets its contract: what came in is a case text.
-- Assumes nothing.
use Rattle.desk_io.proofs.Followed.{followed-by}
use Rattle.desk_io.proofs.follow_file.Goals as goal

pub returns : goal.returns
returns c =
    followed-by c.args.case.now _ _ _ c.requires c.read_file-came.auto.buf c.read_file-came.ensures.0
    c.follow_case.ensures
