-- `desk_io::write_desk` meets its contract: its buffer is as long as it has to be.
-- Assumes nothing.
use mathlib.Core.Path.{refl}
use Rattle.desk_io.proofs.Followed.{own-length}
use Rattle.desk_io.proofs.write_desk.Goals as goal

pub follow_file-requires : goal.follow_file-requires
follow_file-requires c = own-length _ _ refl
