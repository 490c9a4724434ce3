-- `desk_io::write_refusal` meets its contract: its buffer has room for the line.
-- Assumes nothing.
use mathlib.Core.Path.{refl}
use Rattle.desk_io.proofs.Followed.{own-length}
use Rattle.desk_io.proofs.Saying.{refusal-count}
use Rattle.desk_io.proofs.write_refusal.Goals as goal

pub returns : goal.returns
returns c =
    refusal-count _ _ _ c.args.f (own-length _ _ refl) c.refusal_line-put.ensures _
    c.bytes_put.ensures
