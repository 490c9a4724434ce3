-- `desk_io::tell` meets its contract: what was put in a buffer with room for it is written out.
-- Assumes nothing.
use mathlib.Core.Path.{refl, ap}
use Rattle.desk_calls.specs.Answers.{desk_at}
use Rattle.desk_io.proofs.Followed.{own-length}
use Rattle.desk_io.proofs.Saying.{wrote}
use Rattle.desk_io.proofs.tell.Goals as goal

pub returns : goal.returns
returns c =
    wrote c.state_text-step.ensures (own-length _ _ refl) _ _ _ _ _ _ _ (ap desk_at c.write.ensures.0)
    c.write.ensures.1 c.write.ensures.2 c.write.ensures.3
