-- `desk_io::turn` meets its contract: a line that came, or the end of the input.
-- Assumes nothing.
use mathlib.Core.Path.{refl}
use Rattle.desk_io.specs.Followed.{over}
use Rattle.desk_io.proofs.turn.Goals as goal

pub returns-in_default : goal.returns-in_default
returns-in_default c = over refl refl refl
