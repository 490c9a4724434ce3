-- `railway_passing::meeting` meets its contract: the point comes first, and the others move on. Assumes nothing.
use mathlib.Core.Path.{refl}
use Rattle.railway_passing.proofs.Answers.{met-more}
use Rattle.railway_passing.proofs.meeting.Goals as goal

pub returns : goal.returns
returns c = record { more = refl; first = λ w l e. met-more c.args.a c.args.n w l e }
