-- `railway_compiled::points_in` meets its contract: the table has the number of points there.
-- Assumes nothing.
use Rattle.railway_compiled.proofs.Table.{points-there}
use Rattle.railway_compiled.proofs.points_in.Goals as goal

pub returns : goal.returns
returns c = λ r h. points-there r _ h
