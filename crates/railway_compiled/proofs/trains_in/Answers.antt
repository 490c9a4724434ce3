-- `railway_compiled::trains_in` meets its contract: the table has the number of trains there.
-- Assumes nothing.
use Rattle.railway_compiled.proofs.Table.{trains-there}
use Rattle.railway_compiled.proofs.trains_in.Goals as goal

pub returns : goal.returns
returns c = λ r h. trains-there r _ h
