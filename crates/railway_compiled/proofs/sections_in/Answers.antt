-- `railway_compiled::sections_in` meets its contract: the table has the number of sections there.
-- Assumes nothing.
use Rattle.railway_compiled.proofs.Table.{sections-there}
use Rattle.railway_compiled.proofs.sections_in.Goals as goal

pub returns : goal.returns
returns c = λ r h. sections-there r _ h
