-- `railway_compiled::stand_in` meets its contract: within the bounds the table has it there.
-- Assumes nothing.
use Rattle.railway_compiled.proofs.Table.{stand-there}
use Rattle.railway_compiled.proofs.stand_in.Goals as goal

pub returns : goal.returns
returns c = λ r h. stand-there r _ h c.args.t c.args.x c.if-t-ge-TRAINS.false c.if-x-ge-SECTIONS.false
