-- `railway_compiled::roster_in` meets its contract: the table has it there; past the table stands no train.
-- Assumes nothing.
use Rattle.std.proofs.Common.{rules}
use Rattle.railway_compiled.proofs.Table.{roster-there, no-heading, no-section, no-weight}
use Rattle.railway_compiled.proofs.roster_in.Goals as goal

pub returns-then-t-lt-TRAINS : goal.returns-then-t-lt-TRAINS
returns-then-t-lt-TRAINS c = λ r h. roster-there r _ h c.args.i c.args.t c.requires c.if-t-lt-TRAINS.true

pub returns-in-0 : goal.returns-in-0
returns-in-0 c = λ r h. no-heading r _ _ _ h c.if-t-lt-TRAINS.false c.in-0.is

pub returns-in-3 : goal.returns-in-3
returns-in-3 c = λ r h. no-weight r _ _ _ h c.if-t-lt-TRAINS.false c.in-3.is

pub returns-in_default : goal.returns-in_default
returns-in_default c =
    λ r h.
    no-section r _ _ _ h c.if-t-lt-TRAINS.false c.requires (search rules) (search rules)
