-- `desk_calls::desk_on` meets its contract: the code of the placement, and the count at that code.
-- Assumes nothing.
use Rattle.desk_calls.proofs.Desks.{carried}
use Rattle.desk_calls.proofs.desk_on.Goals as goal

pub returns : goal.returns
returns c = λ r h. carried r c.args.at _ _ (c.code_of-p.ensures r h) (c.arrivals.ensures r _ (c.placement_of.ensures r h))
