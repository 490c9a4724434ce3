-- `railway_passing::join_of` meets its contract: what the byte of the end's link says. Assumes nothing.
use Rattle.railway_passing.proofs.Answers.{join_is}
use Rattle.railway_passing.proofs.join_of.Goals as goal

pub returns : goal.returns
returns c =
    λ r h.
    join_is r _ c.args.e _ _ _ h c.index_of.ensures (c.link_in.ensures r h) c.joined_by.ensures
