-- `railway_acceptance::is_loose` meets its contract: the byte is past the last end's.
-- Assumes nothing.
use Rattle.railway_acceptance.proofs.Bytes.{loose-byte}
use Rattle.railway_acceptance.proofs.is_loose.Goals as goal

pub returns : goal.returns
returns c = λ r h. loose-byte r _ _ (c.link_in.ensures r h)
