-- `railway_acceptance::is_unreturned` meets its contract: where there is a link, the link of its other end has this end's byte,
-- or it is not returned. Assumes nothing.
use Rattle.railway_acceptance.proofs.Bytes.{none-unreturned, link-unreturned}
use Rattle.railway_acceptance.proofs.is_unreturned.Goals as goal

pub returns-then-j-lt-ENDS : goal.returns-then-j-lt-ENDS
returns-then-j-lt-ENDS c =
    λ r h.
    link-unreturned r _ _ (c.link_in-j.ensures r h) c.if-j-lt-ENDS.true c.requires _
    (c.link_in.ensures r h)

pub returns-else-j-lt-ENDS : goal.returns-else-j-lt-ENDS
returns-else-j-lt-ENDS c = λ r h. none-unreturned r _ _ (c.link_in-j.ensures r h) c.if-j-lt-ENDS.false
