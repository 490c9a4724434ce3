-- `railway_acceptance::unknown_link` meets its contract: where there is a link, both its ends are asked for.
-- Assumes nothing.
use Rattle.railway_acceptance.proofs.Bytes.{none-unknown, link-unknown}
use Rattle.railway_acceptance.proofs.unknown_link.Goals as goal

pub returns-then-j-lt-ENDS : goal.returns-then-j-lt-ENDS
returns-then-j-lt-ENDS c =
    λ r h k.
    link-unknown r _ _ (c.link_in-j.ensures r h) c.if-j-lt-ENDS.true _ _ (c.known_at.ensures r k)
    (c.known_at-then-j-lt-ENDS.ensures r k)

pub returns-else-j-lt-ENDS : goal.returns-else-j-lt-ENDS
returns-else-j-lt-ENDS c = λ r h k. none-unknown r _ _ (c.link_in-j.ensures r h) c.if-j-lt-ENDS.false
