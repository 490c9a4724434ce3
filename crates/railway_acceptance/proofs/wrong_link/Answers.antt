-- `railway_acceptance::wrong_link` meets its contract: where there is a link, its two ends are looked at.
-- Assumes nothing.
use Rattle.railway_acceptance.proofs.Bytes.{none-wrong, link-wrong}
use Rattle.railway_acceptance.proofs.wrong_link.Goals as goal

pub returns-then-j-lt-ENDS : goal.returns-then-j-lt-ENDS
returns-then-j-lt-ENDS c =
    λ r h k.
    link-wrong r _ _ (c.link_in-j.ensures r h) c.if-j-lt-ENDS.true _ (c.wrong_at.ensures r k)

pub returns-else-j-lt-ENDS : goal.returns-else-j-lt-ENDS
returns-else-j-lt-ENDS c = λ r h k. none-wrong r _ _ (c.link_in-j.ensures r h) c.if-j-lt-ENDS.false
