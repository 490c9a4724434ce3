-- `railway_acceptance::loose_port` meets its contract: the three ports of a point stand one behind the other.
-- Assumes nothing.
use Rattle.railway_acceptance.proofs.Bytes.{port-loose, no-port-loose}
use Rattle.railway_acceptance.proofs.loose_port.Goals as goal

pub returns-then-n-lt-POINTS : goal.returns-then-n-lt-POINTS
returns-then-n-lt-POINTS c =
    λ r h.
    port-loose r _ c.if-n-lt-POINTS.true _ _ _ (c.is_loose.ensures r h) (c.is_loose-then-n-lt-POINTS.ensures r h) (c.is_loose-then-n-lt-POINTS-2.ensures r h)

pub returns-else-n-lt-POINTS : goal.returns-else-n-lt-POINTS
returns-else-n-lt-POINTS c = λ r h. no-port-loose r _ c.if-n-lt-POINTS.false
