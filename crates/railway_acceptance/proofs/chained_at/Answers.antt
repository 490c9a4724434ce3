-- `railway_acceptance::chained_at` meets its contract: the three ports of a point stand one behind the other.
-- Assumes nothing.
use Rattle.railway_acceptance.proofs.Bytes.{port-chained, no-port-chained}
use Rattle.railway_acceptance.proofs.chained_at.Goals as goal

pub returns-then-n-lt-POINTS : goal.returns-then-n-lt-POINTS
returns-then-n-lt-POINTS c =
    λ r h.
    port-chained r _ c.if-n-lt-POINTS.true _ _ _ (c.is_long.ensures r h) (c.is_long-then-n-lt-POINTS.ensures r h) (c.is_long-then-n-lt-POINTS-2.ensures r h)

pub returns-else-n-lt-POINTS : goal.returns-else-n-lt-POINTS
returns-else-n-lt-POINTS c = λ r h. no-port-chained r _ c.if-n-lt-POINTS.false
