-- `desk_calls::sooner` meets its contract: the first refusal where its rank is the lower one, else the other.
-- Assumes nothing.
use Rattle.desk_calls.proofs.Shapes.{is-sooner, not-sooner}
use Rattle.desk_calls.proofs.sooner.Goals as goal

pub returns-then-rank : goal.returns-then-rank
returns-then-rank c = is-sooner c.args.f c.args.g _ _ c.rank.ensures c.rank-2.ensures c.if-rank.true

pub returns-else-rank : goal.returns-else-rank
returns-else-rank c = not-sooner c.args.f c.args.g _ _ c.rank.ensures c.rank-2.ensures c.if-rank.false
