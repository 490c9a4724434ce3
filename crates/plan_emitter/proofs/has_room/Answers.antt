-- `plan_emitter::has_room` meets its contract.
-- Assumes nothing.
use Rattle.plan_emitter.proofs.Putting.{room-past, room-left}
use Rattle.plan_emitter.proofs.has_room.Goals as goal

pub returns-then-at-long : goal.returns-then-at-long
returns-then-at-long c = room-left c.args.long c.args.at c.if-at-long.true

pub returns-else-at-long : goal.returns-else-at-long
returns-else-at-long c = room-past c.args.long c.args.at c.if-at-long.false
