-- `plan_emitter::put_behind` meets its contract, by the room behind the cursor.
-- Assumes nothing.
use Rattle.plan_emitter.proofs.Putting.{put-past, put-short, put-room}
use Rattle.plan_emitter.proofs.put_behind.Goals as goal

pub returns-then-out-at : goal.returns-then-out-at
returns-then-out-at c = put-past c.args.line.now c.args.out.now c.args.at c.if-out-at.true

pub returns-then-out-at-2 : goal.returns-then-out-at-2
returns-then-out-at-2 c = put-short c.args.line.now c.args.out.now c.args.at c.if-out-at.false c.if-out-at-2.true

pub returns : goal.returns
returns c = put-room c.args.line.now c.args.out.now c.args.at c.if-out-at.false c.if-out-at-2.false c.bytes.ensures
