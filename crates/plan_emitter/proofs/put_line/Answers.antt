-- `plan_emitter::put_line` meets its contract: space with nothing written, or the line in front of what was there.
-- Assumes nothing.
use Rattle.plan_emitter.proofs.Copying.{line-short, line-put}
use Rattle.plan_emitter.proofs.put_line.Goals as goal

pub returns-then-out-line : goal.returns-then-out-line
returns-then-out-line c = line-short c.args.line.now c.args.next c.args.out.now c.if-out-line.true

pub returns : goal.returns
returns c = line-put c.args.line.now c.args.next c.args.out.now c.if-out-line.false c.bytes.ensures
