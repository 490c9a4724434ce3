-- `plan_lines::sign` meets its contract, at plus and at minus.
-- Assumes nothing.
use Rattle.plan_lines.proofs.Spelling.{sign-plus, sign-minus}
use Rattle.plan_lines.proofs.sign.Goals as goal

pub returns-then-plus : goal.returns-then-plus
returns-then-plus c = sign-plus c.args.plus c.if-plus.true

pub returns-else-plus : goal.returns-else-plus
returns-else-plus c = sign-minus c.args.plus c.if-plus.false
