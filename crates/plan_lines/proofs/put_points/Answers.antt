-- `plan_lines::put_points` meets its contract: the dot, or the points' signs.
-- Assumes nothing.
use Rattle.laws.specs.Bits.{bit}
use Rattle.plan_lines.proofs.Spelling.{points_none, points-some}
use Rattle.plan_lines.proofs.put_points.Goals as goal

pub returns-then-m-eq0 : goal.returns-then-m-eq0
returns-then-m-eq0 c = points_none (bit c.args.v) c.args.m c.if-m-eq0.true c.byte.ensures

pub returns : goal.returns
returns c = points-some (bit c.args.v) c.args.m c.if-m-eq0.false c.put_signs.ensures
