-- `desk_lines::put_points` meets its contract, by whether there are points.
-- Assumes nothing.
use Rattle.text.specs.Text.{bytes}
use Rattle.desk_lines.proofs.Panel.{points_none, points-some}
use Rattle.desk_lines.proofs.put_points.Goals as goal

pub returns-then-m-eq0 : goal.returns-then-m-eq0
unfolding bytes
returns-then-m-eq0 c = points_none c.args.m c.args.v c.if-m-eq0.true c.bytes.ensures

pub returns : goal.returns
returns c = points-some c.args.m c.args.v c.if-m-eq0.false c.put_signs.ensures
