-- `plan_lines::placement_line` meets its contract: the fields, one behind the other.
-- Assumes nothing.
use Rattle.plan_lines.proofs.Spelling.{placement-spelled}
use Rattle.plan_lines.proofs.placement_line.Goals as goal

pub returns : goal.returns
returns c =
    placement-spelled c.args.k c.args.m c.args.q c.args.n c.args.v c.put_sections-a.ensures c.number-b.ensures
    c.put_open-c.ensures c.byte-d.ensures c.put_points-e.ensures c.byte.ensures
