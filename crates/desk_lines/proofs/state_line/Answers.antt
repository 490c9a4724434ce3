-- `desk_lines::state_line` meets its contract: the trains, the figure, the words, the points and the end.
-- Assumes nothing.
use Rattle.text.specs.Text.{bytes}
use Rattle.desk_lines.proofs.Panel.{state-made}
use Rattle.desk_lines.proofs.state_line.Goals as goal

pub returns : goal.returns
unfolding bytes
returns c =
    state-made c.args.k c.args.m c.args.q c.args.n c.args.v c.put_trains-a.ensures c.number-b.ensures c.bytes-c.ensures
    c.put_points-d.ensures c.byte.ensures
