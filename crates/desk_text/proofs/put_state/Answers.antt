-- `desk_text::put_state` meets its contract: the line stands whole in a buffer of its own, and what is put from there is the line.
-- Assumes nothing.
use Rattle.text.proofs.Appending.{front_fits, front_cut}
use Rattle.answer_lines.proofs.Lines.{made-put}
use Rattle.desk_lines.proofs.Panel.{state-short}
use Rattle.desk_text.proofs.put_state.Goals as goal

pub slice_bounds-line-end : goal.slice_bounds-line-end
slice_bounds-line-end c = front_fits c.state_line-end.ensures c.state_line-end.auto.out

pub slice_bounds-put-end : goal.slice_bounds-put-end
slice_bounds-put-end c = front_cut c.state_line-end.ensures c.state_line-end.auto.out

pub returns : goal.returns
returns c =
    λ trains points.
    made-put c.state_line-end.ensures (state-short c.args.k c.args.m c.args.q c.args.n c.args.v trains points) c.put.ensures
