-- `desk_lines::put_trains` meets its contract. The loop's invariant: the pieces before t are written, and the buffer is as long as it was.
-- Assumes nothing.
use mathlib.Core.Path.{refl, ◌∙◌}
use Rattle.text.proofs.Appending.{pieces_none, pieces-next}
use Rattle.desk_lines.specs.Panel.{train_piece}
use Rattle.desk_lines.proofs.put_trains.Goals as goal

pub loop-t-init : goal.loop-t-init
loop-t-init c = (pieces_none (train_piece c.args.q c.args.v), refl)

pub loop-t-preserved : goal.loop-t-preserved
loop-t-preserved c = (
  pieces-next (train_piece c.args.q c.args.v) c.loop-t.t c.loop-t.invariant.0 c.put_train-next.ensures,
  c.put_train-next.auto.out ∙ c.loop-t.invariant.1,
)
