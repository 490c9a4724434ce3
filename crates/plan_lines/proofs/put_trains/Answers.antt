-- `plan_lines::put_trains` meets its contract. The loop's invariant: the pieces before t are written, and the buffer is as long as it was.
-- Assumes nothing.
use native.Mathlib.Omega.{arith}
use mathlib.Core.Path.{refl, ◌∙◌}
use Rattle.text.proofs.Appending.{pieces_none, pieces-next, pieces-all}
use Rattle.game_tables.specs.Entries.{opens_in}
use Rattle.plan_lines.specs.Spelling.{open_piece}
use Rattle.plan_lines.proofs.put_trains.Goals as goal

pub loop-t-init : goal.loop-t-init
loop-t-init c = (pieces_none (open_piece (opens_in c.args.v)), refl)

pub loop-t-preserved : goal.loop-t-preserved
loop-t-preserved c = (
  pieces-next (open_piece (opens_in c.args.v)) c.loop-t.t c.loop-t.invariant.0 c.put_train-next.ensures,
  c.put_train-next.auto.out ∙ c.loop-t.invariant.1,
)

pub returns : goal.returns
returns c = pieces-all (open_piece (opens_in c.args.v)) c.loop-t.t c.args.k (omega arith) (omega arith) c.loop-t.invariant.0
