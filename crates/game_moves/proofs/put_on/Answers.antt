-- `game_moves::put_on` meets its contract, train by train.
-- Assumes nothing.
use Rattle.game_placement.proofs.ByValue.{placement-length}
use Rattle.game_moves.proofs.Placing.{put-each}
use Rattle.game_moves.proofs.put_on.Goals as goal

pub returns : goal.returns
returns c = put-each c.args.q c.args.t c.args.x _ _ _ _ c.moved_to.ensures c.moved_to-2.ensures c.moved_to-3.ensures c.moved_to-4.ensures (placement-length c.args.q _ c.well_formed.0)
