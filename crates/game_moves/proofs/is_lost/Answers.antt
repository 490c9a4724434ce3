-- `game_moves::is_lost` meets its contract, by the placement.
-- Assumes nothing.
use Rattle.game_moves.proofs.is_lost.Goals as goal

pub returns : goal.returns
returns c = λ r h. c.lost_in.ensures r _ (c.placement_of.ensures r h)
