-- `game_moves::move_of` meets its contract, by the placement.
-- Assumes nothing.
use Rattle.game_moves.proofs.move_of.Goals as goal

pub returns : goal.returns
returns c = λ r h. c.move_in.ensures r _ (c.placement_of.ensures r h)
