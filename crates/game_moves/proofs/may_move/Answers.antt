-- `game_moves::may_move` meets its contract, by the placement.
-- Assumes nothing.
use Rattle.game_moves.proofs.may_move.Goals as goal

pub returns : goal.returns
returns c = λ r h. c.may_in.ensures r _ (c.placement_of.ensures r h)
