-- `game_moves::is_home` meets its contract, by the placement.
-- Assumes nothing.
use Rattle.game_moves.proofs.is_home.Goals as goal

pub returns : goal.returns
returns c = λ r h. c.home_in.ensures r _ (c.placement_of.ensures r h)
