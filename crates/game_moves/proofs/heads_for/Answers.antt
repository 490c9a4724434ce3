-- `game_moves::heads_for` meets its contract, by the placement.
-- Assumes nothing.
use Rattle.game_moves.proofs.heads_for.Goals as goal

pub returns : goal.returns
returns c = λ r h. c.end_in.ensures r _ (c.placement_of.ensures r h)
