-- `game_moves::held_in` meets its contract: the table says so of that section.
-- Assumes nothing.
use Rattle.game_moves.proofs.Moving.{held-is}
use Rattle.game_moves.proofs.held_in.Goals as goal

pub returns : goal.returns
returns c = λ r p h. held-is r p _ _ h _ _ c.section_at.ensures _ (c.held_on.ensures r h.compiled)
