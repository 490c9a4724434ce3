-- `game_moves::free_in` meets its contract: the table says so of that section.
-- Assumes nothing.
use Rattle.game_moves.proofs.Moving.{free-is}
use Rattle.game_moves.proofs.free_in.Goals as goal

pub returns : goal.returns
returns c = λ r p h. free-is r p _ _ h _ _ c.section_at.ensures _ (c.free_on.ensures r h.compiled)
