-- `game_moves::leads_to` meets its contract: the ways of the end that the train heads for say so.
-- Assumes nothing.
use Rattle.game_moves.proofs.Moving.{leads-is}
use Rattle.game_moves.proofs.leads_to.Goals as goal

pub returns : goal.returns
returns c = λ r p h ways. leads-is r p _ _ h _ _ _ _ (c.front_in.ensures r p h) (c.section_by.ensures.found r ways)
