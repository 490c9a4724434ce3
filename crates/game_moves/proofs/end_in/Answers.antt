-- `game_moves::end_in` meets its contract, by the section and the heading.
-- Assumes nothing.
use Rattle.game_moves.proofs.Moving.{end_is}
use Rattle.game_moves.proofs.end_in.Goals as goal

pub returns : goal.returns
returns c = λ r p h. end_is r p _ _ h _ _ _ c.section_at-x.ensures (c.heading_in-h.ensures r h.compiled)
