-- `game_moves::placement_of` meets its contract, train by train.
-- Assumes nothing.
use Rattle.game_moves.proofs.Placing.{sections-left}
use Rattle.game_moves.proofs.placement_of.Goals as goal

pub returns : goal.returns
returns c =
    λ r h.
    sections-left r _ h _ _ _ (c.sections_in-s.ensures r h) (c.trains_in-k.ensures r h) _ _ _ c.without_first-b.ensures c.without_first-c.ensures c.without_first-d.ensures _ _ _ _
    c.first_section.ensures c.first_section-2.ensures c.first_section-3.ensures c.first_section-4.ensures
