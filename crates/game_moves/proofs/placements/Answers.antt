-- `game_moves::placements` meets its contract, by the counts in the table.
-- Assumes nothing.
use mathlib.Core.Path.{◌∙◌}
use Rattle.game_moves.proofs.Coding.{stride-is}
use Rattle.game_moves.proofs.Placing.{placements-are, few-trains}
use Rattle.game_moves.proofs.placements.Goals as goal

pub returns : goal.returns
returns c =
    λ r h. placements-are r _ _ _ (c.sections_in.ensures r h) (c.trains_in.ensures r h)
    (c.power.ensures ∙ stride-is _ _ (few-trains r _ h _ (c.trains_in.ensures r h)))
