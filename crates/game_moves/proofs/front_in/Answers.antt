-- `game_moves::front_in` meets its contract, by the end.
-- Assumes nothing.
use mathlib.Core.Path.{◌∙◌, ap}
use Rattle.railway.specs.Ends.{end_index}
use Rattle.game_moves.proofs.front_in.Goals as goal

pub returns : goal.returns
returns c = λ r p h. c.index_of.ensures ∙ ap end_index (c.end_in.ensures r p h)
