-- `game_moves::code_of` meets its contract: no train is put elsewhere.
-- Assumes nothing.
use Rattle.game_moves.proofs.Placing.{code-unmoved}
use Rattle.game_moves.proofs.code_of.Goals as goal

pub returns : goal.returns
returns c = λ r h. code-unmoved r _ h c.args.q _ (c.code_with.ensures r h)
