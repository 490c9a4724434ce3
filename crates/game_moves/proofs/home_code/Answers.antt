-- `game_moves::home_code` meets its contract: each train stands on its destination.
-- Assumes nothing.
use Rattle.std.proofs.Common.{rules}
use Rattle.railway.specs.Record.{train_of}
use Rattle.game_moves.specs.Answers.{home_code}
use Rattle.game_moves.proofs.Placing.{code-each}
use Rattle.game_moves.proofs.home_code.Goals as goal

pub returns : goal.returns
unfolding home_code
returns c = λ r h. code-each r _ h (λ t. (train_of r t).destination.0) _ _ (λ t l. search rules) (c.code_of.ensures r h)
