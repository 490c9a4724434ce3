-- `game_moves::start_code` meets its contract: each train stands on its start.
-- Assumes nothing.
use Rattle.std.proofs.Common.{rules}
use Rattle.railway.specs.Record.{train_of}
use Rattle.game.specs.Placement.{start_code}
use Rattle.game_moves.proofs.Placing.{code-each}
use Rattle.game_moves.proofs.start_code.Goals as goal

pub returns : goal.returns
unfolding start_code
returns c = λ r h. code-each r _ h (λ t. (train_of r t).start.0) _ _ (λ t l. search rules) (c.code_of.ensures r h)
