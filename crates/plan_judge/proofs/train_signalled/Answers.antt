-- `plan_judge::train_signalled` meets its contract, by whether the train is open.
-- Assumes nothing.
use Rattle.game_moves.proofs.Moving.{as-there}
use Rattle.plan_judge.proofs.Testing.{open-signalled, closed-signalled}
use Rattle.plan_judge.proofs.train_signalled.Goals as goal

pub returns-then-bit_at : goal.returns-then-bit_at
returns-then-bit_at c = λ r p on l. open-signalled r p _ _ _ c.bit_at.ensures _ c.if-bit_at.true (as-there r p _ _ on _ l _ _ (c.held_in.ensures r p on))

pub returns-else-bit_at : goal.returns-else-bit_at
returns-else-bit_at c = λ r p on l. closed-signalled r p c.args.v c.args.t _ c.bit_at.ensures c.if-bit_at.false
