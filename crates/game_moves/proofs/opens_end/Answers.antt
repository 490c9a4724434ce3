-- `game_moves::opens_end` meets its contract, by the bit and the end.
-- Assumes nothing.
use Rattle.game_moves.proofs.Moving.{opens-if, opens_not}
use Rattle.game_moves.proofs.opens_end.Goals as goal

pub returns-then-bit_at : goal.returns-then-bit_at
returns-then-bit_at c =
    λ r p h.
    opens-if r p _ _ h c.args.v _ _ _ _ c.bit_at.ensures c.if-bit_at.true
    (c.front_in.ensures r p h)

pub returns-else-bit_at : goal.returns-else-bit_at
returns-else-bit_at c = λ r p h. opens_not r p _ _ h c.args.v _ _ _ c.bit_at.ensures c.if-bit_at.false
