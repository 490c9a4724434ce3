-- `game_placement::bit_at` meets its contract: past the width no bit is set.
-- Assumes nothing.
use native.Mathlib.Omega.{arith}
use Rattle.game_placement.proofs.ByValue.{bit_high}
use Rattle.game_placement.proofs.bit_at.Goals as goal

pub returns-then-n-ge32 : goal.returns-then-n-ge32
returns-then-n-ge32 c = bit_high c.args.v _ (omega arith) c.if-n-ge32.true
