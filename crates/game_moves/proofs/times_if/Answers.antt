-- `game_moves::times_if` meets its contract: the product of a byte and a number of 24 bits fits.
-- Assumes nothing.
use native.Mathlib.Omega.{arith}
use Rattle.game_moves.proofs.Coding.{times-fits}
use Rattle.game_moves.proofs.times_if.Goals as goal

pub overflow_mul-result : goal.overflow_mul-result
overflow_mul-result c = omega (arith, times-fits 16581375 255 {a = c.args.w} {b = c.args.s} (omega arith) (omega arith))

pub returns-then-more : goal.returns-then-more
returns-then-more c = rw c.if-more.true
