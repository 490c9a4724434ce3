-- `game_moves::code_put` meets its contract: nothing runs over, for a byte times a number of 32 bits is one of 40.
-- Assumes nothing.
use native.Mathlib.Omega.{arith}
use Rattle.game_moves.proofs.Coding.{times-fits, put-less, put-code, put-large}
use Rattle.game_moves.proofs.code_put.Goals as goal

pub overflow_mul-more : goal.overflow_mul-more
overflow_mul-more c = omega (arith, times-fits 255 4294967295 {a = c.args.y} {b = c.args.stride} (omega (arith, c.ranges.y)) (omega (arith, c.ranges.stride)))

pub overflow_add-more : goal.overflow_add-more
overflow_add-more c = omega (arith, c.ranges.c, times-fits 255 4294967295 {a = c.args.y} {b = c.args.stride} (omega (arith, c.ranges.y)) (omega (arith, c.ranges.stride)))

pub overflow_mul-less : goal.overflow_mul-less
overflow_mul-less c = omega (arith, times-fits 255 4294967295 {a = c.args.x} {b = c.args.stride} (omega (arith, c.ranges.x)) (omega (arith, c.ranges.stride)))

pub returns-then-more-less : goal.returns-then-more-less
returns-then-more-less c = put-less c.args.c c.args.stride c.args.x c.args.y c.if-more-less.true

pub returns-then-p : goal.returns-then-p
returns-then-p c = put-code c.args.c c.args.stride c.args.x c.args.y c.if-more-less.false c.if-p.true

pub returns-else-p : goal.returns-else-p
returns-else-p c = put-large c.args.c c.args.stride c.args.x c.args.y c.if-more-less.false c.if-p.false
