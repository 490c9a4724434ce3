-- `game_moves::code_of_sections` meets its contract: the code of four bytes fits.
-- Assumes nothing.
use native.Mathlib.Omega.{arith}
use Rattle.game_moves.proofs.Coding.{last_fits, third-fits, second_fits}
use Rattle.game_moves.proofs.code_of_sections.Goals as goal

pub overflow_mul-result : goal.overflow_mul-result
overflow_mul-result c = omega (arith, last_fits c.args.s (omega arith) c.args.b c.args.c c.args.d (omega arith) (omega arith) (omega arith))

pub overflow_add-result : goal.overflow_add-result
overflow_add-result c = omega (arith, last_fits c.args.s (omega arith) c.args.b c.args.c c.args.d (omega arith) (omega arith) (omega arith))

pub overflow_mul-result-2 : goal.overflow_mul-result-2
overflow_mul-result-2 c = omega (arith, third-fits c.args.s (omega arith) c.args.b c.args.c c.args.d (omega arith) (omega arith) (omega arith))

pub overflow_add-result-2 : goal.overflow_add-result-2
overflow_add-result-2 c = omega (arith, third-fits c.args.s (omega arith) c.args.b c.args.c c.args.d (omega arith) (omega arith) (omega arith))

pub overflow_mul-result-3 : goal.overflow_mul-result-3
overflow_mul-result-3 c = omega (arith, second_fits c.args.s (omega arith) c.args.b c.args.c c.args.d (omega arith) (omega arith) (omega arith))

pub overflow_add-result-3 : goal.overflow_add-result-3
overflow_add-result-3 c = omega (arith, second_fits c.args.s (omega arith) c.args.b c.args.c c.args.d (omega arith) (omega arith) (omega arith))
