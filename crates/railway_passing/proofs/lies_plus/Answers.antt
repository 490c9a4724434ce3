-- `railway_passing::lies_plus` meets its contract: a number of 32 bits has no bit past them. Assumes nothing.
use native.Mathlib.Omega.{arith}
use Rattle.railway_passing.proofs.Answers.{bit_high}
use Rattle.railway_passing.proofs.lies_plus.Goals as goal

pub returns-then-at-ge32 : goal.returns-then-at-ge32
returns-then-at-ge32 c = bit_high c.args.points _ (omega arith) c.if-at-ge32.true
