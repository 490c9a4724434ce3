-- `thin_call::train_bit` meets its contract, by whether a railway can have the train.
-- Assumes nothing.
use native.Mathlib.Omega.{arith}
use Rattle.thin_call.proofs.Entries.{bit-small, bit_is}
use Rattle.thin_call.proofs.train_bit.Goals as goal

pub overflow_mul-result : goal.overflow_mul-result
overflow_mul-result c = omega (arith, bit-small c.args.t c.if-t-ge-TRAINS.false)

pub returns : goal.returns
returns c = (bit-small c.args.t c.if-t-ge-TRAINS.false, bit_is c.args.t)
