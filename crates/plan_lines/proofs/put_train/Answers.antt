-- `plan_lines::put_train` meets its contract: a digit where the train's bit is set, else nothing.
-- Assumes nothing.
use native.Mathlib.Omega.{arith}
use Rattle.game_tables.specs.Entries.{opens_in}
use Rattle.plan_lines.proofs.Spelling.{train-open, train-closed, open-digit}
use Rattle.plan_lines.proofs.put_train.Goals as goal

pub overflow_add-t-then-bit_at : goal.overflow_add-t-then-bit_at
overflow_add-t-then-bit_at c =
    let h = open-digit c.args.v c.args.t _ (omega arith) c.bit_at.ensures c.if-bit_at.true in
    omega arith

pub returns-then-bit_at : goal.returns-then-bit_at
returns-then-bit_at c = train-open (opens_in c.args.v) c.args.t _ c.bit_at.ensures c.if-bit_at.true c.byte.ensures

pub returns-else-bit_at : goal.returns-else-bit_at
returns-else-bit_at c = train-closed (opens_in c.args.v) c.args.t _ c.bit_at.ensures c.if-bit_at.false
