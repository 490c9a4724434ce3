-- `railway_compiled::tail_byte` meets its contract: the counts first, then the trains' own bytes.
-- Assumes nothing.
use native.Mathlib.Omega.{arith}
use Prim.Native.Nat.{◌-◌, ◌%◌}
use Rattle.railway_compiled.specs.Table.{count_bytes}
use Rattle.railway_compiled.proofs.Table.{for-count, for-roster}
use Rattle.railway_compiled.proofs.tail_byte.Goals as goal

pub returns-then-i-lt-ROSTER : goal.returns-then-i-lt-ROSTER
returns-then-i-lt-ROSTER c = λ r h k. for-count r _ _ c.requires.stand_bytes_le_i c.if-i-lt-ROSTER.true (c.count_byte.ensures r h)

pub returns : goal.returns
returns c =
    λ r h k.
    let i = c.args.i in
    for-roster r _ _ c.requires.stand_bytes_le_i c.if-i-lt-ROSTER.false
    (c.roster_byte.ensures r ((i - count_bytes) % 4) (k.each ((i - count_bytes) % 4) _ (omega arith)))
