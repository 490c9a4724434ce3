-- `runs_tables::levels` meets its contract. The loop's invariant: the row is that of level n. Assumes nothing.
use native.Mathlib.Omega.{arith}
use native.Mathlib.Numerals.{add-one}
use mathlib.Core.Path.{◌≡◌}
use Prim.Native.Nat.{suc, ◌+◌}
use Rattle.runs_tables.proofs.levels.Goals as goal

pub loop-n-init : goal.loop-n-init
loop-n-init c = λ r x h k. k

pub loop-n-preserved : goal.loop-n-preserved
loop-n-preserved c =
    λ r x h k.
    let e : c.loop-n.n + 1 ≡ suc c.loop-n.n = add-one c.loop-n.n in
    rw e (c.level.ensures r x _ h c.loop-n-test.true (c.loop-n.invariant r x h k))

pub returns : goal.returns
returns c = λ r x h k. let e : c.loop-n.n ≡ c.args.sections = omega arith in rw e at (c.loop-n.invariant r x h k)
