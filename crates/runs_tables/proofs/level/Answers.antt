-- `runs_tables::level` meets its contract. The loop's invariant: the sections below y have been left, or passed by. Assumes nothing.
use native.Mathlib.Numerals.{add-one}
use mathlib.Core.Path.{◌≡◌}
use Prim.Native.Nat.{suc, ◌+◌}
use Rattle.runs_tables.proofs.Steps.{level-begun, level-done}
use Rattle.runs_tables.proofs.level.Goals as goal

pub loop-y-init : goal.loop-y-init
loop-y-init c = λ r x s h l k. level-begun r _ x s _ h _ l _ k

pub loop-y-preserved : goal.loop-y-preserved
loop-y-preserved c =
    λ r x s h b k.
    let e : c.loop-y.y + 1 ≡ suc c.loop-y.y = add-one c.loop-y.y in
    rw e (c.leave.ensures r x s h b (c.loop-y.invariant r x s h b k))

pub returns : goal.returns
returns c = λ r x s h l k. level-done r _ x s _ h _ l _ _ c.loop-y-test.false (c.loop-y.invariant r x s h l k)
