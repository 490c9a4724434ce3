-- `thin_call::thin_table` meets its contract. The loop's invariant: the entries before p are thinned, and the rest is as it was.
-- Assumes nothing.
use native.Mathlib.Omega.{arith}
use mathlib.Core.Path.{refl}
use Rattle.thin_call.proofs.Passes.{thin-none, thin-put, put-length, thin-all}
use Rattle.thin_call.proofs.thin_table.Goals as goal

pub loop-p-init : goal.loop-p-init
loop-p-init c = (refl, λ r h l. thin-none r _ _)

pub loop-p-preserved : goal.loop-p-preserved
loop-p-preserved c = (
  put-length c.args.settings.now c.loop-p.settings c.put.new.table c.loop-p.p c.entry_at-v.result
      c.put.ensures c.loop-p.invariant.0,
  λ r h k. thin-put r _ _ _ c.loop-p.p (c.loop-p.invariant.1 r h k) (c.placements-p-end.ensures r h) k
      c.loop-p-test.true _ (c.entry_at-v.ensures r h) _ c.put.ensures,
)

pub returns : goal.returns
returns c = λ r h k. thin-all r _ _ _ _ (c.loop-p.invariant.1 r h k) (let e = c.placements-p-end.ensures r h in omega arith)
