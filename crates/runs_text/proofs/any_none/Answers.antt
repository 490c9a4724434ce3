-- `runs_text::any_none` meets its contract. The loop's invariant: no train below t is without a run. Assumes nothing.
use native.Mathlib.Omega.{arith}
use mathlib.Core.Path.{refl}
use borrow.Author.Tests.{eq-eqb, ne_eqb}
use Rattle.laws.specs.Below.{any_below}
use Rattle.laws.proofs.Below.{any_next, any-one}
use Rattle.runs_text.proofs.any_none.Goals as goal

pub loop-t-init : goal.loop-t-init
unfolding any_below
loop-t-init c = refl

pub returns-then-runs-t : goal.returns-then-runs-t
returns-then-runs-t c = any-one _ _ _ (omega arith) (eq-eqb _ _ c.if-runs-t.true)

pub loop-t-preserved : goal.loop-t-preserved
loop-t-preserved c = any_next _ c.loop-t.t c.loop-t.invariant (ne_eqb _ _ c.if-runs-t.false)
