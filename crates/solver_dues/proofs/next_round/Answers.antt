-- `solver_dues::next_round` meets its contract. The loop's invariant: so it is by the weights of the trains before t.
-- Assumes nothing.
use native.Mathlib.Omega.{arith}
use Rattle.solver_dues.proofs.Dues.{next_more}
use Rattle.solver_dues.proofs.next_round.Goals as goal

pub loop-t-preserved : goal.loop-t-preserved
loop-t-preserved c = (
  λ x. let a = c.loop-t.invariant.0 x in let b = c.next_by.ensures.0 x in omega arith,
  λ r h. next_more r c.args.marks.now c.args.m c.args.n _ _ _ _ (c.loop-t.invariant.1 r h) (omega arith) (omega arith) (c.next_by.ensures.1 r h),
)

pub returns : goal.returns
returns c = (c.loop-t.invariant.0, λ r h t q i lt. c.loop-t.invariant.1 r h t q i (omega (arith, c.trains_in-t-end.ensures r h, c.loop-t-test.false)))
