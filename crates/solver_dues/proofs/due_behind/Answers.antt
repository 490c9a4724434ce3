-- `solver_dues::due_behind` meets its contract: no figure is large enough, the very next round, or the least figure that is large enough and the weight.
-- Assumes nothing.
use native.Mathlib.Omega.{arith}
use Rattle.solver_dues.proofs.Dues.{due-none, due-after, due-least}
use Rattle.solver_dues.proofs.due_behind.Goals as goal

pub returns-then-most-lo : goal.returns-then-most-lo
returns-then-most-lo c = λ r h. rw (← (c.weight_in-w.ensures r h)) (due-none c.args.figures.now c.args.most c.args.n _ c.args.from c.args.upto _ _ c.least_ahead-lo.ensures c.if-most-lo.true)

pub returns-then-w-le1 : goal.returns-then-w-le1
returns-then-w-le1 c = λ r h. due-after c.args.figures.now c.args.most c.args.n _ c.args.from c.args.upto _ (λ k l. omega arith)

pub returns : goal.returns
returns c =
    λ r h.
    rw (← (c.weight_in-w.ensures r h)) (due-least c.args.figures.now c.args.most c.args.n _ c.args.from c.args.upto _ _ _
    c.least_ahead-lo.ensures c.least_from.ensures (λ j l. omega arith))
