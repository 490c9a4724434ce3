-- `plan_emitter::next_code` meets its contract. The loop's invariant: no placement from c on before p has a figure.
-- Assumes nothing.
use native.Mathlib.Omega.{arith}
use Rattle.plan_emitter.proofs.Next.{next_start, next-step, next-found, next-none}
use Rattle.plan_emitter.proofs.next_code.Goals as goal

pub loop-p-init : goal.loop-p-init
loop-p-init c = next_start c.args.figures.now c.args.c

pub returns-then-has_figure : goal.returns-then-has_figure
returns-then-has_figure c = (
  c.loop-p-test.true,
  next-found c.args.figures.now c.args.c c.loop-p.p (omega arith) c.loop-p.invariant _
      c.has_figure.ensures c.args.total c.if-has_figure.true c.loop-p-test.true,
)

pub loop-p-preserved : goal.loop-p-preserved
loop-p-preserved c =
    next-step c.args.figures.now c.args.c c.loop-p.p (omega arith) c.loop-p.invariant _
    c.has_figure.ensures c.if-has_figure.false

pub returns : goal.returns
returns c = next-none c.args.figures.now c.args.c c.loop-p.p (omega arith) c.loop-p.invariant c.args.total c.loop-p-test.false
