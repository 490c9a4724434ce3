-- `solver_rounds::pass_blocks` meets its contract. The loop's invariant: the codes from c to e have other figures.
-- Assumes nothing.
use native.Mathlib.Omega.{arith}
use Prim.Native.Nat.{◌+◌}
use Rattle.solver_rounds.proofs.Loops.{passed-more, none-within}
use Rattle.solver_rounds.proofs.pass_blocks.Goals as goal

pub loop-e-preserved : goal.loop-e-preserved
loop-e-preserved c = (
  omega (arith, c.loop-e.invariant.0),
  passed-more c.args.figures.now c.args.figure c.args.c c.loop-e.e (c.loop-e.e + 16) c.loop-e.invariant.1 (none-within c.args.figures.now c.args.figure c.loop-e.e c.args.upto 16 c.requires (omega arith) (c.has_figure.ensures c.if-has_figure.false)),
)
