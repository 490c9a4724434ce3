-- `solver_rounds::waits` meets its contract, test by test.
-- Assumes nothing.
use native.Mathlib.Omega.{arith}
use Rattle.solver_rounds.specs.Visits.{outside}
use Rattle.solver_rounds.proofs.Retracing.{waits-read}
use Rattle.solver_rounds.proofs.waits.Goals as goal

pub returns-then-m-p : goal.returns-then-m-p
returns-then-m-p c = outside (omega (arith, c.if-m-p.true))

pub returns : goal.returns
returns c = waits-read c.args.figures.now c.args.m c.args.p c.if-m-p.false c.requires
