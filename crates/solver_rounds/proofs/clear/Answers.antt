-- `solver_rounds::clear` meets its contract: the tables are cleared from the first code on, up to the last. Assumes nothing.
use native.Mathlib.Omega.{arith}
use Rattle.solver_rounds.proofs.Clearing.{clearing-end}
use Rattle.solver_rounds.proofs.clear.Goals as goal

pub returns : goal.returns
returns c =
    clearing-end c.args.table.now c.args.m c.args.figures.now c.args.settings.now _ _ _
    c.loop-p.invariant (omega arith)
