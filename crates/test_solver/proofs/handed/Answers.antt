-- `test_solver::handed` is safe: the lines that were written are as long as the call said. Assumes nothing.
use native.Mathlib.Omega.{arith}
use lib.ListN.{length-take}
use Rattle.test_solver.proofs.handed.Goals as goal

pub slice_bounds-take_plan_lines-end : goal.slice_bounds-take_plan_lines-end
slice_bounds-take_plan_lines-end c = simp length-take (omega arith)
