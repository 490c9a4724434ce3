-- `test_solver::lend` is safe: a part of a table is as long as it says.
-- Assumes nothing.
use native.Mathlib.Omega.{arith}
use lib.ListN.{length-take}
use Rattle.test_solver.proofs.lend.Goals as goal

pub slice_bounds-solve-end-then-m-settings : goal.slice_bounds-solve-end-then-m-settings
slice_bounds-solve-end-then-m-settings c = simp length-take (omega arith)

pub slice_bounds-solve-end-then-m-settings-3 : goal.slice_bounds-solve-end-then-m-settings-3
slice_bounds-solve-end-then-m-settings-3 c = simp length-take (omega arith)
