-- `test_case_vectors::write` is safe: a part of the buffer is as long as it says.
-- Assumes nothing.
use native.Mathlib.Omega.{arith}
use lib.ListN.{length-take}
use Rattle.test_case_vectors.proofs.write.Goals as goal

pub slice_bounds-write_all-end-then-n-out : goal.slice_bounds-write_all-end-then-n-out
slice_bounds-write_all-end-then-n-out c = simp length-take (omega arith)
