-- `check_io::write_verdict` meets its contract: its buffers are as long as they have to be.
-- Assumes nothing.
use native.Mathlib.Omega.{arith}
use Prim.Native.Nat.{ℕ}
use lib.ListN.{length-replicate}
use Rattle.check_io.proofs.write_verdict.Goals as goal

pub check_input-requires : goal.check_input-requires
check_input-requires c = (length-replicate {A = ℕ} 4097 0, length-replicate {A = ℕ} 368686 0, omega arith)
