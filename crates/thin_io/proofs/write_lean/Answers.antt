-- `thin_io::write_lean` meets its contract: its three buffers are as long as they have to be.
-- Assumes nothing.
use Prim.Native.Nat.{ℕ}
use lib.ListN.{length-replicate}
use Rattle.thin_io.proofs.write_lean.Goals as goal

pub lean_input-requires : goal.lean_input-requires
lean_input-requires c = (length-replicate {A = ℕ} 4097 0, length-replicate {A = ℕ} 368686 0, length-replicate {A = ℕ} 368685 0)
