-- `counts_io::write_counts` meets its contract: its two buffers are as long as they have to be.
-- Assumes nothing.
use mathlib.Core.Path.{refl}
use Rattle.answer_lines.proofs.Puts.{own-length, own_room}
use Rattle.counts_io.proofs.write_counts.Goals as goal

pub counts_input-requires : goal.counts_input-requires
counts_input-requires c = record { case_len = own-length _ _ refl; chart_bytes_in_bounds = own_room _ _ refl }
