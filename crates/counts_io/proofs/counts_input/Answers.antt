-- `counts_io::counts_input` meets its contract: what came in is a case text, and all that is written for it stands in the buffer that is written out.
-- Assumes nothing.
use native.Mathlib.Omega.{arith}
use lib.ListN.{length-take}
use mathlib.Core.Path.{◌∙◌}
use Rattle.answer_lines.proofs.Puts.{written-for}
use Rattle.counts_io.proofs.counts_input.Goals as goal

pub slice_bounds-write_all-end-2 : goal.slice_bounds-write_all-end-2
slice_bounds-write_all-end-2 c = let h = c.case_text-n.ensures.within in simp length-take (omega (arith, h))

pub returns : goal.returns
returns c = written-for _ _ _ _ (c.read_full-came.auto.buf ∙ c.requires.case_len) c.read_full-came.ensures.0 c.case_text-n.ensures
