-- `thin_io::lean_input` meets its contract: what came in is a case text and a plan, and all that is written for them stands in the buffer that is written out.
-- Assumes nothing.
use mathlib.Core.Path.{◌∙◌}
use native.Mathlib.Omega.{arith}
use lib.ListN.{length-take}
use Rattle.thin_io.proofs.Thinned.{thinned}
use Rattle.thin_io.proofs.lean_input.Goals as goal

pub slice_bounds-write_all-end-2 : goal.slice_bounds-write_all-end-2
slice_bounds-write_all-end-2 c =
    let h = c.whole_text-bytes.ensures.within in
    simp length-take (omega (arith, h))

pub returns : goal.returns
returns c =
    thinned _ _ _ _ _ _ (c.read_file-n.auto.buf ∙ c.requires.0) c.read_file-n.ensures.0
    (c.read_full-m.auto.buf ∙ c.requires.1) c.read_full-m.ensures.0 c.whole_text-bytes.ensures
