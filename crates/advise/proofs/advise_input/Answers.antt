-- `advise::advise_input` meets its contract: what came in is a case text, and all that is written for it stands in the buffer that is written out, which has room for it.
-- Assumes nothing.
use mathlib.Core.Path.{refl, ◌∙◌}
use Rattle.answer_lines.proofs.Puts.{own-length, own_room, written-for}
use Rattle.answer_output.proofs.Whole.{stands-whole}
use Rattle.advise.proofs.advise_input.Goals as goal

pub returns : goal.returns
returns c =
    written-for _ _ _ _ (c.read_full-came.auto.buf ∙ own-length _ _ refl) c.read_full-came.ensures.0
    (stands-whole c.case_advice-put.ensures (own_room _ _ refl) _ c.front_bytes.ensures)
