-- `plan_lines::put_sections` meets its contract. The loop's invariant: the pieces before t are written, and the buffer is as long as it was.
-- Assumes nothing.
use native.Mathlib.Omega.{arith}
use mathlib.Core.Path.{refl, ◌∙◌}
use Rattle.text.proofs.Appending.{pieces_none, pieces-next, pieces-all}
use Rattle.plan_lines.specs.Spelling.{section_piece}
use Rattle.plan_lines.proofs.Spelling.{section-piece}
use Rattle.plan_lines.proofs.put_sections.Goals as goal

pub loop-t-init : goal.loop-t-init
loop-t-init c = (pieces_none (section_piece c.args.q), refl)

pub loop-t-preserved : goal.loop-t-preserved
loop-t-preserved c = (
  pieces-next (section_piece c.args.q) c.loop-t.t c.loop-t.invariant.0
      (section-piece c.args.q c.loop-t.t _ c.section_at.ensures c.number-next.ensures),
  c.number-next.auto.out ∙ c.loop-t.invariant.1,
)

pub returns : goal.returns
returns c = pieces-all (section_piece c.args.q) c.loop-t.t c.args.k (omega arith) (omega arith) c.loop-t.invariant.0
