-- `plan_reader::read_at` meets its contract: by its first byte a line is read as a first line or as one for a placement.
-- Assumes nothing.
use mathlib.Core.Path.{sym, ◌∙◌}
use Rattle.plan_reader.proofs.read_at.Goals as goal

pub returns-then-peek-eq112 : goal.returns-then-peek-eq112
returns-then-peek-eq112 c = λ r h. c.start_at.ensures r h.accepted (sym c.peek.ensures ∙ c.if-peek-eq112.true)

pub returns : goal.returns
returns c = λ r h. c.placement_at.ensures r h (λ e. c.if-peek-eq112.false (c.peek.ensures ∙ e))
