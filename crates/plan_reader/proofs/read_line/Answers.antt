-- `plan_reader::read_line` meets its contract: the line that begins the text, if it ends where the text does.
-- Assumes nothing.
use mathlib.Core.Path.{◌∙◌}
use Rattle.plan_reader.proofs.Answers.{line-none, line-whole, line-part}
use Rattle.plan_reader.proofs.read_line.Goals as goal

pub returns-in_err-line : goal.returns-in_err-line
returns-in_err-line c = λ r h. c.from_residual.ensures ∙ line-none r h.accepted _ (c.read_at.ensures r h) c.in_err-line.was

pub returns-then-end-text : goal.returns-then-end-text
returns-then-end-text c = λ r h. line-whole r h.accepted _ (c.read_at.ensures r h) _ _ c.in_ok-line.was c.if-end-text.true

pub returns : goal.returns
returns c = λ r h. line-part r h.accepted _ (c.read_at.ensures r h) _ _ c.in_ok-line.was c.if-end-text.false
