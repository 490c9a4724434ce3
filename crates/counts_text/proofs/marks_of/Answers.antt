-- `counts_text::marks_of` meets its contract: a part of all that lead home, or all.
-- Assumes nothing.
use Rattle.counts_text.proofs.Chart.{marks-part, marks-all}
use Rattle.counts_text.proofs.marks_of.Goals as goal

pub returns-then-count-home : goal.returns-then-count-home
returns-then-count-home c = marks-part _ _ c.if-count-home.true

pub returns : goal.returns
returns c = marks-all _ _ c.if-count-home.false
