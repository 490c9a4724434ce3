-- `check_text::line_ends` meets its contract. The loop's invariant: up to the place reached there is no line end.
-- Assumes nothing.
use Rattle.check_text.proofs.Ends.{NotYet}
use Rattle.check_text.proofs.line_ends.Given as goal

abbrev pub invariant-loop-at : goal.invariant-loop-at
invariant-loop-at l = NotYet l.text l.from l.at
