-- `plan_reader::word_at` meets its contract. The loop's invariant: what is to be read from here on is what was to be read where the loop began.
-- Assumes nothing.
use Rattle.plan_reader.proofs.Taking.{WordTo}
use Rattle.plan_reader.proofs.word_at.Given as goal

abbrev pub invariant-loop-b : goal.invariant-loop-b
invariant-loop-b l = WordTo l.text l.word l.initial.at.at l.at.at l.b-index
