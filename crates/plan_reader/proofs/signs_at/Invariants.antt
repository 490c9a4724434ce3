-- `plan_reader::signs_at` meets its contract. The loop's invariant: what is to be read from here on is what was to be read where the loop began, and the
-- bits so far are below the next point's.
-- Assumes nothing.
use Rattle.plan_reader.proofs.Taking.{SignsTo}
use Rattle.plan_reader.proofs.signs_at.Given as goal

abbrev pub invariant-loop-i : goal.invariant-loop-i
invariant-loop-i l = SignsTo l.text l.m l.initial.at l.at l.v l.i
