-- `plan_reader::opens_at` meets its contract. The loop's invariant: what is to be read from here on is what was to be read where the loop began, and the
-- bits so far are below the next train's.
-- Assumes nothing.
use Rattle.plan_reader.proofs.Taking.{OpensTo}
use Rattle.plan_reader.proofs.opens_at.Given as goal

abbrev pub invariant-loop-t : goal.invariant-loop-t
invariant-loop-t l = OpensTo l.text l.k l.initial.at l.at l.v l.t
