-- `counts_call::tally` meets its contract: from entry to entry the counts are those of the entries before.
-- Assumes nothing.
use Rattle.counts_call.proofs.Tallying.{Tallied}
use Rattle.counts_call.proofs.tally.Given as goal

abbrev pub invariant-loop-p : goal.invariant-loop-p
invariant-loop-p l = Tallied l.figures l.n l.p l.counts
