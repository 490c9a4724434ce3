-- `counts_text::together` meets its contract: from figure to figure the sum is that of the counts before. Sixteen bits more than a count has hold it.
-- Assumes nothing.
use Rattle.counts_text.proofs.Chart.{Summed}
use Rattle.counts_text.proofs.together.Given as goal

abbrev pub invariant-loop-j : goal.invariant-loop-j
invariant-loop-j l = Summed l.counts l.first l.j l.sum
