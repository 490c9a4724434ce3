-- `search_progress::so_far` meets its contract: from code to code what is told is that of the codes before.
-- Assumes nothing.
use Rattle.search_progress.specs.Telling.{Tells}
use Rattle.search_progress.proofs.so_far.Given as goal

abbrev pub invariant-loop-p : goal.invariant-loop-p
invariant-loop-p l = Tells l.figures l.p l.a
