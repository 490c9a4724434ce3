-- `search_ahead::stands_in` meets its contract. The loop's invariant: no entry before c is n. Assumes nothing.
use Rattle.search_ahead.proofs.Finding.{Others}
use Rattle.search_ahead.proofs.stands_in.Given as goal

abbrev pub invariant-loop-c : goal.invariant-loop-c
invariant-loop-c l = Others l.figures l.n l.from l.c
