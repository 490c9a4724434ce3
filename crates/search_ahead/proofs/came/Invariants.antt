-- `search_ahead::came` meets its contract. The loop's invariant: no placement with a code below c has figure n.
-- Assumes nothing.
use Prim.Native.Nat.{◌-◌}
use Rattle.search_ahead.proofs.Finding.{NoneTo}
use Rattle.search_ahead.proofs.came.Given as goal

abbrev pub invariant-loop-c : goal.invariant-loop-c
invariant-loop-c l = NoneTo l.table l.figures l.marks l.n l.c

abbrev pub decreases-loop-c : goal.decreases-loop-c
decreases-loop-c l = l.m - l.c
