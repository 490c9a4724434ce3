-- `solver_dues::next_round` meets its contract. The loop's invariant: so it is by the weights of the trains before t.
-- Assumes nothing.
use Prim.Native.Nat.{◌<◌}
use Rattle.railway.specs.declared.Railway.{Railway}
use Rattle.game_tables.specs.Tables.{no_figure}
use Rattle.railway_compiled.specs.Table.{Compiled}
use Rattle.solver_dues.specs.Dues.{NextBy}
use Rattle.solver_dues.proofs.next_round.Given as goal

abbrev pub invariant-loop-t : goal.invariant-loop-t
invariant-loop-t l = (l.n < no_figure → l.n < l.e) × ((r : Railway) → Compiled r l.table → NextBy r l.marks l.m l.n l.t l.e)
