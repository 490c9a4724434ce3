-- `runs_tables::levels` meets its contract. The loop's invariant: the row is that of level n. Assumes nothing.
use Prim.Native.Nat.{ℕ}
use Rattle.railway.specs.declared.Railway.{Railway}
use Rattle.runs_tables.specs.Filling.{Lent, RowTo}
use Rattle.runs_tables.proofs.levels.Given as goal

abbrev pub invariant-loop-n : goal.invariant-loop-n
invariant-loop-n l = ((r : Railway) (x : ℕ) → Lent r l.ways l.sections → RowTo r l.heading x 0 l.initial.row → RowTo r l.heading x l.n l.row)
