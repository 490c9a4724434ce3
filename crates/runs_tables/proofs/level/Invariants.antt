-- `runs_tables::level` meets its contract. The loop's invariant: the sections below y have been left, or passed by. Assumes nothing.
use Prim.Native.Nat.{ℕ, ◌<◌}
use Rattle.railway.specs.declared.Railway.{Railway}
use Rattle.runs_tables.specs.Filling.{Lent, RowTo, LevelTo}
use Rattle.runs_tables.proofs.level.Given as goal

abbrev pub invariant-loop-y : goal.invariant-loop-y
invariant-loop-y l = (r : Railway) (x s : ℕ) → Lent r l.ways s → l.n < s → RowTo r l.heading x l.n l.initial.row → LevelTo r l.heading x l.n l.y l.row
