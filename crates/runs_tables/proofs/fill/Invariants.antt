-- `runs_tables::fill` meets its contract. The loop's invariant: the rows below x are those of their sections. Assumes nothing.
use Rattle.railway.specs.declared.Railway.{Railway}
use Rattle.runs_tables.specs.Filling.{Lent}
use Rattle.runs_tables.proofs.Steps.{TableTo}
use Rattle.runs_tables.proofs.fill.Given as goal

abbrev pub invariant-loop-x : goal.invariant-loop-x
invariant-loop-x l = (r : Railway) → Lent r l.ways l.sections → TableTo r l.heading l.x l.all
