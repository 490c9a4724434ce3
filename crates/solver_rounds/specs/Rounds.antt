-- What a round leaves behind. Nothing of document 01 rests on this file: contracts of single steps cite it, and
-- the solver's own is `SolverPost` (game_tables/Solver). Assumes nothing.
use Rattle.std.specs.Prelude.{List, ℕ, ◌≤◌, ◌<◌}
use Rattle.railway.specs.declared.Railway.{Railway}
use Rattle.game_tables.specs.Solver.{Kept}
use Rattle.game_tables.specs.Rounds.{RoundTables, Due}

-- What n rounds have made of two lent tables.
pub record After (r : Railway) (n : ℕ) (figs sets figs' sets' : List ℕ) : Type 0 where
  pub tables : RoundTables r n figs' sets'
  pub kept-figs : Kept r figs figs'
  pub kept_sets : Kept r sets sets'

-- What round n leaves: the tables of round n, and the number of a later round, before which none is due.
pub record RoundPost (r : Railway) (n : ℕ) (figs sets figs' sets' : List ℕ) (next : ℕ) : Type 0 where
  pub after : After r n figs sets figs' sets'
  pub quiet : (k : ℕ) → Due r figs' k → n < k → next ≤ k
