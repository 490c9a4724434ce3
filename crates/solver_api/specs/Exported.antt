-- What `solve_case` promises, by what reader and solver promise: the reader's rows judge the text, those of the case its railway and the tables,
-- and the first that applies is given by its number. Assumes nothing.
use Rattle.std.specs.Prelude.{◌≡◌, List, ℕ}
use Rattle.std.proofs.Math.Option.{Option, none, some, get_or}
use Rattle.railway.specs.declared.Railway.{Railway}
use Rattle.railway.specs.declared.Refusal.{Refusal}
use Rattle.railway.specs.Refusals.{number, number_of}
use Rattle.case_reader.specs.Answers.{ByCase}
use Rattle.game_tables.specs.Tables.{case_refusal}
use Rattle.game_tables.specs.Solver.{SolverTables}

-- What is left in the tables: what was there, or the case's figures and settings.
abbrev pub Leaves : Railway → List ℕ → List ℕ → List ℕ → List ℕ → Option Refusal → Type 0
Leaves r figs sets figs' sets' (some f) = (figs' ≡ figs) × (sets' ≡ sets)
Leaves r figs sets figs' sets' none = SolverTables r figs sets figs' sets'

-- A railway and two tables are answered with n: the number that is given, or 0.
pub record SolvedRailway (r : Railway) (figs sets : List ℕ) (n : ℕ) (figs' sets' : List ℕ) : Type 0 where
  pub numbered : n ≡ get_or (number_of (case_refusal r figs sets)) 0
  pub leaves : Leaves r figs sets figs' sets' (case_refusal r figs sets)

-- A case text and two tables are answered with n: a refused text by its number, both tables as they were; else as its railway.
abbrev pub SolvedText : List ℕ → List ℕ → List ℕ → ℕ → List ℕ → List ℕ → Type 0
SolvedText text figs sets n figs' sets' = ByCase text (λ f. (n ≡ number f) × (figs' ≡ figs) × (sets' ≡ sets)) (λ r. SolvedRailway r figs sets n figs' sets')
