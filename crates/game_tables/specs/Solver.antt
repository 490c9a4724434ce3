-- What a solver promises: the meaning of its answer, and what it leaves in the two lent tables, for every record and all tables (document
-- 01, the numbers that judge a record, then 9, and what stands under their table; "The two tables and the plan"). Assumes nothing.
use Rattle.std.specs.Prelude.{◌≡◌, List, ℕ, ◌≤◌, length, get_or}
use Rattle.std.proofs.Math.Option.{Option, none, some}
use Rattle.railway.specs.declared.Railway.{Railway}
use Rattle.railway.specs.declared.Refusal.{Refusal}
use Rattle.railway.specs.Refusals.{number, number_of}
use Rattle.game.specs.Placement.{placements, start_code}
use Rattle.game_tables.specs.SolverAnswer.{SolverAnswer, Refused, Unsolvable, Figure}
use Rattle.game_tables.specs.Tables.{figure_in, case_refusal, Filled}

-- The number, in the table, of the refusal that an answer gives, if it does.
abbrev pub number_given : SolverAnswer → Option ℕ
number_given (Refused f) = some (number f)
number_given Unsolvable = none
number_given (Figure n) = none

-- The start's figure, if the answer has one.
abbrev pub figure_given : SolverAnswer → Option ℕ
figure_given (Refused f) = none
figure_given Unsolvable = none
figure_given (Figure n) = some n

-- A table that was lent and comes back: as long as before, and the same past the last code.
pub record Kept (r : Railway) (old new : List ℕ) : Type 0 where
  pub as_long : length new ≡ length old
  pub past : (p : ℕ) → placements r ≤ p → get_or new p 0 ≡ get_or old p 0

-- What the solver leaves in two tables that are long enough, in an accepted case.
pub record SolverTables (r : Railway) (figs sets figs' sets' : List ℕ) : Type 0 where
  pub filled : Filled r figs' sets'
  pub kept-figs : Kept r figs figs'
  pub kept_sets : Kept r sets sets'

-- Refused: both tables as they were. Else both filled, and the answer has the start's figure.
abbrev pub SolverLeaves : Railway → SolverAnswer → List ℕ → List ℕ → List ℕ → List ℕ → Option Refusal → Type 0
SolverLeaves r a figs sets figs' sets' (some f) = (figs' ≡ figs) × (sets' ≡ sets)
SolverLeaves r a figs sets figs' sets' none = SolverTables r figs sets figs' sets' × (figure_given a ≡ figure_in figs' (start_code r))

-- The solver's promise: it refuses with the first of the case's rows that applies, by its number, and only then.
pub record SolverPost (r : Railway) (a : SolverAnswer) (figs sets figs' sets' : List ℕ) : Type 0 where
  pub numbered : number_given a ≡ number_of (case_refusal r figs sets)
  pub leaves : SolverLeaves r a figs sets figs' sets' (case_refusal r figs sets)
