-- What the solver answers: a refusal, that no plan exists, or the figure of the start. A type of the library under names of this project. Assumes nothing.
use Rattle.std.specs.Prelude.{ℕ, Option, None, Some, Result, Ok, Err}
use Rattle.railway.specs.declared.Refusal.{Refusal}

abbrev pub SolverAnswer : Type 0
SolverAnswer = Result (Option ℕ) Refusal

pattern abbrev pub Refused : Refusal → SolverAnswer
Refused e = Err e

pattern abbrev pub Unsolvable : SolverAnswer
Unsolvable = Ok None

pattern abbrev pub Figure : ℕ → SolverAnswer
Figure n = Ok (Some n)
