-- What the checker answers to the front of a text: how many bytes it took, or a refusal. A type of the library under names of this project. Assumes nothing.
use Rattle.std.specs.Prelude.{ℕ, Result, Ok, Err}
use Rattle.railway.specs.declared.Refusal.{Refusal}

abbrev pub FrontAnswer : Type 0
FrontAnswer = Result ℕ Refusal

pattern abbrev pub Took : ℕ → FrontAnswer
Took n = Ok n

pattern abbrev pub Refused : Refusal → FrontAnswer
Refused e = Err e
