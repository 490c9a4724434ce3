-- What the checker answers to the lines that it has taken: pass, or the row that applies. A type of the library under names of this project. Assumes nothing.
use Rattle.std.specs.Prelude.{Result, Ok, Err, ⊤}
use Rattle.railway.specs.declared.Refusal.{Refusal}

abbrev pub TestAnswer : Type 0
TestAnswer = Result ⊤ Refusal

pattern abbrev pub Pass : TestAnswer
Pass = Ok tt

pattern abbrev pub Refused : Refusal → TestAnswer
Refused e = Err e
