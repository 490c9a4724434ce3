-- What the checker answers to a line: it is taken, or refused with the first row that applies. A type of the library under names of this project. Assumes nothing.
use Rattle.std.specs.Prelude.{Result, Ok, Err, ⊤}
use Rattle.railway.specs.declared.Refusal.{Refusal}

abbrev pub LineAnswer : Type 0
LineAnswer = Result ⊤ Refusal

pattern abbrev pub Taken : LineAnswer
Taken = Ok tt

pattern abbrev pub Refused : Refusal → LineAnswer
Refused e = Err e
