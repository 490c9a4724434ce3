-- What a case is answered with, as a record or as a text: it is accepted, or refused with the first row that applies. A type of the library under names of this project. Assumes nothing.
use Rattle.std.specs.Prelude.{Result, Ok, Err, ⊤}
use Rattle.railway.specs.declared.Refusal.{Refusal}

abbrev pub CaseAnswer : Type 0
CaseAnswer = Result ⊤ Refusal

pattern abbrev pub Accepted : CaseAnswer
Accepted = Ok tt

pattern abbrev pub Refused : Refusal → CaseAnswer
Refused e = Err e
