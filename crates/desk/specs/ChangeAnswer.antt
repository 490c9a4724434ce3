-- What a change of the railway is answered with. A type of the library under names of this project. Assumes nothing.
use Rattle.std.specs.Prelude.{Result, Ok, Err, ⊤}
use Rattle.railway.specs.declared.Refusal.{Refusal}

abbrev pub ChangeAnswer : Type 0
ChangeAnswer = Result ⊤ Refusal

pattern abbrev pub Changed : ChangeAnswer
Changed = Ok tt

pattern abbrev pub Refused : Refusal → ChangeAnswer
Refused e = Err e
