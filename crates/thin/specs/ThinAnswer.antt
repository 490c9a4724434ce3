-- What a call that thins a plan is answered with. A type of the library under names of this project. Assumes nothing.
use Rattle.std.specs.Prelude.{Result, Ok, Err, ⊤}
use Rattle.railway.specs.declared.Refusal.{Refusal}

abbrev pub ThinAnswer : Type 0
ThinAnswer = Result ⊤ Refusal

pattern abbrev pub Thinned : ThinAnswer
Thinned = Ok tt

pattern abbrev pub Refused : Refusal → ThinAnswer
Refused e = Err e
