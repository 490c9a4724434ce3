-- Whether the counts are answered, or why not. A type of the library under names of this project. Assumes nothing.
use Rattle.std.specs.Prelude.{Result, Ok, Err, ⊤}
use Rattle.railway.specs.declared.Refusal.{Refusal}

abbrev pub CountAnswer : Type 0
CountAnswer = Result ⊤ Refusal

pattern abbrev pub Counted : CountAnswer
Counted = Ok tt

pattern abbrev pub Refused : Refusal → CountAnswer
Refused e = Err e
