-- What a round of the search is answered with. A type of the library under names of this project. Assumes nothing.
use Rattle.std.specs.Prelude.{Result, Ok, Err}
use Rattle.railway.specs.declared.Refusal.{Refusal}
use Rattle.search.specs.declared.Stage.{Stage}
use Rattle.search.specs.declared.Stage.TheVariants as stage

abbrev pub SearchAnswer : Type 0
SearchAnswer = Result Stage Refusal

pattern abbrev pub Going : SearchAnswer
Going = Ok stage.Going

pattern abbrev pub Ended : SearchAnswer
Ended = Ok stage.Ended

pattern abbrev pub Refused : Refusal → SearchAnswer
Refused e = Err e
