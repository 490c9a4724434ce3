-- What a look at a placement is answered with. A type of the library under names of this project. Assumes nothing.
use Rattle.std.specs.Prelude.{ℕ, Result, Ok, Err}
use Rattle.railway.specs.declared.Refusal.{Refusal}
use Rattle.search.specs.declared.Seen.{Seen}
use Rattle.search.specs.declared.Seen.TheVariants as seen

abbrev pub Shown : Type 0
Shown = Result Seen Refusal

pattern abbrev pub Figure : ℕ → Shown
Figure n = Ok (seen.Figure n)

pattern abbrev pub NotYet : Shown
NotYet = Ok seen.NotYet

pattern abbrev pub NoFigure : Shown
NoFigure = Ok seen.NoFigure

pattern abbrev pub Refused : Refusal → Shown
Refused e = Err e
