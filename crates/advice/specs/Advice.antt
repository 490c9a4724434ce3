-- What a call for advice is answered with. A type of the library under names of this project. Assumes nothing.
use Rattle.std.specs.Prelude.{ℕ, Result, Ok, Err}
use Rattle.railway.specs.declared.Refusal.{Refusal}
use Rattle.railway.specs.declared.SectionNo.{SectionNo}
use Rattle.railway.specs.declared.Side.{Side}
use Rattle.advice.specs.declared.Help.{Help}
use Rattle.advice.specs.declared.Help.TheVariants as help

abbrev pub Advice : Type 0
Advice = Result Help Refusal

pattern abbrev pub NotNeeded : Advice
NotNeeded = Ok help.NotNeeded

pattern abbrev pub Signal : SectionNo → Side → Advice
Signal n s = Ok (help.Signal n s)

pattern abbrev pub NoneHelps : Advice
NoneHelps = Ok help.NoneHelps

pattern abbrev pub Refused : Refusal → Advice
Refused e = Err e
