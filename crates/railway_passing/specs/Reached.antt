-- The section that a way leads to, if it leads to one. A type of the library under names of this project. Assumes nothing.
use Rattle.std.specs.Prelude.{Option, None, Some}
use Rattle.railway.specs.declared.SectionNo.{SectionNo}

abbrev pub Reached : Type 0
Reached = Option SectionNo

pattern abbrev pub Nowhere : Reached
Nowhere = None

pattern abbrev pub Section : SectionNo → Reached
Section n = Some n
