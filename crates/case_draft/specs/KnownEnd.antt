-- An end that a line names, where the header has it. A type of the library under names of this project. Assumes nothing.
use Rattle.std.specs.Prelude.{Option, None, Some}
use Rattle.railway.specs.declared.End.{End}

abbrev pub KnownEnd : Type 0
KnownEnd = Option End

pattern abbrev pub NotThere : KnownEnd
NotThere = None

pattern abbrev pub There : End → KnownEnd
There e = Some e
