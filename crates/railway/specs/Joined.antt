-- What an end is joined to: nothing, or an end. A type of the library under names of this project. Assumes nothing.
use Rattle.std.specs.Prelude.{Option, None, Some}
use Rattle.railway.specs.declared.End.{End}

abbrev pub Joined : Type 0
Joined = Option End

pattern abbrev pub Nothing : Joined
Nothing = None

pattern abbrev pub With : End → Joined
With e = Some e
