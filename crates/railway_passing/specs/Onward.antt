-- The leg by which a train leaves a point, if it does not derail there. A type of the library under names of this project. Assumes nothing.
use Rattle.std.specs.Prelude.{Option, None, Some}
use Rattle.railway.specs.declared.Leg.{Leg}

abbrev pub Onward : Type 0
Onward = Option Leg

pattern abbrev pub Derails : Onward
Derails = None

pattern abbrev pub By : Leg → Onward
By l = Some l
