-- A leg, if one stands there, and the cursor behind it. A type of the library under names of this project. Assumes nothing.
use Rattle.std.specs.Prelude.{Option, None, Some}
use Rattle.text.specs.declared.Cursor.{Cursor}
use Rattle.railway.specs.declared.Leg.{Leg}

abbrev pub LegRead : Type 0
LegRead = Option (Leg × Cursor)

pattern abbrev pub NoLeg : LegRead
NoLeg = None

pattern abbrev pub LegIs : Leg → Cursor → LegRead
LegIs a k = Some (a, k)
