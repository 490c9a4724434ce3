-- A side, if one stands there, and the cursor behind it. A type of the library under names of this project. Assumes nothing.
use Rattle.std.specs.Prelude.{Option, None, Some}
use Rattle.text.specs.declared.Cursor.{Cursor}
use Rattle.railway.specs.declared.Side.{Side}

abbrev pub SideRead : Type 0
SideRead = Option (Side × Cursor)

pattern abbrev pub NoSide : SideRead
NoSide = None

pattern abbrev pub SideIs : Side → Cursor → SideRead
SideIs a k = Some (a, k)
