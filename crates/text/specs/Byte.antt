-- A byte that was looked for: the cursor behind it, or another byte stands there. A type of the library under names of this project. Assumes nothing.
use Rattle.std.specs.Prelude.{Option, None, Some}
use Rattle.text.specs.declared.Cursor.{Cursor}

abbrev pub Byte : Type 0
Byte = Option Cursor

pattern abbrev pub Other : Byte
Other = None

pattern abbrev pub Past : Cursor → Byte
Past c = Some c
