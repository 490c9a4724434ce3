-- An end, if one stands there, and the cursor behind it. A type of the library under names of this project. Assumes nothing.
use Rattle.std.specs.Prelude.{Option, None, Some}
use Rattle.text.specs.declared.Cursor.{Cursor}
use Rattle.case_lines.specs.declared.NamedEnd.{NamedEnd}

abbrev pub EndRead : Type 0
EndRead = Option (NamedEnd × Cursor)

pattern abbrev pub NoEnd : EndRead
NoEnd = None

pattern abbrev pub EndIs : NamedEnd → Cursor → EndRead
EndIs a k = Some (a, k)
