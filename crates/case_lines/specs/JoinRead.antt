-- The ends of a join, if one stands there, and the cursor behind it. A type of the library under names of this project. Assumes nothing.
use Rattle.std.specs.Prelude.{Option, None, Some}
use Rattle.text.specs.declared.Cursor.{Cursor}
use Rattle.case_lines.specs.declared.NamedEnd.{NamedEnd}

abbrev pub JoinRead : Type 0
JoinRead = Option (NamedEnd × NamedEnd × Cursor)

pattern abbrev pub NoJoin : JoinRead
NoJoin = None

pattern abbrev pub EndsAre : NamedEnd → NamedEnd → Cursor → JoinRead
EndsAre a b k = Some (a, b, k)
