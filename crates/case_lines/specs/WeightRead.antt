-- What a line says of a weight, if it is in form, and the cursor behind it. A type of the library under names of this project. Assumes nothing.
use Rattle.std.specs.Prelude.{Option, None, Some}
use Rattle.text.specs.declared.Cursor.{Cursor}
use Rattle.case_lines.specs.NamedWeight.{NamedWeight}

abbrev pub WeightRead : Type 0
WeightRead = Option (NamedWeight × Cursor)

pattern abbrev pub NoWeight : WeightRead
NoWeight = None

pattern abbrev pub WeightIs : NamedWeight → Cursor → WeightRead
WeightIs a k = Some (a, k)
