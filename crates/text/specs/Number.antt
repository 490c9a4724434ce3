-- A number field: its value and the cursor behind it, or no number stands there. A type of the library under names of this project. Assumes nothing.
use Rattle.std.specs.Prelude.{ℕ, Option, Some}
use Rattle.text.specs.declared.Cursor.{Cursor}

abbrev pub Number : Type 0
Number = Option (ℕ × Cursor)

pattern abbrev pub Value : ℕ → Cursor → Number
Value n c = Some (n, c)
