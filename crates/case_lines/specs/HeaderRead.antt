-- The counts of a header, if one stands there, and the cursor behind it. A type of the library under names of this project. Assumes nothing.
use Rattle.std.specs.Prelude.{ℕ, Option, None, Some}
use Rattle.text.specs.declared.Cursor.{Cursor}

abbrev pub HeaderRead : Type 0
HeaderRead = Option (ℕ × ℕ × ℕ × Cursor)

pattern abbrev pub NoHeader : HeaderRead
NoHeader = None

pattern abbrev pub CountsAre : ℕ → ℕ → ℕ → Cursor → HeaderRead
CountsAre a b d k = Some (a, b, d, k)
