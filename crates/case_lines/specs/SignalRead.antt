-- The section and the side of a signal, if one stands there, and the cursor behind it. A type of the library under names of this project. Assumes nothing.
use Rattle.std.specs.Prelude.{ℕ, Option, None, Some}
use Rattle.text.specs.declared.Cursor.{Cursor}
use Rattle.railway.specs.declared.Side.{Side}

abbrev pub SignalRead : Type 0
SignalRead = Option (ℕ × Side × Cursor)

pattern abbrev pub NoSignal : SignalRead
NoSignal = None

pattern abbrev pub SignalIs : ℕ → Side → Cursor → SignalRead
SignalIs a b k = Some (a, b, k)
