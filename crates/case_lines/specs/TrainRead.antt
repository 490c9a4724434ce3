-- What a line says of a train, if one stands there, and the cursor behind it. A type of the library under names of this project. Assumes nothing.
use Rattle.std.specs.Prelude.{ℕ, Option, None, Some}
use Rattle.text.specs.declared.Cursor.{Cursor}
use Rattle.railway.specs.declared.Side.{Side}
use Rattle.case_lines.specs.NamedWeight.{NamedWeight}

abbrev pub TrainRead : Type 0
TrainRead = Option (Side × ℕ × ℕ × NamedWeight × Cursor)

pattern abbrev pub NoTrain : TrainRead
NoTrain = None

pattern abbrev pub TrainIs : Side → ℕ → ℕ → NamedWeight → Cursor → TrainRead
TrainIs a b d f k = Some (a, b, d, f, k)
