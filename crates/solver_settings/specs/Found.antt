-- An entry of the settings, if one was found. A type of the library under names of this project. Assumes nothing.
use Rattle.std.specs.Prelude.{ℕ, Option, None, Some}

abbrev pub Found : Type 0
Found = Option ℕ

pattern abbrev pub Nothing : Found
Nothing = None

pattern abbrev pub Entry : ℕ → Found
Entry n = Some n
