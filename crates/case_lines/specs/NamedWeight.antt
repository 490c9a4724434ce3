-- The weight that a line of a train names, if it names one. A type of the library under names of this project. Assumes nothing.
use Rattle.std.specs.Prelude.{ℕ, Option, None, Some}

abbrev pub NamedWeight : Type 0
NamedWeight = Option ℕ

pattern abbrev pub Unsaid : NamedWeight
Unsaid = None

pattern abbrev pub Said : ℕ → NamedWeight
Said n = Some n
