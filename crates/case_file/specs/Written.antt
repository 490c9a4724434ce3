-- What the writer answers: how many bytes it has written, or why it has written none. A type of the library under names of this project. Assumes nothing.
use Rattle.std.specs.Prelude.{ℕ, Result, Ok, Err}
use Rattle.railway.specs.declared.Refusal.{Refusal}

abbrev pub Written : Type 0
Written = Result ℕ Refusal

pattern abbrev pub Bytes : ℕ → Written
Bytes n = Ok n

pattern abbrev pub Refused : Refusal → Written
Refused e = Err e
