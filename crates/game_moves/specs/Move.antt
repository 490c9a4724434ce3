-- What a move of a train comes to: the placement after it, or why there is none. A type of the library under names of this project. Assumes nothing.
use Rattle.std.specs.Prelude.{ℕ, Result, Ok, Err}
use Rattle.game_moves.specs.declared.Fault.{Fault}
use Rattle.game_moves.specs.declared.Fault.TheVariants as fault

abbrev pub Move : Type 0
Move = Result ℕ Fault

pattern abbrev pub NotAllowed : Move
NotAllowed = Err fault.NotAllowed

pattern abbrev pub Derails : Move
Derails = Err fault.Derails

pattern abbrev pub Collides : Move
Collides = Err fault.Collides

pattern abbrev pub At : ℕ → Move
At n = Ok n
