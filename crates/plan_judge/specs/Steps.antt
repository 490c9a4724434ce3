-- What the contract of a step of the test says. Nothing of document 01 rests on this file: over tables it is `train_signalled` (plan/Computed).
-- Assumes nothing.
use Rattle.std.specs.Prelude.{Bool, not, ◌||◌, ℕ}
use Rattle.railway.specs.declared.Railway.{Railway}
use Rattle.game.specs.Setting.{held}
use Rattle.game_tables.specs.Entries.{opens_in}

-- Train t is not open in entry v, or has a signal to open in placement p.
abbrev pub signalled_in : Railway → ℕ → ℕ → ℕ → Bool
signalled_in r p v t = not (opens_in v t) || held r p t
