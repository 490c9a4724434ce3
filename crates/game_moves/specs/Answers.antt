-- What the answers of this crate's functions stand for, and what the functions are asked (document 01, "A turn" and "The two tables and the plan").
-- Assumes nothing.
use Rattle.std.specs.Prelude.{cond, ℕ}
use Rattle.std.proofs.Math.Option.{Option, none, some}
use Rattle.railway.specs.declared.Railway.{Railway}
use Rattle.railway.specs.Record.{train_of}
use Rattle.game.specs.Game.{derailment, collision, Outcome, lost, at, may}
use Rattle.game.specs.Placement.{code_on}
use Rattle.game.specs.Moves.{move_of, game_of}
use Rattle.game_tables.specs.Entries.{setting_at}
use Rattle.game_moves.specs.Move.{Move, NotAllowed, Derails, Collides, At}

-- Home's code: all trains on their destinations.
unfoldable pub home_code : Railway → ℕ
home_code r = code_on r (λ t. (train_of r t).destination.0)

-- What a move ends in; none: it is not allowed.
abbrev pub ended : Move → Option Outcome
ended NotAllowed = none
ended Derails = some (lost derailment)
ended Collides = some (lost collision)
ended (At q) = some (at q)

-- What moving train t in placement p under entry v of the setting table ends in; none where the train is not there or may not move.
unfoldable pub move_under : Railway → ℕ → ℕ → ℕ → Option Outcome
move_under r p v t = cond (may (game_of r) p (setting_at r p v) t) (some (move_of r p (setting_at r p v) t)) none
