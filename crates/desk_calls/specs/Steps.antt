-- What the contract of a single step says. Nothing of documents 01 and 02 rests on this file. Assumes nothing.
use Rattle.std.specs.Prelude.{Bool, not, ◌&&◌, ℕ}
use Rattle.railway.specs.declared.Railway.{Railway}
use Rattle.railway.specs.Passing.{entered}
use Rattle.game.specs.Game.{may}
use Rattle.game.specs.Placement.{at_home}
use Rattle.game.specs.Setting.{heads_for}
use Rattle.game.specs.Moves.{occupied, game_of}
use Rattle.game_tables.specs.Entries.{setting_at}
use Rattle.desk.specs.Desk.{comes_to}

-- The report that train t has come to section x counts at placement p under entry v: it is not home, and the move is one that ends there.
unfoldable pub counts_at : Railway → ℕ → ℕ → ℕ → ℕ → Bool
counts_at r p v t x = not (at_home r p) && (not (occupied r p t x) && (may (game_of r) p (setting_at r p v) t && comes_to (entered r (setting_at r p v).plus (heads_for r p t)) x))
