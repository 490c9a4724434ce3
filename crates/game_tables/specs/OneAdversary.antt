-- One choice of trains for a whole case, chosen before there are any tables (document 01, "Agreement": demand 3, in the words of "A turn").
-- Assumes nothing.
use Rattle.std.specs.Prelude.{◌≡◌}
use Rattle.std.proofs.Math.Option.{none}
use Rattle.railway.specs.declared.Railway.{Railway}
use Rattle.railway.specs.Rows.{record_refusal}
use Rattle.game.specs.Game.{IsFigure}
use Rattle.game.specs.Claim.{OneAdversary}
use Rattle.game.specs.Moves.{game_of}

-- In an accepted case one choice wins against every way of working from all placements that have no figure, by the rules for whole plays.
abbrev pub OneAdversaryHolds : Type 0
OneAdversaryHolds = (r : Railway) → record_refusal r ≡ none → OneAdversary (game_of r) (λ p. IsFigure (game_of r) p none)
