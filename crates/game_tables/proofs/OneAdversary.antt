-- One choice for a case: filled tables exist, and the choice that goes with them serves, for a placement's figure is one: where the rules
-- give none, the table has none. Assumes nothing.
use mathlib.Core.List.{List}
use mathlib.Core.Option.{none}
use Prim.Native.Nat.{ℕ}
use native.Mathlib.Omega.{arith}
use Rattle.laws.specs.Below.{list_below}
use Rattle.laws.proofs.Below.{list_length}
use Rattle.game.specs.Placement.{placements}
use Rattle.game.specs.Moves.{game_of}
use Rattle.game.proofs.Figures.{figure-one}
use Rattle.game_tables.specs.Tables.{figure_in}
use Rattle.game_tables.specs.OneAdversary.{OneAdversaryHolds}
use Rattle.game_tables.proofs.Plays.{filled-whole}
use Rattle.game_tables.proofs.Exists.{Made, tables-exist}

pub one-adversary-holds : OneAdversaryHolds
one-adversary-holds r accepted =
    let zero : ℕ → ℕ = (λ p. 0) in
    let lent : List ℕ = list_below zero (placements r) in
    let m : Made r lent lent = tables-exist r accepted lent lent (omega (arith, list_length zero (placements r))) (omega (arith, list_length zero (placements r))) in
    let c = (filled-whole r accepted m.new-figs m.new-sets m.made.filled).one-adversary in
    record {
      named = c.named;
      there = c.there;
      moves = c.moves;
      alike = c.alike;
      beats = λ w p l i. c.beats w p l (figure-one (game_of r) p (figure_in m.new-figs p) none (m.made.filled.figures p l) i);
    }
