-- Who gains figure n in round n has a move to the frontier: a train's move to a placement whose figure and the train's
-- weight make n. So in round n only placements one such move before can gain. Assumes nothing.
use mathlib.Core.Path.{◌≡◌, refl}
use mathlib.Core.Bool.{false}
use mathlib.Core.List.{List}
use mathlib.Core.Option.{Option, none, some}
use Prim.Native.Nat.{ℕ, suc, ◌<◌}
use native.Mathlib.Omega.{arith}
use Rattle.laws.proofs.Bools.{some-none}
use Rattle.railway.specs.declared.Railway.{Railway}
use Rattle.railway.specs.Rows.{record_refusal}
use Rattle.game.specs.Game.{Outcome, lost, at, over}
use Rattle.game.specs.Claim.{figure_of, Decides}
use Rattle.game.specs.Placement.{placements}
use Rattle.game.specs.Moves.{move_of, game_of}
use Rattle.game.proofs.Local.{may-train}
use Rattle.game.proofs.Accepted.{facts}
use Rattle.game.proofs.Moves.{move-inside}
use Rattle.game_tables.specs.Entries.{setting_at}
use Rattle.game_tables.specs.Tables.{figure_in}
use Rattle.game_tables.specs.Rounds.{RoundTables}
use Rattle.game_tables.specs.Find.{find}
use Rattle.game_tables.proofs.Rounds.{accepted-go}
use Rattle.solver_rounds.specs.Visits.{Before}

-- an outcome with a figure is a placement with it
ends_at : (F : ℕ → Option ℕ) (o : Outcome) (j : ℕ) → figure_of F o ≡ some j → (q : ℕ) × (o ≡ at q) × (F q ≡ some j)
ends_at F (lost x) j e = some-none e refl
ends_at F (at q) j e = (q, refl, e)

module _ (r : Railway) (accepted : record_refusal r ≡ none) (k : ℕ) (figs sets : List ℕ)
    (t : RoundTables r k figs sets) where
  pub gains-before : (p v : ℕ) → p < placements r → figure_in figs p ≡ none → over (game_of r) p ≡ false
      → find r (figure_in figs) p (suc k) ≡ some v → Before r (suc k) figs 0 (placements r) p
  gains-before p v l e o f =
      let s = setting_at r p v in
      let d : Decides (game_of r) (figure_in figs) p s (suc k) = (accepted-go r accepted).gained k figs sets t p v l e o f in
      let x = ends_at (figure_in figs) (move_of r p s d.train) d.figure d.ends in
      let runs : d.train < r.trains = may-train (game_of r) p s d.train d.moves in
      record {
        train = d.train;
        below = runs;
        ahead =
            record {
              code = x.0;
              after = omega arith;
              within = move-inside r (facts r accepted) p s d.train x.0 x.1;
              figure = d.figure;
              makes = d.makes;
              stands = x.2;
              comes = record { train = d.train; below = runs; weighs = refl; by = record { entry = v; moves = x.1 } };
            };
      }
