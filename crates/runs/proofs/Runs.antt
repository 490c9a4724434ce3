-- Q-3 OF ANY ANSWERS of the call: in an accepted record its promise is that they hold the tables of their headings; of these Says and Bound speak. What a solver answers is the start's
-- figure in its table, which is the figure. Assumes nothing.
use mathlib.Core.Path.{◌≡◌, refl, ◌∙◌, subst}
use mathlib.Core.List.{List}
use mathlib.Core.Option.{Option, none, some}
use Prim.Native.Nat.{ℕ, ◌≤◌}
use lib.ListN.{length}
use Rattle.laws.proofs.Bools.{some-none}
use Rattle.railway.specs.declared.Side.{Side}
use Rattle.railway.specs.declared.Side.TheVariants.{Up, Down}
use Rattle.railway.specs.declared.Railway.{Railway}
use Rattle.railway.specs.declared.Refusal.{Refusal}
use Rattle.railway.specs.Rows.{record_refusal}
use Rattle.game.specs.Game.{IsFigure}
use Rattle.game.specs.Placement.{placements, start_code}
use Rattle.game.specs.Moves.{game_of}
use Rattle.game.proofs.Accepted.{facts}
use Rattle.game.proofs.Moves.{start-below}
use Rattle.game.proofs.Figures.{figure-one}
use Rattle.game_tables.specs.SolverAnswer.{SolverAnswer, Refused, Unsolvable, Figure}
use Rattle.game_tables.specs.Tables.{figure_in, case_refusal}
use Rattle.game_tables.specs.Solver.{number_given, figure_given, SolverLeaves, SolverPost}
use Rattle.game_tables.proofs.Refusals.{case-none}
use Rattle.runs.specs.Runs.{RunTable, RunReply, table_in, TableLeft, RunPost, Bounded, RunsHold}
use Rattle.runs.proofs.Says.{says}
use Rattle.runs.proofs.Track.{same_runs}
use Rattle.runs.proofs.Bound.{sum-at-least, none-without}

-- the table of its heading, where nothing is refused
pub table-of : (r : Railway) (heading : Side) → record_refusal r ≡ none → (old : List (List ℕ)) (a : RunReply) → RunPost r heading old a → RunTable r heading (table_in a)
table-of r heading accepted old a post = subst (λ (o : Option Refusal). TableLeft r heading old (table_in a) o) accepted post.leaves

-- THE SOLVER'S ANSWER is the start's figure
module _ (r : Railway) (accepted : record_refusal r ≡ none) (a : SolverAnswer) (figs sets figs' sets' : List ℕ)
    (lf : placements r ≤ length figs) (ls : placements r ≤ length sets)
    (post : SolverPost r a figs sets figs' sets') where
  no_row : case_refusal r figs sets ≡ none
  no_row = (case-none r figs sets).1 (accepted, record { figures = lf; settings = ls })

  answered : IsFigure (game_of r) (start_code r) (figure_given a)
  answered =
      let x = subst (λ (o : Option Refusal). SolverLeaves r a figs sets figs' sets' o) no_row post.leaves in
      let e : figure_given a ≡ figure_in figs' (start_code r) = x.1 in
      rw e (x.0.filled.figures (start_code r) (start-below r (facts r accepted)))

  -- an answer without a figure, which is no refusal, is the verdict none
  unsolvable : (b : SolverAnswer) → number_given b ≡ none → figure_given b ≡ none → b ≡ Unsolvable
  unsolvable (Refused f) e g = some-none refl e
  unsolvable Unsolvable e g = refl
  unsolvable (Figure n) e g = some-none refl g

  numbered-none : number_given a ≡ none
  numbered-none = let e = no_row in post.numbered ∙ rw e refl

  module _ (up down : List (List ℕ)) (hu : RunTable r Up up) (hd : RunTable r Down down) where
    bounded : Bounded r up down a
    bounded =
        record {
          figure = λ n e. (let i : IsFigure (game_of r) (start_code r) (some n) = rw e at answered in sum-at-least r (facts r accepted) up down hu hd n i.0);
          verdict = λ t l e. unsolvable a numbered-none (figure-one (game_of r) (start_code r) (figure_given a) none answered (none-without r (facts r accepted) up down hu hd t l e));
        }

pub runs-hold : RunsHold
runs-hold r accepted old₁ old₂ up down post₁ post₂ =
    let hu = table-of r Up accepted old₁ up post₁ in
    let hd = table-of r Down accepted old₂ down post₂ in
    record {
      up-says = says r (facts r accepted) Up (table_in up) hu;
      down-says = says r (facts r accepted) Down (table_in down) hd;
      disregards = same_runs r;
      at_least = λ n i. sum-at-least r (facts r accepted) (table_in up) (table_in down) hu hd n i.0;
      without = none-without r (facts r accepted) (table_in up) (table_in down) hu hd;
      solver = λ a figs sets figs' sets' lf ls post. bounded r accepted a figs sets figs' sets' lf ls post (table_in up) (table_in down) hu hd;
    }
