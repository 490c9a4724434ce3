-- How many starts are good (document 02, Q-8), of the call that runs: what counts/Counts claims of a reply is said of the contract of `count_figures`, which asks nothing and is met; and
-- of the figure table as a call of `solve` left it. Arguments are written as in Running. Assumes nothing.
use Rattle.std.specs.Prelude.{◌≡◌, ◌≤◌, length}
use Rattle.std.proofs.Math.Option.{none}
use denote.Triple.Clauses.{AtExit}
use contract.Lifetimes.{Lfts}
use borrow.Fn.Kinds.{Dens, res_t, ended_of}
use Rattle.railway.specs.Rows.{record_refusal}
use Rattle.game.specs.Game.{IsFigure}
use Rattle.game.specs.Placement.{placements}
use Rattle.game.specs.Moves.{game_of}
use Rattle.counts.specs.CountAnswer.{Counted}
use Rattle.counts.specs.Counts.{reply_of, CountPost, Spread, CountClaims, CountsHold}
use Rattle.statements.specs.Running.{SolverRuns}
use Rattle.solver.proofs.solve.Kinds as solve
use Rattle.solver.proofs.solve.Reads.{Learnt as SolveLearnt}
use Rattle.counts_call.proofs.count_figures.Kinds as counting
use Rattle.counts_call.proofs.count_figures.Reads.{Asked as CountAsked, Learnt as CountLearnt}
use Rattle.counts_call.proofs.count_figures.Statement.{statement as CountMeets}

-- `counts_call::count_figures`: the record, and the figures, which it only reads.
pub record CountRuns : Type 2 where
  pub asks : (κs : Lfts 1) (a : Dens κs counting.ps) → CountAsked κs a
  pub tells : (κs : Lfts 1) (a : Dens κs counting.ps) (answer : (res_t counting.r κs).Denot) (left : AtExit (ended_of 1 counting.ps counting.r) κs)
      → CountLearnt κs a answer left ≡ CountPost a.0 a.1.0.now (reply_of answer)
  pub meets : {M : Type 1} → CountMeets M

-- What follows of a call.
abbrev pub CallClaims : Type 0
CallClaims =
    (κs : Lfts 1) (a : Dens κs counting.ps) (answer : (res_t counting.r κs).Denot) (left : AtExit (ended_of 1 counting.ps counting.r) κs)
    → CountLearnt κs a answer left → CountClaims a.0 a.1.0.now (reply_of answer)

-- What follows of one behind a call of the solver, with the same record, and the figures as the solver left them.
abbrev pub CallSolved : Type 0
CallSolved =
    (κs : Lfts 2) (a : Dens κs solve.ps) (said : (res_t solve.r κs).Denot) (left : AtExit (ended_of 2 solve.ps solve.r) κs) → SolveLearnt κs a said left
    → record_refusal a.0 ≡ none → placements a.0 ≤ length a.1.0.now → placements a.0 ≤ length a.1.1.0.now
    → (κs' : Lfts 1) (b : Dens κs' counting.ps) (answer : (res_t counting.r κs').Denot) (left' : AtExit (ended_of 1 counting.ps counting.r) κs') → CountLearnt κs' b answer left'
    → b.0 ≡ a.0 → b.1.0.now ≡ left.1.0.now
    → ((reply_of answer).answer ≡ Counted) × Spread (IsFigure (game_of a.0)) (placements a.0) (reply_of answer).counts

-- Q-8, of the calls that run.
pub record CountsRun : Type 2 where
  pub whole : CountsHold
  pub solver : SolverRuns
  pub counts : CountRuns
  pub claims : CallClaims
  pub solved : CallSolved
