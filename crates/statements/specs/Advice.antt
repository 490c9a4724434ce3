-- Which signal would help (document 02, Q-10), of the call that runs: what advice/Advising claims of an answer and of the
-- tables is said of the contract of `advise`, which asks nothing and is met. Arguments are written as in Running.
-- Assumes nothing.
use Rattle.std.specs.Prelude.{◌≡◌}
use Rattle.std.proofs.Math.Option.{none, some}
use denote.Triple.Clauses.{AtExit}
use contract.Lifetimes.{Lfts}
use borrow.Fn.Kinds.{Dens, res_t, ended_of}
use Rattle.railway.specs.declared.Refusal.{Refusal}
use Rattle.game_tables.specs.Tables.{case_refusal}
use Rattle.advice.specs.Advice.{Refused}
use Rattle.advice.specs.Advising.{AdvicePost, AdviceClaims, AdviceHolds}
use Rattle.advice_call.proofs.advise.Kinds as advise
use Rattle.advice_call.proofs.advise.Reads.{Asked as AdviseAsked, Learnt as AdviseLearnt}
use Rattle.advice_call.proofs.advise.Statement.{statement as AdviseMeets}

-- `advice_call::advise`: the record, the figures, the settings; its answer; the two tables as it leaves them.
pub record AdviceRuns : Type 2 where
  pub whole : AdviceHolds
  pub asks : (κs : Lfts 2) (a : Dens κs advise.ps) → AdviseAsked κs a
  pub tells : (κs : Lfts 2) (a : Dens κs advise.ps) (answer : (res_t advise.r κs).Denot) (left : AtExit (ended_of 2 advise.ps advise.r) κs)
      → AdviseLearnt κs a answer left ≡ AdvicePost a.0 answer a.1.0.now a.1.1.0.now left.1.0.now left.1.1.0.now
  pub meets : {M : Type 1} → AdviseMeets M
  -- where nothing is refused, the claims hold of every call
  pub claims : (κs : Lfts 2) (a : Dens κs advise.ps) (answer : (res_t advise.r κs).Denot) (left : AtExit (ended_of 2 advise.ps advise.r) κs)
      → case_refusal a.0 a.1.0.now a.1.1.0.now ≡ none → AdviseLearnt κs a answer left
      → AdviceClaims a.0 answer a.1.0.now a.1.1.0.now left.1.0.now left.1.1.0.now
  -- a refused call leaves both tables as they were
  pub refuses : (κs : Lfts 2) (a : Dens κs advise.ps) (answer : (res_t advise.r κs).Denot) (left : AtExit (ended_of 2 advise.ps advise.r) κs) (f : Refusal)
      → case_refusal a.0 a.1.0.now a.1.1.0.now ≡ some f → AdviseLearnt κs a answer left
      → (answer ≡ Refused f) × (left.1.0.now ≡ a.1.0.now) × (left.1.1.0.now ≡ a.1.1.0.now)
