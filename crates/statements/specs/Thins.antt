-- Thinning a plan (document 02, Q-14), of the calls that run: what thin/Law says of moves, thin/Claims of any call and thin/Calls of whole lists of calls, and that where they speak of calls
-- they speak of the contracts of `Checker::fresh`, `Checker::take`, `Checker::test` and `thin_call::thin`, which ask nothing and are met. Arguments are written as in Running.
-- Assumes nothing.
use Rattle.std.specs.Prelude.{◌≡◌}
use denote.Triple.Clauses.{AtExit}
use contract.Lifetimes.{Lfts}
use borrow.Fn.Kinds.{Dens, res_t, ended_of}
use Rattle.plan_checker.specs.Answers.{checking}
use Rattle.thin.specs.Law.{LawHolds}
use Rattle.thin.specs.Thinning.{ThinPost}
use Rattle.thin.specs.Claims.{ThinsHold}
use Rattle.thin.specs.Calls.{PlansThin}
use Rattle.statements.specs.Running.{FreshRuns, TakeRuns, TestRuns}
use Rattle.thin_call.proofs.thin.Kinds as thin
use Rattle.thin_call.proofs.thin.Reads.{Asked as ThinAsked, Learnt as ThinLearnt}
use Rattle.thin_call.proofs.thin.Statement.{statement as ThinMeets}

-- `thin_call::thin`: the checker, the record, the figures, which it only reads, and the settings.
pub record ThinRuns : Type 2 where
  pub asks : (κs : Lfts 3) (a : Dens κs thin.ps) → ThinAsked κs a
  pub tells : (κs : Lfts 3) (a : Dens κs thin.ps) (answer : (res_t thin.r κs).Denot) (left : AtExit (ended_of 3 thin.ps thin.r) κs)
      → ThinLearnt κs a answer left
      ≡ ThinPost a.1.0 (checking a.0.now a.1.1.0.now a.1.1.1.0.now) answer (checking a.0.now a.1.1.0.now left.1.1.1.0.now)
  pub meets : {M : Type 1} → ThinMeets M

-- Q-14, of the calls that run.
pub record ThinsRun : Type 2 where
  pub law : LawHolds
  pub whole : ThinsHold
  pub plans : PlansThin
  pub fresh : FreshRuns
  pub take : TakeRuns
  pub test : TestRuns
  pub thin : ThinRuns
