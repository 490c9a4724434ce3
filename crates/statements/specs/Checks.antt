-- Demand 2's sentence on the checker, of its calls as they run (document 01, "The two tables and the plan": the form of a plan, its test): for a plan by any
-- maker and tables of any length that is enough, from tables made fresh, a call for each text, and then the test. Assumes nothing.
use Rattle.std.specs.Prelude.{◌≡◌, ◌↔◌, List, [], ℕ, ◌≤◌, length}
use Rattle.std.proofs.Math.Option.{none}
use Rattle.railway.specs.declared.Railway.{Railway}
use Rattle.railway.specs.CaseAnswer.{CaseAnswer}
use Rattle.railway.specs.declared.Refusal.TheVariants.{PlanForm, PlanFault}
use Rattle.railway.specs.Rows.{record_refusal}
use Rattle.game.specs.Placement.{placements}
use Rattle.plan.specs.TestAnswer.{TestAnswer, Pass, Refused}
use Rattle.plan.specs.Checker.{Checking, LineCalls, taken_texts}
use Rattle.plan.specs.Checked.{Checked, Passing, Failing}
use Rattle.plan.specs.Promises.{TestPost, FreshPost}
use Rattle.plan.specs.Calls.{Taking}
use Rattle.statements.specs.Running.{FreshRuns, TakeRuns, TestRuns}

-- The test's answer, by the texts that were taken: pass exactly if they are in form and pass, 11 exactly if they are in form and fail, 10 exactly if there
-- are none.
pub record TestSays (r : Railway) (taken : List (List ℕ)) (a : TestAnswer) : Type 0 where
  pub passes : (a ≡ Pass) ↔ Passing r taken
  pub faulty : (a ≡ Refused PlanFault) ↔ Failing r taken
  pub early : (a ≡ Refused PlanForm) ↔ (taken ≡ [])

-- In an accepted case: what the calls for any texts answer (plan/Checked), and the test behind them.
abbrev pub CheckerHolds : Type 0
CheckerHolds =
    (r : Railway) → record_refusal r ≡ none → (lent₁ lent₂ : List ℕ) (made : CaseAnswer) (c : Checking) → placements r ≤ length lent₁ → placements r ≤ length lent₂
    → FreshPost r lent₁ lent₂ made c → (texts : List (List ℕ)) (u : LineCalls) → Taking r c texts u
    → (a : TestAnswer) (c' : Checking) → TestPost r u.end a c'
    → Checked r texts u.answers (taken_texts u.answers texts) u.end × TestSays r (taken_texts u.answers texts) a

-- THE CHECKER, of the calls that run: it holds, and where it speaks of calls it speaks of the contracts of `fresh`, `take` and `test`.
pub record CheckerRuns : Type 2 where
  pub whole : CheckerHolds
  pub fresh : FreshRuns
  pub take : TakeRuns
  pub test : TestRuns
