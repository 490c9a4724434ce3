-- Following a plan at a desk (document 02, Q-1 and Q-9), and going over to another case (Q-11), of the calls that run: what desk/Following says of an opening, of the setting and of
-- reports one after the other, and desk/Change of changes among them, is said of the contracts of `Desk::open`, `Desk::setting`, `Desk::report` and `Desk::change`, which ask nothing
-- and are met. Arguments are written as in Running. Assumes nothing.
use Rattle.std.specs.Prelude.{◌≡◌}
use denote.Triple.Clauses.{AtExit}
use contract.Lifetimes.{Lfts}
use borrow.Fn.Kinds.{Dens, res_t, ended_of}
use Rattle.desk.specs.Desk.{OpenPost, SettingPost, ReportPost}
use Rattle.desk.specs.Following.{DeskHolds}
use Rattle.desk.specs.Change.{ChangePost, ChangeHolds}
use Rattle.desk_calls.specs.Answers.{desk_at, opening, replied, changing}
use Rattle.statements.specs.Running.{SolverRuns}
use Rattle.desk_calls.proofs.Desk.open.Kinds as opened
use Rattle.desk_calls.proofs.Desk.open.Reads.{Asked as OpenAsked, Learnt as OpenLearnt}
use Rattle.desk_calls.proofs.Desk.open.Statement.{statement as OpenMeets}
use Rattle.desk_calls.proofs.Desk.setting.Kinds as setting
use Rattle.desk_calls.proofs.Desk.setting.Reads.{Asked as SettingAsked, Learnt as SettingLearnt}
use Rattle.desk_calls.proofs.Desk.setting.Statement.{statement as SettingMeets}
use Rattle.desk_calls.proofs.Desk.report.Kinds as report
use Rattle.desk_calls.proofs.Desk.report.Reads.{Asked as ReportAsked, Learnt as ReportLearnt}
use Rattle.desk_calls.proofs.Desk.report.Statement.{statement as ReportMeets}
use Rattle.desk_calls.proofs.Desk.change.Kinds as change
use Rattle.desk_calls.proofs.Desk.change.Reads.{Asked as ChangeAsked, Learnt as ChangeLearnt}
use Rattle.desk_calls.proofs.Desk.change.Statement.{statement as ChangeMeets}

-- `Desk::open`: the record, the figures, the settings, which every call only reads.
pub record OpenRuns : Type 2 where
  pub asks : (κs : Lfts 2) (a : Dens κs opened.ps) → OpenAsked κs a
  pub tells : (κs : Lfts 2) (a : Dens κs opened.ps) (answer : (res_t opened.r κs).Denot) (left : AtExit (ended_of 2 opened.ps opened.r) κs)
      → OpenLearnt κs a answer left ≡ OpenPost a.0 a.1.0.now a.1.1.0.now (opening answer)
  pub meets : {M : Type 1} → OpenMeets M

-- `Desk::setting`: the desk, the record, the figures, the settings.
pub record SettingRuns : Type 2 where
  pub asks : (κs : Lfts 2) (a : Dens κs setting.ps) → SettingAsked κs a
  pub tells : (κs : Lfts 2) (a : Dens κs setting.ps) (answer : (res_t setting.r κs).Denot) (left : AtExit (ended_of 2 setting.ps setting.r) κs)
      → SettingLearnt κs a answer left ≡ SettingPost a.1.0 (desk_at a.0) a.1.1.0.now a.1.1.1.0.now answer
  pub meets : {M : Type 1} → SettingMeets M

-- `Desk::report`: the same, then the train and the section.
pub record ReportRuns : Type 2 where
  pub asks : (κs : Lfts 2) (a : Dens κs report.ps) → ReportAsked κs a
  pub tells : (κs : Lfts 2) (a : Dens κs report.ps) (answer : (res_t report.r κs).Denot) (left : AtExit (ended_of 2 report.ps report.r) κs)
      → ReportLearnt κs a answer left
      ≡ ReportPost a.1.0 (desk_at a.0) a.1.1.0.now a.1.1.1.0.now a.1.1.1.1.0 a.1.1.1.1.1.0 (replied answer.1 answer.0)
  pub meets : {M : Type 1} → ReportMeets M

-- `Desk::change`: the desk, the old record, the new text, its figures, its settings.
pub record ChangeRuns : Type 2 where
  pub asks : (κs : Lfts 4) (a : Dens κs change.ps) → ChangeAsked κs a
  pub tells : (κs : Lfts 4) (a : Dens κs change.ps) (answer : (res_t change.r κs).Denot) (left : AtExit (ended_of 4 change.ps change.r) κs)
      → ChangeLearnt κs a answer left ≡ ChangePost a.1.0 a.1.1.0.now (desk_at a.0.now) a.1.1.1.0.now a.1.1.1.1.0.now (changing answer left.0.now)
  pub meets : {M : Type 1} → ChangeMeets M

-- Q-1, Q-9 and Q-11, of the calls that run; where they speak of the solver, they speak of the contract of `solve`.
pub record DesksRun : Type 2 where
  pub whole : DeskHolds
  pub change : ChangeHolds
  pub solver : SolverRuns
  pub opens : OpenRuns
  pub settings : SettingRuns
  pub reports : ReportRuns
  pub changes : ChangeRuns
