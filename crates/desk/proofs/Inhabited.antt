-- There are such lists of calls: each call can be answered as promised, and in every accepted case whose start has a figure there are tables as a solver leaves them, with which
-- some list of reports brings the trains home from an opened desk. Until home a train may move and its report counts, and each costs something of the figure. Assumes nothing.
use mathlib.Core.Path.{◌≡◌, refl, ◌∙◌, ap}
use mathlib.Core.Logic.{inl, inr}
use mathlib.Core.Bool.{true}
use mathlib.Core.List.{List, [], ◌++◌}
use mathlib.Core.Option.{Option, none, some}
use Prim.Native.Nat.{ℕ, zero, suc, ◌+◌, ◌≤◌}
use native.Mathlib.Omega.{arith}
use lib.ListN.{length}
use Rattle.laws.proofs.Bools.{bool?}
use Rattle.railway.specs.declared.Railway.{Railway}
use Rattle.railway.specs.declared.Refusal.{Refusal}
use Rattle.railway.specs.Refusals.{first, number_of}
use Rattle.railway.specs.Record.{weight_of}
use Rattle.railway.specs.Rows.{record_refusal}
use Rattle.game.specs.Game.{may, IsFigure}
use Rattle.game.specs.Placement.{placements, start_code, at_home}
use Rattle.game.specs.Moves.{game_of}
use Rattle.game.proofs.Accepted.{facts}
use Rattle.game.proofs.Moves.{costs}
use Rattle.game.proofs.Local.{may-train}
use Rattle.game_tables.specs.Tables.{figure_in, case_rows}
use Rattle.game_tables.proofs.Exists.{Made, tables-exist}
use Rattle.desk.specs.ReportAnswer.{ReportAnswer}
use Rattle.desk.specs.Desk.{Desk, desk_code, present, Opening, open_by, open_desk, setting_rows, setting_by}
use Rattle.desk.specs.Desk.{give_setting, report_rows, Reply, report_by, report, number_opening, number_setting}
use Rattle.desk.specs.Desk.{number_reported, OpenPost, SettingPost, ReportPost}
use Rattle.desk.specs.Following.{moved_by, Reporting, begun, call, total, MoveCounts, AfterReports, RunsFrom, DeskRuns}
use Rattle.desk.proofs.Following.{total-snoc, desk-runs}

-- EACH CALL CAN BE ANSWERED as promised: the number is that of the first row that applies
open-number : (r : Railway) (o : Option Refusal) (f : Option ℕ) → number_opening (open_by r o f).answer ≡ number_of o
open-number r none none = refl
open-number r none (some n) = refl
open-number r (some g) f = refl

setting-number : (v : ℕ) (o : Option Refusal) → number_setting (setting_by v o) ≡ number_of o
setting-number v none = refl
setting-number v (some g) = refl

report-number : (r : Railway) (d : Desk) (t x : ℕ) (o : Option Refusal) → number_reported (report_by r d t x o).answer ≡ number_of o
report-number r d t x none = refl
report-number r d t x (some g) = refl

pub open_made : (r : Railway) (figs sets : List ℕ) → OpenPost r figs sets (open_desk r figs sets)
unfolding open_desk
open_made r figs sets = record { numbered = open-number r (first (case_rows r figs sets)) (figure_in figs (start_code r)); answers = refl }

pub setting-made : (r : Railway) (d : Desk) (figs sets : List ℕ) → SettingPost r d figs sets (give_setting r d figs sets)
unfolding give_setting
setting-made r d figs sets = record { numbered = setting-number _ (first (setting_rows r d figs sets)); answers = refl }

pub report-made : (r : Railway) (d : Desk) (figs sets : List ℕ) (t x : ℕ) → ReportPost r d figs sets t x (report r d figs sets t x)
unfolding report
report-made r d figs sets t x = record { numbered = report-number r d t x (first (report_rows r d figs sets t x)); answers = refl }

-- A LIST OF REPORTS that brings the trains home
pub record Brought (r : Railway) (figs sets : List ℕ) (d : Desk) : Type 0 where
  pub trains : List ℕ
  pub desk : Desk
  pub calls : Reporting r figs sets d trains desk
  pub home : at_home r (desk_code r desk) ≡ true

module _ (r : Railway) (acc : record_refusal r ≡ none) (figs sets : List ℕ) (d : Desk) (n : ℕ) (runs : RunsFrom r figs sets d n) where
  -- with so much left to be spent
  go_on : (k : ℕ) (ts : List ℕ) (e : Desk) → Reporting r figs sets d ts e → n ≤ k + total r ts → Brought r figs sets d
  go_on zero ts e calls l =
      let s : AfterReports r figs sets d n ts e = runs ts e calls in record { trains = ts; desk = e; calls = calls; home = s.home_by (omega arith) }
  go_on (suc k) ts e calls l =
      let s : AfterReports r figs sets d n ts e = runs ts e calls in
      elim (bool? (at_home r (desk_code r e))) [
        | inl h ↦ record { trains = ts; desk = e; calls = calls; home = h }
        | inr h ↦
            let t : (t : ℕ) × (may (game_of r) (desk_code r e) (present r e sets) t ≡ true) = s.goes_on h in
            let m : MoveCounts r figs sets e t.0 = s.each t.0 t.1 in
            let y : Reply = report r e figs sets t.0 m.section in
            let post : ReportPost r e figs sets t.0 m.section y = report-made r e figs sets t.0 m.section in
            let more : total r (ts ++ moved_by y.answer t.0) ≡ total r ts + weight_of r t.0 =
            ap (λ (a : ReportAnswer). total r (ts ++ moved_by a t.0)) (m.counts y post) ∙ total-snoc r ts t.0 in
            let some-cost : 1 ≤ weight_of r t.0 = costs r (facts r acc) t.0 (may-train (game_of r) (desk_code r e) (present r e sets) t.0 t.1) in
            go_on k (ts ++ moved_by y.answer t.0) y.desk (call t.0 m.section y calls post) (omega (arith, more, some-cost))
      ]

  pub brought : Brought r figs sets d
  brought = go_on n [] d begun (omega arith)

-- from an opened desk, with the tables that a solver leaves in any that are long enough
pub record Homes (r : Railway) (figs sets : List ℕ) : Type 0 where
  pub left : Made r figs sets
  pub reports : Brought r left.new-figs left.new-sets (open_desk r left.new-figs left.new-sets).desk

pub home-reached : (r : Railway) → record_refusal r ≡ none → (figs sets : List ℕ) → placements r ≤ length figs → placements r ≤ length sets
    → (n : ℕ) → IsFigure (game_of r) (start_code r) (some n) → Homes r figs sets
home-reached r acc figs sets lf ls n i =
    let m : Made r figs sets = tables-exist r acc figs sets lf ls in
    let x : Opening = open_desk r m.new-figs m.new-sets in
    let d : DeskRuns r m.new-figs m.new-sets =
    desk-runs r acc m.new-figs m.new-sets m.made.filled (rw m.made.kept-figs.as_long lf) (rw m.made.kept_sets.as_long ls) in
    record { left = m; reports = brought r acc m.new-figs m.new-sets x.desk n (d.runs x (open_made r m.new-figs m.new-sets) n i) }
