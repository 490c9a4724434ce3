-- What following a plan at a desk comes to, over whole lists of reports (document 02, Q-1; the code and the count that it carries, Q-9; figures are totals of weights, Q-12).
-- Assumes nothing.
use Rattle.std.specs.Prelude.{◌≡◌, ◌↔◌, true, false, List, [], ◌∷◌, ◌++◌, ℕ, ◌+◌, ◌≤◌, ◌<◌, length, get_or}
use Rattle.std.proofs.Math.Option.{none, some}
use Rattle.railway.specs.declared.Railway.{Railway}
use Rattle.railway.specs.declared.Refusal.{Refusal}
use Rattle.railway.specs.declared.Refusal.TheVariants.{Report}
use Rattle.railway.specs.Bounds.{most_trains}
use Rattle.railway.specs.Record.{train_of, weight_of}
use Rattle.railway.specs.Rows.{record_refusal}
use Rattle.game.specs.Game.{at, Turn, Adversary, following, standing, may, play, spent, IsFigure}
use Rattle.game.specs.Claim.{Keeps}
use Rattle.game.specs.Placement.{placements, start_code, at_home}
use Rattle.game.specs.Setting.{Setting}
use Rattle.game.specs.Moves.{move_of, game_of}
use Rattle.game_tables.specs.SolverAnswer.{SolverAnswer}
use Rattle.game_tables.specs.Tables.{figure_in, setting_in, case_refusal}
use Rattle.game_tables.specs.Solver.{SolverPost}
use Rattle.game_placement.specs.declared.Placement.{Placement}
use Rattle.game_placement.specs.ByValue.{section_in}
use Rattle.desk.specs.OpenAnswer.{Opened, NoFigure}
use Rattle.desk.specs.SettingAnswer.{SettingAnswer, Refused as SettingRefused}
use Rattle.desk.specs.ReportAnswer.{ReportAnswer, Counted, Refused}
use Rattle.desk.specs.Desk.{Desk, desk_code, misplaced, arrivals, desk_row, present, allows, moved_desk, Opening, Reply, desk_given, setting_given, OpenPost, SettingPost, ReportPost}

-- The train of a report, by its answer: none, if it does not count.
abbrev pub moved_by : ReportAnswer → ℕ → List ℕ
moved_by Counted t = t ∷ []
moved_by (Refused f) t = []

-- THE CALLS for reports, one after the other, by anyone, each with the desk that the last one handed back: with this case and these tables, and among them any that are refused,
-- with whatever record and tables. Listed are the trains of the reports that counted, in their order.
pub data Reporting (r : Railway) (figs sets : List ℕ) : Desk → List ℕ → Desk → Type 0 where
  begun : {d : Desk} → Reporting r figs sets d [] d
  call : {d e : Desk} {ts : List ℕ} (t x : ℕ) (y : Reply) → Reporting r figs sets d ts e → ReportPost r e figs sets t x y → Reporting r figs sets d (ts ++ moved_by y.answer t) y.desk
  refused : {d e : Desk} {ts : List ℕ} (o : Railway) (figs₁ sets₁ : List ℕ) (t x : ℕ) (f : Refusal) (y : Reply) → Reporting r figs sets d ts e → ReportPost o e figs₁ sets₁ t x y
      → y.answer ≡ Refused f → Reporting r figs sets d ts y.desk

-- What the moves of these trains cost, in sum.
unfoldable pub total : Railway → List ℕ → ℕ
total r [] = 0
total r (t ∷ ts) = weight_of r t + total r ts

-- The trains that moved in these turns, turn by turn, are these: one in each.
unfoldable pub Movers : List (Turn Setting) → List ℕ → Type 0
Movers [] [] = Unit {0}
Movers [] (t ∷ ts) = ⊥
Movers (x ∷ h) [] = ⊥
Movers (x ∷ h) (t ∷ ts) = (x.moved ≡ some t) × Movers h ts

-- These trains, in this order, make a play from placement p to placement q in which the setting table is followed, a turn each.
pub record Played (r : Railway) (sets : List ℕ) (p : ℕ) (ts : List ℕ) (q : ℕ) : Type 0 where
  pub choice : Adversary Setting
  pub turns : List (Turn Setting)
  pub plays : play (game_of r) (following (setting_in r sets)) choice p (length ts) ≡ standing turns q
  pub moved : Movers turns ts
  pub costs : spent (game_of r) turns ≡ total r ts

-- A train that may move: there is a section of the railway whose report counts, and the desk then has the placement that the move ends in.
pub record MoveCounts (r : Railway) (figs sets : List ℕ) (d : Desk) (t : ℕ) : Type 0 where
  pub section : ℕ
  pub there : section < r.sections
  pub counts : (y : Reply) → ReportPost r d figs sets t section y → y.answer ≡ Counted
  pub arrives : (y : Reply) → ReportPost r d figs sets t section y → move_of r (desk_code r d) (present r d sets) t ≡ at (desk_code r y.desk)

-- WHAT A DESK CARRIES is right: the code, and the count of trains on their destinations.
pub record Carries (r : Railway) (d : Desk) : Type 0 where
  pub code : d.code ≡ desk_code r d
  pub arrived : d.arrived ≡ arrivals r (desk_code r d)

-- AFTER REPORTS: d is the desk before them, at a placement of figure n, ts are the trains of those that counted, and e is the desk after them.
pub record AfterReports (r : Railway) (figs sets : List ℕ) (d : Desk) (n : ℕ) (ts : List ℕ) (e : Desk) : Type 0 where
  -- its placement has a figure, and each report that counted has lowered it by at least the weight of its train
  pub figure : ℕ
  pub has : figure_in figs (desk_code r e) ≡ some figure
  pub lowered : figure + total r ts ≤ n
  -- so no more reports count than the first figure, and when their moves have cost as much the trains are home
  pub at-most : length ts ≤ n
  pub home_by : n ≤ total r ts → at_home r (desk_code r e) ≡ true
  -- it carries the code of its placement, and how many trains stand on their destinations: all of them exactly at home
  pub carries : Carries r e
  pub lamp : (e.arrived ≡ r.trains) ↔ (at_home r (desk_code r e) ≡ true)
  -- 12 does not stop the desk, and it gives the setting that the table has
  pub sound : desk_row r e ≡ false
  pub gives : (a : SettingAnswer) → SettingPost r e figs sets a → setting_given a ≡ some (get_or sets (desk_code r e) 0)
  -- until home some train may move, and of each that may the report counts; at home none does
  pub goes_on : at_home r (desk_code r e) ≡ false → (t : ℕ) × (may (game_of r) (desk_code r e) (present r e sets) t ≡ true)
  pub each : (t : ℕ) → may (game_of r) (desk_code r e) (present r e sets) t ≡ true → MoveCounts r figs sets e t
  pub home_ends : at_home r (desk_code r e) ≡ true → (t x : ℕ) (y : Reply) → ReportPost r e figs sets t x y → y.answer ≡ Refused Report
  -- whatever is reported next: if it counts, the figure is lower by the weight of its train at least
  pub lowers : (t x : ℕ) (y : Reply) → ReportPost r e figs sets t x y → y.answer ≡ Counted → (m : ℕ) × (figure_in figs (desk_code r y.desk) ≡ some m) × (m + weight_of r t ≤ figure)
  -- the reports that counted are the moves of a play in which the setting table is followed
  pub played : Played r sets (desk_code r d) ts (desk_code r e)

-- From this desk on, whatever is reported.
abbrev pub RunsFrom : Railway → List ℕ → List ℕ → Desk → ℕ → Type 0
RunsFrom r figs sets d n = (ts : List ℕ) (e : Desk) → Reporting r figs sets d ts e → AfterReports r figs sets d n ts e

-- TABLES THAT CAN BE FOLLOWED: away from home their setting keeps every figure that they have.
abbrev pub Followable : Railway → List ℕ → List ℕ → Type 0
Followable r figs sets = (p n : ℕ) → p < placements r → figure_in figs p ≡ some n → at_home r p ≡ false → Keeps (game_of r) (figure_in figs) p (setting_in r sets p) n

-- With such tables lent at every call, from any desk that 12 does not stop, at a placement that has a figure. (A desk's array always has that length.)
abbrev pub DescentHolds : Type 0
DescentHolds =
    (r : Railway) (figs sets : List ℕ) → record_refusal r ≡ none → placements r ≤ length figs → placements r ≤ length sets → Followable r figs sets
    → (d : Desk) → length d.at.sections ≡ most_trains → desk_row r d ≡ false → (n : ℕ) → figure_in figs (desk_code r d) ≡ some n → RunsFrom r figs sets d n

-- WITH THE SOLVER'S TABLES, lent from the opening on.
pub record DeskRuns (r : Railway) (figs sets : List ℕ) : Type 0 where
  -- none is answered exactly where the start has no figure, and else a desk is opened at the start
  pub none-exactly : (x : Opening) → OpenPost r figs sets x → (x.answer ≡ NoFigure) ↔ IsFigure (game_of r) (start_code r) none
  pub opened-exactly : (x : Opening) → OpenPost r figs sets x → (x.answer ≡ Opened) ↔ ((n : ℕ) × IsFigure (game_of r) (start_code r) (some n))
  pub at-start : (x : Opening) → OpenPost r figs sets x → x.answer ≡ Opened → (desk_code r x.desk ≡ start_code r) × ((t : ℕ) → t < r.trains → section_in x.desk.at t ≡ (train_of r t).start.0)
  -- from there on no more reports count than the start's figure says, and with them the trains come home
  pub runs : (x : Opening) → OpenPost r figs sets x → (n : ℕ) → IsFigure (game_of r) (start_code r) (some n) → RunsFrom r figs sets x.desk n

-- OF ANY DESK, whatever is lent. When a report counts, in the game's words: no number stops the case, nor 12 the desk; the trains are not home; the train may move under the present
-- setting, and its move ends in the placement that has it on section x.
pub record Countable (r : Railway) (figs sets : List ℕ) (d : Desk) (t x : ℕ) : Type 0 where
  pub accepted : case_refusal r figs sets ≡ none
  pub placed : desk_row r d ≡ false
  pub away : at_home r (desk_code r d) ≡ false
  pub allowed : may (game_of r) (desk_code r d) (present r d sets) t ≡ true
  pub there : x < r.sections
  pub ends : move_of r (desk_code r d) (present r d sets) t ≡ at (desk_code r (moved_desk r d t x))

-- A placement that can be: each train stands on a section that is there, and no two on the same.
pub record Apart (r : Railway) (q : Placement) : Type 0 where
  pub there : (t : ℕ) → t < r.trains → section_in q t < r.sections
  pub alone : (t u : ℕ) → t < r.trains → u < r.trains → section_in q t ≡ section_in q u → t ≡ u

-- What holds of every desk.
pub record AnyDesk : Type 0 where
  -- which desks 12 does not stop: those at a placement that can be, which carry what is right
  pub placed : (r : Railway) (q : Placement) → (misplaced r q ≡ false) ↔ Apart r q
  pub sound : (r : Railway) (d : Desk) → (desk_row r d ≡ false) ↔ ((misplaced r d.at ≡ false) × Carries r d)
  -- any other gets 12 at any call, where no number stops the case
  pub stopped-setting : (r : Railway) (figs sets : List ℕ) (d : Desk) → case_refusal r figs sets ≡ none → desk_row r d ≡ true
      → (a : SettingAnswer) → SettingPost r d figs sets a → a ≡ SettingRefused Report
  pub stopped-report : (r : Railway) (figs sets : List ℕ) (d : Desk) → case_refusal r figs sets ≡ none → desk_row r d ≡ true
      → (t x : ℕ) (y : Reply) → ReportPost r d figs sets t x y → y.answer ≡ Refused Report
  -- what a desk carries is right from its opening on, whatever tables are lent, and then the count is the number of trains exactly at home
  pub opened-right : (r : Railway) (figs sets : List ℕ) (x : Opening) → OpenPost r figs sets x → x.answer ≡ Opened → Carries r x.desk
  pub stays-right : (r : Railway) (figs sets : List ℕ) (d : Desk) → Carries r d → (ts : List ℕ) (e : Desk) → Reporting r figs sets d ts e → Carries r e
  pub lamp : (r : Railway) (d : Desk) → Carries r d → (d.arrived ≡ r.trains) ↔ (at_home r (desk_code r d) ≡ true)
  -- which reports count; the desk then has the train on the section reported, and else it is as it was
  pub counted : (r : Railway) (figs sets : List ℕ) (d : Desk) → length d.at.sections ≡ most_trains → (t x : ℕ) (y : Reply) → ReportPost r d figs sets t x y
      → (y.answer ≡ Counted) ↔ Countable r figs sets d t x
  pub next : (r : Railway) (figs sets : List ℕ) (d : Desk) (t x : ℕ) (y : Reply) → ReportPost r d figs sets t x y → y.answer ≡ Counted → y.desk ≡ moved_desk r d t x
  pub leaves : (r : Railway) (figs sets : List ℕ) (d : Desk) (t x : ℕ) (y : Reply) (f : Refusal) → ReportPost r d figs sets t x y → y.answer ≡ Refused f → y.desk ≡ d
  -- at home the setting allows no move, since every train is parked there
  pub home-parks : (r : Railway) (d : Desk) (sets : List ℕ) (t x : ℕ) → at_home r (desk_code r d) ≡ true → allows r d sets t x ≡ false
  -- where no desk is opened, 12 stops the one that is handed out, in every accepted case
  pub unopened : (r : Railway) (figs sets : List ℕ) (x : Opening) → OpenPost r figs sets x
      → desk_given x.answer x.desk ≡ none → (o : Railway) → record_refusal o ≡ none → desk_row o x.desk ≡ true

-- Q-1 and Q-9: a desk with the tables that a solver filled, in every accepted case with tables that are long enough; with any tables that can be followed, which those are; and any
-- desk.
pub record DeskHolds : Type 0 where
  pub solved : (r : Railway) (a : SolverAnswer) (figs sets figs₁ sets₁ : List ℕ) → record_refusal r ≡ none → placements r ≤ length figs → placements r ≤ length sets
      → SolverPost r a figs sets figs₁ sets₁ → DeskRuns r figs₁ sets₁ × Followable r figs₁ sets₁
  pub descent : DescentHolds
  pub any-desk : AnyDesk
