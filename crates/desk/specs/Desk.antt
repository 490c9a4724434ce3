-- A desk for live running (document 02, Q-1): where it stands, the code and the count that it carries (Q-9), its three calls, and what they promise. Trains and sections count
-- from 0, the document's numbers less one; each call is answered for any record, desk, tables and report. Assumes nothing.
use Rattle.std.specs.Prelude.{◌≡◌, Bool, false, not, ◌&&◌, ◌||◌, List, [], ◌∷◌, ◌++◌, ℕ, get_or, set, replicate, eqb}
use Rattle.std.proofs.Math.Option.{Option, none, some}
use Rattle.laws.specs.Below.{count_below, list_below}
use Rattle.railway.specs.declared.Railway.{Railway}
use Rattle.railway.specs.declared.Refusal.{Refusal}
use Rattle.railway.specs.declared.Refusal.TheVariants.{Report}
use Rattle.railway.specs.Bounds.{most_trains}
use Rattle.railway.specs.Refusals.{number, Row, row, first, number_of}
use Rattle.railway.specs.Record.{train_of, is_closed}
use Rattle.railway.specs.Passing.{passes}
use Rattle.game.specs.Game.{may}
use Rattle.game.specs.Placement.{code_on, names_none, start_code, arrived, at_home, shared}
use Rattle.game.specs.Setting.{Setting, heads_for}
use Rattle.game.specs.Moves.{occupied, game_of}
use Rattle.game_tables.specs.Tables.{figure_in, setting_in, case_rows}
use Rattle.game_placement.specs.declared.Placement.{Placement}
use Rattle.game_placement.specs.ByValue.{section_in}
use Rattle.desk.specs.OpenAnswer.{OpenAnswer, Opened, NoFigure, Refused as OpenRefused}
use Rattle.desk.specs.SettingAnswer.{SettingAnswer, Given, Refused as SettingRefused}
use Rattle.desk.specs.ReportAnswer.{ReportAnswer, Counted, Refused}

-- A desk: the section of each train, the code of that placement, and how many trains stand on their destinations. What stands there for trains that the case does not have is not
-- looked at.
pub record Desk : Type 0 where
  pub at : Placement
  pub code : ℕ
  pub arrived : ℕ

-- The code of its placement, whatever code it carries.
abbrev pub desk_code : Railway → Desk → ℕ
desk_code r d = code_on r (section_in d.at)

-- A placement that cannot be: a train stands on no section of the case, or two stand on the same.
unfoldable pub misplaced : Railway → Placement → Bool
misplaced r q = names_none r (section_in q) || shared r (code_on r (section_in q))

-- How many of the case's trains stand on their destinations in placement p.
unfoldable pub arrivals : Railway → ℕ → ℕ
arrivals r p = count_below (arrived r p) r.trains

-- A desk carries another code than its placement's, or another count.
unfoldable pub miscarries : Railway → Desk → Bool
miscarries r d = not (eqb d.code (desk_code r d)) || not (eqb d.arrived (arrivals r (desk_code r d)))

-- 12 AT ANY CALL WITH A DESK: its placement cannot be, or what it carries is wrong.
abbrev pub desk_row : Railway → Desk → Bool
desk_row r d = misplaced r d.at || miscarries r d

-- The desk of a placement: opening and reports that count hand out no other.
abbrev pub desk_on : Railway → Placement → Desk
desk_on r q = record { at = q; code = code_on r (section_in q); arrived = arrivals r (code_on r (section_in q)) }

-- OPENING. The desk at the start.
abbrev pub start_desk : Railway → Desk
start_desk r = desk_on r (record { sections = list_below (λ t. (train_of r t).start.0) most_trains })

-- What is handed out where no desk is opened: no case has these sections, so that 12 stops it at every call.
abbrev pub no_desk : Desk
no_desk = record { at = record { sections = replicate most_trains 255 }; code = 0; arrived = 0 }

-- An answer to opening, and the desk beside it.
pub record Opening : Type 0 where
  pub answer : OpenAnswer
  pub desk : Desk

-- By the refusal, and by the figure that the lent table has at the start.
abbrev pub open_by : Railway → Option Refusal → Option ℕ → Opening
open_by r (some f) start = record { answer = OpenRefused f; desk = no_desk }
open_by r none none = record { answer = NoFigure; desk = no_desk }
open_by r none (some n) = record { answer = Opened; desk = start_desk r }

-- The call: the rows of the case, then the start's figure. No desk is handed in, so 12 is not given.
unfoldable pub open_desk : Railway → List ℕ → List ℕ → Opening
open_desk r figs sets = open_by r (first (case_rows r figs sets)) (figure_in figs (start_code r))

-- THE SETTING. Its rows: those of the case, then 12.
abbrev pub setting_rows : Railway → Desk → List ℕ → List ℕ → List Row
setting_rows r d figs sets = case_rows r figs sets ++ (row Report (desk_row r d) ∷ [])

-- By the refusal; else what the table has at the desk's placement, at home too.
abbrev pub setting_by : ℕ → Option Refusal → SettingAnswer
setting_by v (some f) = SettingRefused f
setting_by v none = Given v

-- The call.
unfoldable pub give_setting : Railway → Desk → List ℕ → List ℕ → SettingAnswer
give_setting r d figs sets = setting_by (get_or sets (desk_code r d) 0) (first (setting_rows r d figs sets))

-- A REPORT that train t has come to section x. The present setting: the table's at the desk's placement.
abbrev pub present : Railway → Desk → List ℕ → Setting
present r d sets = setting_in r sets (desk_code r d)

-- A way comes to section x.
abbrev pub comes_to : Option ℕ → ℕ → Bool
comes_to none x = false
comes_to (some y) x = eqb y x

-- The present setting allows the move: under it the train may move, and comes to section x. Whether it may stand there is asked apart.
unfoldable pub allows : Railway → Desk → List ℕ → ℕ → ℕ → Bool
allows r d sets t x = may (game_of r) (desk_code r d) (present r d sets) t && comes_to (passes r (present r d sets).plus (heads_for r (desk_code r d) t)).reached x

-- 12, report: the desk's own row; or all trains are home; or the move is not one that the setting allows, or comes onto another train, or into a closed section.
unfoldable pub report_row : Railway → Desk → List ℕ → ℕ → ℕ → Bool
report_row r d sets t x = desk_row r d || (at_home r (desk_code r d) || (not (allows r d sets t x) || (occupied r (desk_code r d) t x || is_closed r x)))

-- Its rows: those of the case, then 12, last.
abbrev pub report_rows : Railway → Desk → List ℕ → List ℕ → ℕ → ℕ → List Row
report_rows r d figs sets t x = case_rows r figs sets ++ (row Report (report_row r d sets t x) ∷ [])

-- The desk with train t on section x.
abbrev pub moved_desk : Railway → Desk → ℕ → ℕ → Desk
moved_desk r d t x = desk_on r (record { sections = set d.at.sections t x })

-- An answer to a report, and the next desk beside it.
pub record Reply : Type 0 where
  pub answer : ReportAnswer
  pub desk : Desk

-- By the refusal: refused, the desk is as it was.
abbrev pub report_by : Railway → Desk → ℕ → ℕ → Option Refusal → Reply
report_by r d t x (some f) = record { answer = Refused f; desk = d }
report_by r d t x none = record { answer = Counted; desk = moved_desk r d t x }

-- The call.
unfoldable pub report : Railway → Desk → List ℕ → List ℕ → ℕ → ℕ → Reply
report r d figs sets t x = report_by r d t x (first (report_rows r d figs sets t x))

-- THE NUMBERS, in the table, of the refusals that the answers give, if they do. Of opening.
abbrev pub number_opening : OpenAnswer → Option ℕ
number_opening Opened = none
number_opening NoFigure = none
number_opening (OpenRefused f) = some (number f)

-- Of the call for the setting.
abbrev pub number_setting : SettingAnswer → Option ℕ
number_setting (Given v) = none
number_setting (SettingRefused f) = some (number f)

-- Of a report.
abbrev pub number_reported : ReportAnswer → Option ℕ
number_reported Counted = none
number_reported (Refused f) = some (number f)

-- WHAT ELSE THEY GIVE: the desk that is opened, if one is, of the one that stands beside the answer.
abbrev pub desk_given : OpenAnswer → Desk → Option Desk
desk_given Opened d = some d
desk_given NoFigure d = none
desk_given (OpenRefused f) d = none

-- The setting.
abbrev pub setting_given : SettingAnswer → Option ℕ
setting_given (Given v) = some v
setting_given (SettingRefused f) = none

-- THE PROMISES. The tables are only read. Opening.
pub record OpenPost (r : Railway) (figs sets : List ℕ) (x : Opening) : Type 0 where
  pub numbered : number_opening x.answer ≡ number_of (first (case_rows r figs sets))
  pub answers : x ≡ open_desk r figs sets

-- The setting.
pub record SettingPost (r : Railway) (d : Desk) (figs sets : List ℕ) (a : SettingAnswer) : Type 0 where
  pub numbered : number_setting a ≡ number_of (first (setting_rows r d figs sets))
  pub answers : a ≡ give_setting r d figs sets

-- A report.
pub record ReportPost (r : Railway) (d : Desk) (figs sets : List ℕ) (t x : ℕ) (y : Reply) : Type 0 where
  pub numbered : number_reported y.answer ≡ number_of (first (report_rows r d figs sets t x))
  pub answers : y ≡ report r d figs sets t x
