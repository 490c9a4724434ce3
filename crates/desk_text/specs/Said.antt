-- What program `deskrun` writes for one case: for the opening of a desk, for the state where one stands, and for a line that is read there (document 02, Q-1: the plan followed on the
-- panel). Lines are taken without their ends. Assumes nothing.
use Rattle.std.specs.Prelude.{◌≡◌, Bool, true, false, cond, List, ℕ, ◌≤◌, length, get_or, eqb}
use Rattle.std.proofs.Math.Option.{Option, none, some}
use Rattle.railway.specs.declared.Railway.{Railway}
use Rattle.railway.specs.declared.Refusal.{Refusal}
use Rattle.railway.specs.declared.Refusal.TheVariants.{Report}
use Rattle.game_tables.specs.Tables.{no_figure}
use Rattle.case_file.specs.Written.{Written}
use Rattle.answer_lines.specs.Lines.{refusal_line, none_line, PutPost}
use Rattle.desk.specs.OpenAnswer.{OpenAnswer, Opened, NoFigure, Refused as OpenRefused}
use Rattle.desk.specs.SettingAnswer.{SettingAnswer, Given, Refused as SettingRefused}
use Rattle.desk.specs.ReportAnswer.{ReportAnswer, Counted, Refused}
use Rattle.desk.specs.Desk.{Desk, open_desk, give_setting, Reply, report}
use Rattle.desk_lines.specs.Panel.{state_line, home_line, most_state_bytes}
use Rattle.desk_lines.specs.Reports.{Told, report_in, place_of}

-- What is written, the desk behind it, and whether lines are read from there on.
pub record Said : Type 0 where
  pub text : List ℕ
  pub desk : Desk
  pub going : Bool

-- A refusal, with this desk.
abbrev pub refused_said : Refusal → Desk → Bool → Said
refused_said f d going = record { text = refusal_line f; desk = d; going = going }

-- THE STATE where a desk stands, read off what it carries. With entry v as its setting: `home` if all trains have arrived; else the state's line, with the figure that the table has at
-- its code.
abbrev pub given_said : Railway → List ℕ → Desk → ℕ → Said
given_said r figs d v =
    cond (eqb d.arrived r.trains) (record { text = home_line; desk = d; going = false })
    (record { text = state_line r.trains r.points d.at (get_or figs d.code no_figure) v; desk = d; going = true })

-- By the answer to the call for the setting.
abbrev pub setting_said : Railway → List ℕ → Desk → SettingAnswer → Said
setting_said r figs d (Given v) = given_said r figs d v
setting_said r figs d (SettingRefused f) = refused_said f d false

module _ (r : Railway) (figs sets : List ℕ) where
  abbrev pub state_said : Desk → Said
  state_said d = setting_said r figs d (give_setting r d figs sets)

  -- THE OPENING, by its answer: the state at the start; `none`; a refusal.
  abbrev pub opened_said : OpenAnswer → Desk → Said
  opened_said Opened d = state_said d
  opened_said NoFigure d = record { text = none_line; desk = d; going = false }
  opened_said (OpenRefused f) d = refused_said f d false

  abbrev pub opening_said : Said
  opening_said = opened_said (open_desk r figs sets).answer (open_desk r figs sets).desk

  -- A LINE at a desk. A report, by its answer: the state that it leads to; a refusal, and the desk that is handed back.
  abbrev pub replied_said : ReportAnswer → Desk → Said
  replied_said Counted d = state_said d
  replied_said (Refused f) d = refused_said f d true

  abbrev pub report_said : Reply → Said
  report_said y = replied_said y.answer y.desk

  -- That train t has come to section x, as the desk counts them.
  abbrev pub moved_said : Desk → ℕ → ℕ → Said
  moved_said d t x = report_said (report r d figs sets t x)

  -- By what the line is read as: what is no report is refused with 12, as a report that does not count.
  abbrev pub told_said : Desk → Option Told → Said
  told_said d (some y) = moved_said d (place_of y.train) (place_of y.section)
  told_said d none = refused_said Report d true

  abbrev pub line_said : Desk → List ℕ → Said
  line_said d l = told_said d (report_in l)

-- WHAT THE CALLS PROMISE that put such a text into a lent buffer: it is put there, and the desk and the flag are those of the definition.
pub record SaidPost (s : Said) (old : List ℕ) (d : Desk) (w : Written) (g : Bool) (new : List ℕ) : Type 0 where
  pub put : PutPost s.text old w new
  pub short : length s.text ≤ most_state_bytes
  pub desk : d ≡ s.desk
  pub going : g ≡ s.going
