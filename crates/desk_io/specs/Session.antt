-- All that program `deskrun` writes: line after line, at a panel that has a case, its tables and a desk; a change of case (document 02, Q-11) may put another case there. What is written for
-- the opening and for a report is in desk_text/Said. Assumes nothing.
use Rattle.std.specs.Prelude.{Bool, true, cond, List, [], ◌∷◌, ◌++◌, ℕ}
use Rattle.railway.specs.declared.Railway.{Railway}
use Rattle.railway.specs.CaseAnswer.{CaseAnswer, Accepted, Refused as CaseRefused}
use Rattle.railway.specs.Rows.{record_refusal}
use Rattle.case_file.specs.CaseRead.{CaseRead}
use Rattle.desk.specs.ChangeAnswer.{ChangeAnswer, Changed, Refused}
use Rattle.desk.specs.Desk.{Desk}
use Rattle.desk.specs.Change.{sooner, Changing, change_to}
use Rattle.desk_lines.specs.Changes.{is_change}
use Rattle.desk_text.specs.Said.{Said, refused_said, state_said, opening_said, line_said}

-- THE PANEL: the case that is followed, the tables that are lent with it, and the desk.
pub record Panel : Type 0 where
  pub railway : Railway
  pub figs : List ℕ
  pub sets : List ℕ
  pub desk : Desk

-- With these.
abbrev pub panel_of : Railway → List ℕ → List ℕ → Desk → Panel
panel_of r figs sets d = record { railway = r; figs = figs; sets = sets; desk = d }

-- What is written for a line, the panel behind it, and whether lines are read from there on.
pub record Heard : Type 0 where
  pub text : List ℕ
  pub panel : Panel
  pub going : Bool

-- Something said with this case and these tables.
abbrev pub heard_at : Railway → List ℕ → List ℕ → Said → Heard
heard_at r figs sets s = record { text = s.text; panel = panel_of r figs sets s.desk; going = s.going }

-- WHAT COMES IN: a line; and for one that names a file the file's text, what the reader answers to it, and the tables of that case.
pub record Input : Type 0 where
  pub line : List ℕ
  pub file : List ℕ
  pub read : CaseRead
  pub figs : List ℕ
  pub sets : List ℕ

-- A CHANGE. The answer to the call, by what the reader answers.
abbrev pub change_read : Railway → Desk → List ℕ → List ℕ → CaseAnswer → Railway → Changing
change_read r d figs sets Accepted s = change_to r s d figs sets
change_read r d figs sets (CaseRefused g) s = record { answer = Refused (sooner (record_refusal r) g); desk = d }

-- By that answer: the state with the new case and its tables, which are on the panel from there on; or a refusal, and work goes on as before.
abbrev pub changed_heard : Panel → Input → ChangeAnswer → Desk → Heard
changed_heard p x Changed d = heard_at x.read.railway x.figs x.sets (state_said x.read.railway x.figs x.sets d)
changed_heard p x (Refused f) d = heard_at p.railway p.figs p.sets (refused_said f d true)

-- The change that the line asks for, at this panel.
abbrev pub change_for : Panel → Input → Changing
change_for p x = change_read p.railway p.desk x.figs x.sets x.read.answer x.read.railway

-- What is written for it.
abbrev pub change_heard : Panel → Input → Heard
change_heard p x = changed_heard p x (change_for p x).answer (change_for p x).desk

-- A LINE: a change, or what is taken for a report.
abbrev pub heard_for : Panel → Input → Heard
heard_for p x = cond (is_change x.line) (change_heard p x) (heard_at p.railway p.figs p.sets (line_said p.railway p.figs p.sets p.desk x.line))

-- ALL LINES, one after the other, as long as lines are read.
unfoldable pub answers : Panel → List Input → List ℕ
answers p [] = []
answers p (x ∷ xs) = (heard_for p x).text ++ cond (heard_for p x).going (answers (heard_for p x).panel xs) []

-- And the panel behind them.
unfoldable pub panel_behind : Panel → List Input → Panel
panel_behind p [] = p
panel_behind p (x ∷ xs) = cond (heard_for p x).going (panel_behind (heard_for p x).panel xs) (heard_for p x).panel

-- Behind something written.
abbrev pub all_behind : Heard → List Input → List ℕ
all_behind h xs = h.text ++ cond h.going (answers h.panel xs) []

-- THE WHOLE of what is written for a case, its tables and some lines.
abbrev pub panel_text : Railway → List ℕ → List ℕ → List Input → List ℕ
panel_text r figs sets xs = all_behind (heard_at r figs sets (opening_said r figs sets)) xs
