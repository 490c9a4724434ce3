-- What is promised of the program's call: no definition can say which bytes come in, nor that any went out, so it speaks of a case, of lines and of files that there are. Assumes nothing.
use Rattle.std.specs.Prelude.{◌≡◌, Bool, true, false, List, ℕ, suc, ◌≤◌, ◌<◌, length, take, replicate}
use Rattle.laws.specs.Lists.{Every}
use Rattle.railway.specs.declared.Railway.{Railway}
use Rattle.case_file.specs.CaseRead.{CaseRead}
use Rattle.case_file.specs.Rows.{most_bytes}
use Rattle.case_file.specs.Given.{ReaderPost}
use Rattle.case_reader.specs.Answers.{ByCase}
use Rattle.game_tables.specs.SolverAnswer.{SolverAnswer}
use Rattle.game_tables.specs.Lengths.{entries}
use Rattle.game_tables.specs.Solver.{SolverPost}
use Rattle.answer_lines.specs.Lines.{refusal_line}
use Rattle.desk.specs.Desk.{Desk}
use Rattle.desk.specs.Change.{Working, beginning_with, Works}
use Rattle.desk_lines.specs.Panel.{most_state_bytes}
use Rattle.desk_lines.specs.Changes.{is_change}
use Rattle.desk_io.specs.Session.{Panel, panel_of, Heard, Input, change_heard, heard_for, panel_behind, panel_text}

-- WHAT IS WRITTEN OUT: so many bytes, with this panel behind it.
pub record Wrote (h : Heard) (p : Panel) (n : ℕ) (g : Bool) : Type 0 where
  pub bytes : n ≡ length h.text
  pub few : n ≤ most_state_bytes
  pub panel : p ≡ h.panel
  pub going : g ≡ h.going

-- A table of the program's own, as the solver is lent it.
abbrev pub blank : List ℕ
blank = replicate entries 0

-- A FILE that a change names: a text no longer than is read, the reader's answer to it, and the tables that a solver leaves in two of these.
pub record FileRead (x : Input) : Type 0 where
  pub short : length x.file ≤ suc most_bytes
  pub reads : ReaderPost x.file x.read
  pub answer : SolverAnswer
  pub solved : SolverPost x.read.railway answer blank blank x.figs x.sets

-- What is written for a change to the case of this text, by whatever line: nothing of document 02 rests on it.
pub record NewCase (text : List ℕ) (p q : Panel) (n : ℕ) (g : Bool) : Type 0 where
  pub read : CaseRead
  pub reads : ReaderPost text read
  pub answer : SolverAnswer
  pub figs : List ℕ
  pub sets : List ℕ
  pub solved : SolverPost read.railway answer blank blank figs sets
  pub wrote : (l : List ℕ) → Wrote (change_heard p (record { line = l; file = text; read = read; figs = figs; sets = sets })) q n g

-- What comes in with a line, if it is a change.
abbrev pub Came : Input → Type 0
Came x = is_change x.line ≡ true → FileRead x

-- One line more, if there is one: nothing of document 02 rests on it.
pub data Turned (p q : Panel) (n : ℕ) (g : Bool) : Type 0 where
  over : q ≡ p → n ≡ 0 → g ≡ false → Turned p q n g
  heard : (x : Input) → Came x → Wrote (heard_for p x) q n g → Turned p q n g

-- A desk that is followed with these tables, from its opening on: there are lines, with the files that they name, and so many bytes are all that is written for them.
pub record Ran (r : Railway) (figs sets : List ℕ) (n : ℕ) : Type 0 where
  pub inputs : List Input
  pub came : Every Came inputs
  pub count : n ≡ length (panel_text r figs sets inputs)

-- A RAILWAY: with the tables that a solver leaves in two of the program's own.
pub record Solved (r : Railway) (n : ℕ) : Type 0 where
  pub answer : SolverAnswer
  pub figs : List ℕ
  pub sets : List ℕ
  pub solved : SolverPost r answer blank blank figs sets
  pub ran : Ran r figs sets n

-- A CASE TEXT: so many bytes are the line of the reader's refusal, or those for its railway.
abbrev pub CaseFollowed : List ℕ → ℕ → Type 0
CaseFollowed case n = ByCase case (λ f. n ≡ length (refusal_line f)) (λ r. Solved r n)

-- THE PROGRAM: there is a case text, no longer than is read, and so many bytes are written for it and for lines that there are.
pub record Followed (n : ℕ) : Type 0 where
  pub case : List ℕ
  pub short : length case ≤ suc most_bytes
  pub followed : CaseFollowed case n

-- One byte more than a case text may have: what is written for so many bytes of a text is written for the text, whatever follows them.
abbrev pub CutFollows : Type 0
CutFollows = (case : List ℕ) (n m : ℕ) → most_bytes < m → CaseFollowed (take m case) n → CaseFollowed case n

-- THE PANEL behind some lines is one that calls for reports and changes lead to, one after the other (`Works`). So what is promised of those holds of its desk: with the solver's tables,
-- from the opening on and from each change on, no more reports count before home than the figure there says (`DeskRuns` in desk/Following, `ChangeHolds` in desk/Change).
abbrev pub ByCalls : Type 0
ByCalls = (r : Railway) (figs sets : List ℕ) (d : Desk) (xs : List Input) → Every Came xs
    → (w : Working) × Works (beginning_with r figs sets d) w × (panel_of w.railway w.figs w.sets w.desk ≡ panel_behind (panel_of r figs sets d) xs)
