-- WHAT PROGRAM `showcounts` WRITES for a case text, refused or not (document 02, Q-8: a measure of a layout, by the solver's table). Its tables are as long as those of `signalplan`.
-- Assumes nothing.
use Rattle.std.specs.Prelude.{◌≡◌, List, ℕ, ◌<◌, take, replicate}
use Rattle.railway.specs.declared.Railway.{Railway}
use Rattle.case_file.specs.Rows.{most_bytes}
use Rattle.case_reader.specs.Answers.{ByCase}
use Rattle.game.specs.Placement.{placements}
use Rattle.game_tables.specs.SolverAnswer.{SolverAnswer}
use Rattle.game_tables.specs.Lengths.{entries}
use Rattle.game_tables.specs.Solver.{SolverPost}
use Rattle.answer_lines.specs.Lines.{refusal_line}
use Rattle.answer_lines.specs.Input.{WrittenFor}
use Rattle.search_progress.specs.declared.Progress.{Progress}
use Rattle.search_progress.specs.Telling.{Tells}
use Rattle.counts.specs.CountAnswer.{CountAnswer, Counted, Refused}
use Rattle.counts.specs.Counts.{CountReply, CountPost}
use Rattle.counts_text.specs.Chart.{counts_text}

-- The counts told, of n placements with the figures of a table: how many have a figure, and the largest, are those of the table.
pub record ToldCounts (figs : List ℕ) (n : ℕ) (counts text : List ℕ) : Type 0 where
  pub progress : Progress
  pub tells : Tells figs n progress
  pub written : text ≡ counts_text n progress counts

-- By the answer: these, or the line of the refusal.
abbrev pub Told : Railway → List ℕ → List ℕ → List ℕ → CountAnswer → Type 0
Told r figs counts text Counted = ToldCounts figs (placements r) counts text
Told r figs counts text (Refused f) = text ≡ refusal_line f

-- A table of the program's own, as the solver is lent it.
abbrev pub blank : List ℕ
blank = replicate entries 0

-- A RAILWAY: the solver is lent two of these, and what it leaves of the first is counted. (If the tables are too short for the case, both refuse it with 9.)
pub record RailwayShown (r : Railway) (text : List ℕ) : Type 0 where
  pub answer : SolverAnswer
  pub figs : List ℕ
  pub sets : List ℕ
  pub solved : SolverPost r answer blank blank figs sets
  pub reply : CountReply
  pub counted : CountPost r figs reply
  pub told : Told r figs reply.counts text reply.answer

-- A CASE TEXT: the line of the reader's refusal, or the text for its railway.
abbrev pub CaseShown : List ℕ → List ℕ → Type 0
CaseShown case text = ByCase case (λ f. text ≡ refusal_line f) (λ r. RailwayShown r text)

-- One byte more than a case text may have: what is written for so many bytes of a text is written for the text, whatever follows them.
abbrev pub CutShows : Type 0
CutShows = (case text : List ℕ) (n : ℕ) → most_bytes < n → CaseShown (take n case) text → CaseShown case text

-- WHAT CAN BE PROMISED of the program: there is a case text, no longer than is read, and so many bytes are all that it writes for it.
abbrev pub Shown : ℕ → Type 0
Shown n = WrittenFor CaseShown n
