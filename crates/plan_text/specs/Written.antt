-- What program `signalplan` writes for a case text, refused or not (document 01, end of "The two tables and the plan": what `signalplan` writes).
-- Assumes nothing.
use Rattle.std.specs.Prelude.{◌≡◌, List, ℕ, suc, ◌*◌, ◌<◌, take, replicate}
use Rattle.railway.specs.declared.Railway.{Railway}
use Rattle.game_tables.specs.SolverAnswer.{SolverAnswer, Refused, Unsolvable, Figure}
use Rattle.game_tables.specs.Lengths.{entries}
use Rattle.game_tables.specs.Solver.{SolverPost}
use Rattle.plan.specs.Lines.{most_line_bytes}
use Rattle.plan.specs.Text.{plan_text}
use Rattle.answer_lines.specs.Lines.{refusal_line, none_line}
use Rattle.case_file.specs.Rows.{most_bytes}
use Rattle.case_reader.specs.Answers.{ByCase}

-- The text for a solver's answer and the two tables that it left: the plan, `none`, or the refusal's line.
abbrev pub output_text : Railway → SolverAnswer → List ℕ → List ℕ → List ℕ
output_text r (Refused f) figs sets = refusal_line f
output_text r Unsolvable figs sets = none_line
output_text r (Figure n) figs sets = plan_text r figs sets

-- A table of the program's own, as the solver is lent it.
abbrev pub blank : List ℕ
blank = replicate entries 0

-- A RAILWAY: the text for what a solver answers that is lent two of these, and for the tables that it leaves.
pub record RailwayOutput (r : Railway) (text : List ℕ) : Type 0 where
  pub answer : SolverAnswer
  pub figs : List ℕ
  pub sets : List ℕ
  pub solved : SolverPost r answer blank blank figs sets
  pub written : text ≡ output_text r answer figs sets

-- A CASE TEXT: the line of the reader's refusal, or the text for its railway.
abbrev pub CaseOutput : List ℕ → List ℕ → Type 0
CaseOutput case text = ByCase case (λ f. text ≡ refusal_line f) (λ r. RailwayOutput r text)

-- No such text has more bytes than a first line, and one for each entry of a table.
abbrev pub text_bytes : ℕ
text_bytes = suc entries * most_line_bytes

-- One byte more than a case text may have: what is written for so many bytes of a text is written for the text, whatever follows them.
abbrev pub CutWrites : Type 0
CutWrites = (case text : List ℕ) (n : ℕ) → most_bytes < n → CaseOutput (take n case) text → CaseOutput case text
