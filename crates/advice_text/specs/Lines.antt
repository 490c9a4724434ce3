-- What program `advise` writes for a case text, refused or not (document 02, Q-10). Assumes nothing.
use Rattle.std.specs.Prelude.{◌≡◌, List, [], ◌∷◌, ℕ, suc, ◌<◌, take, replicate}
use Rattle.text.specs.Text.{line, bytes}
use Rattle.railway.specs.declared.Side.{Side}
use Rattle.railway.specs.declared.SectionNo.{SectionNo}
use Rattle.railway.specs.declared.Railway.{Railway}
use Rattle.game_tables.specs.Lengths.{entries}
use Rattle.case_file.specs.Form.{section_field}
use Rattle.case_file.specs.Rows.{most_bytes}
use Rattle.case_reader.specs.Answers.{ByCase}
use Rattle.answer_lines.specs.Lines.{refusal_line}
use Rattle.answer_lines.specs.Input.{WrittenFor}
use Rattle.advice.specs.Advice.{Advice, NotNeeded, Signal, NoneHelps, Refused}
use Rattle.advice.specs.Advising.{AdvicePost}

-- A section end, in the spelling of the case file.
abbrev pub end_line : SectionNo → Side → List ℕ
end_line n s = line (section_field (suc n.0) s ∷ [])

-- The line for an answer.
abbrev pub advice_line : Advice → List ℕ
advice_line NotNeeded = line (bytes "no signal needed" ∷ [])
advice_line (Signal n s) = end_line n s
advice_line NoneHelps = line (bytes "no single signal helps" ∷ [])
advice_line (Refused f) = refusal_line f

-- A table of the program's own.
abbrev pub blank : List ℕ
blank = replicate entries 0

-- A RAILWAY: the line for what is advised with two of these lent.
pub record RailwayAdvice (r : Railway) (text : List ℕ) : Type 0 where
  pub answer : Advice
  pub figs : List ℕ
  pub sets : List ℕ
  pub advised : AdvicePost r answer blank blank figs sets
  pub written : text ≡ advice_line answer

-- A CASE TEXT: the line of the reader's refusal, or the line for its railway.
abbrev pub CaseAdvice : List ℕ → List ℕ → Type 0
CaseAdvice case text = ByCase case (λ f. text ≡ refusal_line f) (λ r. RailwayAdvice r text)

-- No such line has more bytes.
abbrev pub advice_bytes : ℕ
advice_bytes = 24

-- One byte more than a case text may have: what is written for so many bytes of a text is written for the text, whatever follows them.
abbrev pub CutWrites : Type 0
CutWrites = (case text : List ℕ) (n : ℕ) → most_bytes < n → CaseAdvice (take n case) text → CaseAdvice case text

-- What the program that reads standard input promises of how many bytes it writes: there is a case text, no longer
-- than is read, and so many bytes has its line. No definition can say which bytes come in, nor that any went out.
abbrev pub Advised : ℕ → Type 0
Advised n = WrittenFor CaseAdvice n
