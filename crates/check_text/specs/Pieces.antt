-- A plan's text that comes piece by piece (document 01, end of "The two tables and the plan": `plancheck` answers as soon as
-- a line is refused): a call for what has come and was not taken yet, a call at the end, and what all these calls together answer, whatever the
-- pieces are. Assumes nothing.
use Rattle.std.specs.Prelude.{◌≡◌, ◌↔◌, Bool, true, false, cond, ◌||◌, List, [], ◌∷◌, ◌++◌, ℕ, ◌+◌, eqb, length, drop}
use Rattle.std.proofs.Math.Option.{Option, none, some}
use Rattle.laws.specs.Lists.{any, all}
use Rattle.text.specs.Text.{line_end}
use Rattle.railway.specs.declared.Railway.{Railway}
use Rattle.railway.specs.CaseAnswer.{CaseAnswer}
use Rattle.railway.specs.declared.Refusal.{Refusal}
use Rattle.railway.specs.declared.Refusal.TheVariants.{PlanForm, PlanFault}
use Rattle.railway.specs.Refusals.{Row, row, first, number_of}
use Rattle.game_tables.specs.Lengths.{entries}
use Rattle.game_tables.specs.Tables.{case_rows, case_refusal}
use Rattle.plan.specs.FrontAnswer.{FrontAnswer, Took, Refused}
use Rattle.plan.specs.TestAnswer.{TestAnswer, Refused as TestRefused}
use Rattle.plan.specs.Checker.{Checking, test_number, nothing_taken, plan_fails, test_answer, call_lines, is_taken}
use Rattle.plan.specs.Several.{lines_of, take_front}
use Rattle.plan.specs.Promises.{FreshPost}
use Rattle.check_text.specs.Verdict.{check_text, PlanPost}

-- A line end stands in a text: its first line is whole.
abbrev pub has_line_end : List ℕ → Bool
has_line_end text = any (λ b. eqb b line_end) text

-- THE CALL FOR WHAT HAS COME. How many bytes were taken, by the answer of the call for the lines in front.
abbrev pub bytes_taken : FrontAnswer → ℕ
bytes_taken (Took n) = n
bytes_taken (Refused f) = 0

-- No line more can be taken: behind those that were stands a whole line, which is then refused, or the case is.
abbrev pub stops : List ℕ → FrontAnswer → Bool
stops rest (Took n) = has_line_end (drop n rest)
stops rest (Refused f) = true

-- What it promises, handed the bytes that came and were not taken yet.
pub record PiecePost (r : Railway) (old : Checking) (rest : List ℕ) (n : ℕ) (stopped : Bool) (new : Checking) : Type 0 where
  pub bytes : n ≡ bytes_taken (take_front r old rest).answer
  pub stop : stopped ≡ stops rest (take_front r old rest).answer
  pub checking : new ≡ (take_front r old rest).checking

-- THE CALL AT THE END. Bytes are left.
abbrev pub is_left : List ℕ → Bool
is_left [] = false
is_left (b ∷ bs) = true

-- Its rows: those of the case, 10 if bytes are left that were not taken or no line was, and 11 for the plan.
abbrev pub end_rows : Railway → Checking → List ℕ → List Row
end_rows r c rest = case_rows r c.figs c.sets ++ (row PlanForm (is_left rest || nothing_taken c.state) ∷ row PlanFault (plan_fails r c c.state) ∷ [])

-- Where bytes are left the case decides, and else plan form. (It follows from the rows; code goes by it.)
abbrev pub form_refused : Option Refusal → TestAnswer
form_refused (some f) = TestRefused f
form_refused none = TestRefused PlanForm

-- What it promises, handed the bytes that are left.
pub record EndPost (r : Railway) (c : Checking) (rest : List ℕ) (a : TestAnswer) : Type 0 where
  pub answer : a ≡ test_answer (first (end_rows r c rest))
  pub numbered : test_number a ≡ number_of (first (end_rows r c rest))

-- ALL CALLS, with a checker that has no line before the first of them: the text that has come so far, how many bytes of it were taken, what the calls have left, and
-- whether the last of them stopped. Each is handed what the last one left, and what has come behind the bytes taken.
pub data Coming (r : Railway) (start : Checking) : List ℕ → ℕ → Checking → Bool → Type 0 where
  nothing_yet : Coming r start [] 0 start false
  one_more : (text piece : List ℕ) (at n : ℕ) (c c' : Checking) (before stopped : Bool) → Coming r start text at c before
      → PiecePost r c (drop at (text ++ piece)) n stopped c' → Coming r start (text ++ piece) (at + n) c' stopped

-- The whole lines among some.
unfoldable pub whole : List (List ℕ) → List (List ℕ)
whole [] = []
whole (l ∷ ls) = cond (has_line_end l) (l ∷ whole ls) (whole ls)

-- What holds of them when a text has come.
pub record Decided (r : Railway) (start : Checking) (text : List ℕ) (at : ℕ) (c : Checking) (stopped : Bool) : Type 0 where
  -- if this is its end, the answer is that of the text checked whole
  pub answer : (a : TestAnswer) → EndPost r c (drop at text) a → PlanPost r text a
  -- in a case that is not refused the calls have stopped exactly if a whole line of the text is refused
  pub soon : case_refusal r start.figs start.sets ≡ none → (stopped ≡ true) ↔ (all is_taken (call_lines r (whole (lines_of text)) start).answers ≡ false)
  -- and once they have stopped, nothing that follows changes the answer
  pub final : stopped ≡ true → (more : List ℕ) → check_text r (text ++ more) ≡ check_text r text

-- It holds whatever the pieces are, with tables of as many entries as the programs' have, whatever stood in them.
abbrev pub PiecesDecide : Type 0
PiecesDecide =
    (r : Railway) (figs sets : List ℕ) (made : CaseAnswer) (start : Checking) → length figs ≡ entries → length sets ≡ entries → FreshPost r figs sets made start
    → (text : List ℕ) (at : ℕ) (c : Checking) (stopped : Bool) → Coming r start text at c stopped → Decided r start text at c stopped
