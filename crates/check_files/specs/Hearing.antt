-- What is promised of a case and a plan that are read from files (document 01, end of "The two tables and the plan": program `plancheck`). No promise
-- can say which bytes come in, nor how many pieces are waited for: it speaks of what stands in the buffers afterwards. That no piece is waited for behind a
-- refused line is read off the loop, which goes on only as `Turned` says (check_text/Pieces has what the pieces decide). Assumes nothing.
use Rattle.std.specs.Prelude.{◌≡◌, Bool, not, ◌&&◌, List, ℕ, ◌+◌, ◌-◌, ◌≤◌, ltb, length, take, drop}
use Rattle.railway.specs.declared.Railway.{Railway}
use Rattle.railway.specs.CaseAnswer.{CaseAnswer}
use Rattle.game_tables.specs.Lengths.{entries}
use Rattle.plan.specs.TestAnswer.{TestAnswer}
use Rattle.plan.specs.Promises.{FreshPost}
use Rattle.case_file.specs.Written.{Written}
use Rattle.plan.specs.Checker.{Checking}
use Rattle.answer_lines.specs.Lines.{most_answer_bytes, Puts}
use Rattle.check_text.specs.Verdict.{PlanPost, CheckOutput}
use Rattle.check_text.specs.Pieces.{PiecePost}

-- The first n bytes of the one buffer are the case's text and the first m of the other the plan's, and the line for them is put into the third.
pub record HeardPost (case plan line : List ℕ) (n m : ℕ) (w : Written) (line' : List ℕ) : Type 0 where
  pub case-within : n ≤ length case
  pub plan-within : m ≤ length plan
  pub put : Puts (CheckOutput (take n case) (take m plan)) most_answer_bytes line w line'

-- A plan that is heard from its first line on, by a checker with fresh tables: the answer is that of the bytes that came.
abbrev pub HeardPlan : Railway → Checking → List ℕ → ℕ → TestAnswer → Type 0
HeardPlan r start plan n a =
    (n ≤ length plan)
    × ((figs sets : List ℕ) (made : CaseAnswer) → length figs ≡ entries → length sets ≡ entries → FreshPost r figs sets made start → PlanPost r (take n plan) a)

-- So many bytes more were read into a buffer, behind those that were there, which stay.
pub record MoreRead (plan : List ℕ) (have n : ℕ) (plan' : List ℕ) : Type 0 where
  pub within : have + n ≤ length plan'
  pub as_long : length plan' ≡ length plan
  pub stays : take have plan' ≡ take have plan

-- One piece more, read behind the bytes that had come; nothing of document 01 rests on it. What had come stays, and the lines not taken are handed to
-- the checker; it goes on if something came and nothing is refused.
pub record Turned (r : Railway) (plan : List ℕ) (at have : ℕ) (c : Checking) (plan' : List ℕ) (at' have' : ℕ) (going' : Bool) (c' : Checking) : Type 0 where
  pub came : ℕ
  pub read : MoreRead plan have came plan'
  pub all : have' ≡ have + came
  pub bytes : ℕ
  pub stopped : Bool
  pub lines : PiecePost r c (take (have' - at) (drop at plan')) bytes stopped c'
  pub taken : at' ≡ at + bytes
  pub goes_on : going' ≡ (not stopped && ltb 0 came)
