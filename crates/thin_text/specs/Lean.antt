-- What program `thinplan` writes for a case text and a plan's (document 02, Q-14): the text of the lean plan, or `refused` and a number. Assumes nothing.
use Rattle.std.specs.Prelude.{◌≡◌, Bool, List, [], ◌∷◌, ℕ, ◌<◌, length, get_or, drop, replicate}
use Rattle.railway.specs.declared.Railway.{Railway}
use Rattle.railway.specs.CaseAnswer.{CaseAnswer}
use Rattle.game_tables.specs.Lengths.{entries}
use Rattle.plan.specs.TestAnswer.{TestAnswer}
use Rattle.plan.specs.Text.{plan_text}
use Rattle.plan.specs.Checker.{Checking}
use Rattle.plan.specs.Promises.{FreshPost}
use Rattle.case_reader.specs.Answers.{ByCase}
use Rattle.answer_lines.specs.Lines.{refusal_line, test_line}
use Rattle.check_text.specs.Pieces.{PiecePost, EndPost}
use Rattle.thin.specs.ThinAnswer.{ThinAnswer, Thinned, Refused}
use Rattle.thin.specs.Thinning.{ThinPost}

-- The text for what the call that thins answers, and for the tables that it leaves: the plan in them, or the refusal's line.
abbrev pub lean_text : Railway → ThinAnswer → Checking → List ℕ
lean_text r Thinned c = plan_text r c.figs c.sets
lean_text r (Refused f) c = refusal_line f

-- All lines were taken: the plan is thinned.
pub record ThinnedOutput (r : Railway) (c : Checking) (text : List ℕ) : Type 0 where
  pub answer : ThinAnswer
  pub left : Checking
  pub thinned : ThinPost r c answer left
  -- the program's tables have so many entries, which are numbers of 32 bits
  pub sized : length left.figs ≡ entries
  pub words : (p : ℕ) → get_or left.figs p 0 < 4294967296
  pub written : text ≡ lean_text r answer left

-- Bytes are left that were not taken: the line of the refusal that they get at the end (check_text/Pieces).
pub record LeftOutput (r : Railway) (c : Checking) (rest text : List ℕ) : Type 0 where
  pub answer : TestAnswer
  pub ended : EndPost r c rest answer
  pub written : text ≡ test_line answer

-- THE END, with these bytes left of the plan's text.
abbrev pub EndOutput : Railway → Checking → List ℕ → List ℕ → Type 0
EndOutput r c [] text = ThinnedOutput r c text
EndOutput r c (b ∷ bs) text = LeftOutput r c (b ∷ bs) text

-- A RAILWAY AND A PLAN'S TEXT: two tables of the program's own are made fresh, and the lines in front of the text are taken into them, as many as the checker takes; then the end.
pub record PlanOutput (r : Railway) (plan text : List ℕ) : Type 0 where
  pub made : CaseAnswer
  pub start : Checking
  pub fresh : FreshPost r (replicate entries 0) (replicate entries 0) made start
  pub bytes : ℕ
  pub stopped : Bool
  pub end : Checking
  pub lines : PiecePost r start plan bytes stopped end
  pub ends : EndOutput r end (drop bytes plan) text

-- A CASE TEXT AND A PLAN'S: the line of the reader's refusal, or the text for the railway of the case.
abbrev pub LeanOutput : List ℕ → List ℕ → List ℕ → Type 0
LeanOutput case plan text = ByCase case (λ f. text ≡ refusal_line f) (λ r. PlanOutput r plan text)
