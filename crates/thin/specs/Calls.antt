-- Thinning behind a whole list of calls (document 02, Q-14): from tables made fresh, a call for each text, refused ones among them, then the call that thins, then the test. Of any calls
-- that keep their promises. All of this is a statement. Assumes nothing.
use Rattle.std.specs.Prelude.{◌≡◌, ◌↔◌, true, List, [], ◌∷◌, ◌++◌, ℕ, ◌≤◌, length}
use Rattle.std.proofs.Math.Option.{none}
use Rattle.railway.specs.declared.Railway.{Railway}
use Rattle.railway.specs.CaseAnswer.{CaseAnswer}
use Rattle.railway.specs.declared.Refusal.TheVariants.{PlanForm, PlanFault}
use Rattle.railway.specs.Rows.{record_refusal}
use Rattle.game.specs.Game.{Adversary, following, HomeWithin}
use Rattle.game.specs.Placement.{placements, start_code}
use Rattle.game.specs.Setting.{Setting}
use Rattle.game.specs.Moves.{game_of}
use Rattle.game_tables.specs.Tables.{setting_in}
use Rattle.plan.specs.TestAnswer.{TestAnswer, Pass}
use Rattle.plan.specs.Checker.{Checking, take_line, LineCalls, is_taken, taken_texts}
use Rattle.plan.specs.Checked.{InForm, Passing, Failing}
use Rattle.plan.specs.Promises.{TestPost, FreshPost}
use Rattle.plan.specs.Calls.{Taking}
use Rattle.thin.specs.ThinAnswer.{ThinAnswer, Thinned, Refused}
use Rattle.thin.specs.Thinning.{ThinPost}

-- By the texts that were taken: what the call answers, what it leaves, and what the test behind it answers.
pub record PlanThinned (r : Railway) (taken : List (List ℕ)) (a : ThinAnswer) (c' : Checking) (test : TestAnswer) : Type 0 where
  -- the plan is thinned exactly if its lines are in form and pass; 11 exactly if they are in form and fail; 10 exactly if there are none
  pub thinned : (a ≡ Thinned) ↔ Passing r taken
  pub faulty : (a ≡ Refused PlanFault) ↔ Failing r taken
  pub early : (a ≡ Refused PlanForm) ↔ (taken ≡ [])
  -- the test behind it passes the plan exactly if it passed before
  pub passes : (test ≡ Pass) ↔ Passing r taken
  -- whoever follows the thinned plan is home within the figure of the first line that was taken, against every choice of trains
  pub follow : (w : Passing r taken) (choice : Adversary Setting) → HomeWithin (game_of r) (following (setting_in r c'.sets)) choice (start_code r) w.start
  -- one more line is taken exactly if with it the lines taken are in form
  pub more : (text : List ℕ) → (is_taken (take_line r c' text).answer ≡ true) ↔ InForm r (taken ++ (text ∷ []))

-- In an accepted case with tables long enough, whatever stood in them.
abbrev pub PlansThin : Type 0
PlansThin =
    (r : Railway) → record_refusal r ≡ none → (lent₁ lent₂ : List ℕ) (made : CaseAnswer) (c : Checking) → placements r ≤ length lent₁ → placements r ≤ length lent₂
    → FreshPost r lent₁ lent₂ made c → (texts : List (List ℕ)) (u : LineCalls) → Taking r c texts u
    → (a : ThinAnswer) (c' : Checking) → ThinPost r u.end a c' → (test : TestAnswer) (c'' : Checking) → TestPost r c' test c''
    → PlanThinned r (taken_texts u.answers texts) a c' test
