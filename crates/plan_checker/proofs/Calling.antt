-- The checker's calls for a line and for the test, from what the case, the line and the test of a plan answer. What was entered is what the line read
-- says, and the code of a line that fits the case is a placement's: an accepted railway has few of them. Assumes nothing.
use mathlib.Core.Path.{◌≡◌, refl, sym, ◌∙◌}
use mathlib.Core.Bool.{Bool, true, false}
use mathlib.Core.List.{List}
use mathlib.Core.Option.{Option, none, some}
use Prim.Native.Nat.{ℕ}
use native.Mathlib.Omega.{arith}
use native.Mathlib.Numerals.{add-one}
use Rattle.railway.specs.declared.Railway.{Railway}
use Rattle.railway.specs.declared.Refusal.{Refusal}
use Rattle.railway.specs.declared.Refusal.TheVariants.{PlanForm, PlanFault}
use Rattle.railway.specs.Rows.{record_refusal}
use Rattle.railway.specs.CaseAnswer.{Accepted, Refused}
use Rattle.game.proofs.Accepted.{Facts, facts}
use Rattle.game_tables.proofs.Exists.{few-placements}
use Rattle.plan.specs.declared.CheckerState.{CheckerState}
use Rattle.plan.specs.declared.CheckerState.TheVariants.{Fresh, Begun}
use Rattle.plan.specs.LineAnswer.{LineAnswer}
use Rattle.plan.specs.TestAnswer.{TestAnswer, Pass, Refused as TestRefused}
use Rattle.plan.specs.Lines.{PlanLine, start_line, placement_line, line_code}
use Rattle.plan.specs.Reading.{read_line}
use Rattle.plan.specs.Test.{by_tables}
use Rattle.plan.specs.Computed.{test_holds}
use Rattle.plan.specs.Checker.{Checking, Left}
use Rattle.plan.specs.Steps.{refuse, takes, tests}
use Rattle.plan.specs.Promises.{LinePost, TestPost}
use Rattle.plan.proofs.Reading.{reads-line}
use Rattle.plan.proofs.Checked.{code_in}
use Rattle.plan.proofs.Steps.{line-steps, test-steps}
use Rattle.plan.proofs.Promises.{takes-so, tests-so}
use Rattle.railway_compiled.specs.Compilation.{Compilation}
use Rattle.game_case.specs.Cases.{CasePost}
use Rattle.game_case.proofs.Cases.{opened-refused, opened-none}
use Rattle.plan_reader.specs.Answers.{answer_for}
use Rattle.plan_checker.specs.Steps.{takes_read, CodeSmall}

-- WHAT A LINE READ SAYS is what the line says
pub answer-takes : (r : Railway) (c : Checking) (s : CheckerState) (o : Option PlanLine) → takes_read c s (answer_for r o) ≡ takes r c s o
answer-takes r c s none = refl
answer-takes r c Fresh (some (start_line n)) = refl
answer-takes r c (Begun m from) (some (start_line n)) = refl
answer-takes r c Fresh (some (placement_line d)) = refl
answer-takes r c (Begun m from) (some (placement_line d)) = rw (add-one (line_code r d))

module _ (r : Railway) (accepted : record_refusal r ≡ none) where
  ok : Facts r
  ok = facts r accepted

  pub code-small : (text : List ℕ) (o : Option PlanLine) → read_line r text ≡ o → CodeSmall (answer_for r o)
  code-small text none e = tt
  code-small text (some (start_line n)) e = tt
  code-small text (some (placement_line d)) e =
      let f = ((reads-line r (omega (arith, ok.few-sections)) text (placement_line d)).0 e).fit in omega (arith, code_in r accepted d f, few-placements r accepted)

-- THE CALL FOR A LINE, by the case
module _ (r : Railway) (c : Checking) (k : Compilation) (case : CasePost r c.figs c.sets k) where
  module _ (text : List ℕ) where
    pub line_refused : (f : Refusal) → k.tested ≡ Refused f → (w : Left LineAnswer) → w ≡ refuse c f → LinePost r c text w.answer w.checking
    line_refused f e w h = takes-so r c text w (h ∙ sym (line-steps r c text (opened-refused case e)))

  -- THE CALL FOR THE TEST
  pub test-refused : (f : Refusal) → k.tested ≡ Refused f → TestPost r c (TestRefused f) c
  test-refused f e = tests-so r c (TestRefused f) (sym (test-steps r c (opened-refused case e)))

  pub test-judged : k.tested ≡ Accepted → (a : TestAnswer) → a ≡ tests r c none c.state → TestPost r c a c
  test-judged e a h = tests-so r c a (h ∙ sym (test-steps r c (opened-none case e)))

-- THE VERDICT: before the first line, and after it
module _ (r : Railway) (c : Checking) (s : CheckerState) where
  pub verdict-early : s ≡ Fresh → TestRefused PlanForm ≡ tests r c none s
  verdict-early e = rw e

  module _ (m from : ℕ) (e : s ≡ Begun m from) (b : Bool) (is : b ≡ test_holds r m (by_tables c.figs c.sets)) where
    pub verdict-pass : b ≡ true → Pass ≡ tests r c none s
    verdict-pass y = rw (e, sym is ∙ y)

    pub verdict-fault : b ≡ false → TestRefused PlanFault ≡ tests r c none s
    verdict-fault y = rw (e, sym is ∙ y)
