-- A call that answers and leaves what its definition says keeps its promise: the number that the definition gives is that of the first row that
-- applies (Numbers). And where a record or tables are refused, the checker gives that refusal.
-- Assumes nothing.
use mathlib.Core.Path.{◌≡◌, refl, ◌∙◌, ap}
use mathlib.Core.List.{List}
use mathlib.Core.Option.{some}
use Prim.Native.Nat.{ℕ}
use Rattle.railway.specs.declared.Railway.{Railway}
use Rattle.railway.specs.declared.Refusal.{Refusal}
use Rattle.game_tables.specs.Tables.{case_refusal}
use Rattle.plan.specs.declared.PlanPlace.{PlanPlace}
use Rattle.plan.specs.LineAnswer.{LineAnswer, Refused as LineRefused}
use Rattle.plan.specs.TestAnswer.{TestAnswer, Refused as TestRefused}
use Rattle.plan.specs.Emitter.{number_given, Wrote, emit_line}
use Rattle.plan.specs.Checker.{line_number, test_number, Checking, Left, take_line, test_plan}
use Rattle.plan.specs.Promises.{EmitterPost, LinePost, TestPost}
use Rattle.plan.proofs.Steps.{line-steps, test-steps}
use Rattle.plan.proofs.Numbers.{emit-numbered, line-numbered, test-numbered}

module _ (r : Railway) (figs sets : List ℕ) (place : PlanPlace) (old : List ℕ) where
  pub emits-so : (w : Wrote) → w ≡ emit_line r figs sets place old → EmitterPost r figs sets place old w.answer w.buffer
  emits-so w e =
      record {
        answer = ap (λ (x : Wrote). x.answer) e;
        numbered = ap (λ (x : Wrote). number_given x.answer) e ∙ emit-numbered r figs sets place old;
        buffer = ap (λ (x : Wrote). x.buffer) e;
      }

module _ (r : Railway) (c : Checking) where
  pub line_refused : (text : List ℕ) (f : Refusal) → case_refusal r c.figs c.sets ≡ some f → (take_line r c text).answer ≡ LineRefused f
  line_refused text f e = ap (λ (x : Left LineAnswer). x.answer) (line-steps r c text e)

  pub takes-so : (text : List ℕ) (x : Left LineAnswer) → x ≡ take_line r c text → LinePost r c text x.answer x.checking
  takes-so text x e =
      record {
        answer = ap (λ (y : Left LineAnswer). y.answer) e;
        numbered = ap (λ (y : Left LineAnswer). line_number y.answer) e ∙ line-numbered r c text;
        checking = ap (λ (y : Left LineAnswer). y.checking) e;
      }

  pub test-refused : (f : Refusal) → case_refusal r c.figs c.sets ≡ some f → (test_plan r c).answer ≡ TestRefused f
  test-refused f e = test-steps r c e

  pub tests-so : (a : TestAnswer) → a ≡ (test_plan r c).answer → TestPost r c a c
  unfolding test_plan
  tests-so a e = record { answer = e; numbered = ap test_number e ∙ test-numbered r c; checking = refl }
