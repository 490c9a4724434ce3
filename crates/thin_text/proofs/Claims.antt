-- What `thinplan` writes and what `plancheck` says. Both take the same lines and ask the same test, so they refuse alike; and the text of a lean plan lists what the tables list, which pass the test.
-- Assumes nothing.
use mathlib.Core.Path.{◌≡◌, refl, sym, ◌∙◌, ap, subst}
use mathlib.Core.List.{List, [], ◌∷◌}
use mathlib.Core.Option.{Option, none, some}
use Prim.Native.Nat.{ℕ, ◌≤◌}
use native.Mathlib.Omega.{arith}
use lib.ListN.{length, drop, replicate, length-replicate}
use Rattle.railway.specs.declared.Railway.{Railway}
use Rattle.railway.specs.declared.Refusal.{Refusal}
use Rattle.game.specs.Placement.{placements}
use Rattle.game_tables.specs.Lengths.{entries}
use Rattle.game_tables.specs.Tables.{case_refusal}
use Rattle.game_tables.proofs.Refusals.{case-none}
use Rattle.plan.specs.TestAnswer.{TestAnswer, Pass, Refused as TestRefused}
use Rattle.plan.specs.Text.{plan_text}
use Rattle.plan.specs.Checker.{Checking, test_plan}
use Rattle.plan.specs.Several.{lines_of}
use Rattle.plan.specs.Checked.{Passing}
use Rattle.plan.proofs.Promises.{tests-so}
use Rattle.plan.proofs.SeveralCalls.{plan-lines}
use Rattle.answer_lines.specs.Lines.{test_line}
use Rattle.check_text.specs.Pieces.{form_refused, EndPost}
use Rattle.check_text.proofs.Claims.{verdict-holds}
use Rattle.check_text.proofs.Pieces.{ends-left, ends-tested, one_piece}
use Rattle.thin.specs.ThinAnswer.{ThinAnswer, Thinned}
use Rattle.thin.specs.Claims.{ThinClaims}
use Rattle.thin.proofs.Claims.{Passed, passed, thins-hold}
use Rattle.thin_text.specs.Lean.{lean_text, ThinnedOutput, LeftOutput, EndOutput}
use Rattle.plan_text.specs.Listable.{Listable}
use Rattle.thin_text.specs.Claims.{LeanSays, LeanPasses}
use Rattle.thin_text.proofs.Lean.{thinned-listable, to_the_end}
use Rattle.plan.proofs.Listing.{lines_fit, text-passes}

-- a refusal is no pass
not-pass : {A : Type 0} (o : Option Refusal) → form_refused o ≡ Pass → A
not-pass o e = absurd (go o e)
  where
    which : TestAnswer → ℕ
    which Pass = 0
    which (TestRefused f) = 1

    go : (o : Option Refusal) → form_refused o ≡ Pass → ⊥
    go none e = (let z : ◌≡◌ {A = ℕ} 1 0 = ap which e in absurd (omega arith))
    go (some f) e = (let z : ◌≡◌ {A = ℕ} 1 0 = ap which e in absurd (omega arith))

-- BYTES ARE LEFT: the answer is a refusal, and its line is written
module _ (r : Railway) (c : Checking) (b : ℕ) (bs text : List ℕ) (o : LeftOutput r c (b ∷ bs) text) (verdict : TestAnswer) (same : verdict ≡ o.answer) where
  pub left-says : LeanSays r text verdict
  left-says =
      record {
        refused = λ f e. o.written ∙ ap test_line (sym same ∙ e);
        passes = λ e again post. not-pass (case_refusal r c.figs c.sets)
            ((ends-left r c (b ∷ bs) (form_refused (case_refusal r c.figs c.sets)) (omega arith) refl).answer ∙ sym o.ended.answer ∙ sym same ∙ e);
      }

-- NONE ARE LEFT: the call that thins answers as the test does
module _ (r : Railway) (c : Checking) (text : List ℕ) (o : ThinnedOutput r c text) (verdict : TestAnswer) (same : verdict ≡ (test_plan r c).answer) where
  w : ThinClaims r c o.answer o.left
  w = thins-hold r c o.answer o.left o.thinned

  thinned-passes : verdict ≡ Pass → Passing r (lines_of text)
  thinned-passes e =
      let y : o.answer ≡ Thinned = w.passed.1 (sym same ∙ e) in
      let s : Listable r o.left.figs o.left.sets = thinned-listable r c o.answer o.left o.thinned y o.sized o.words in
      let k : Passed r o.left = passed r o.left (w.thinned y).passes in
      let figs = o.left.figs in
      let sets = o.left.sets in
      let t : text ≡ plan_text r figs sets = o.written ∙ ap (λ (x : ThinAnswer). lean_text r x o.left) y in
      let fit = lines_fit r k.accepted figs sets s.bounded s.figure s.start in
      subst (Passing r) (sym (ap lines_of t ∙ plan-lines r figs sets)) (text-passes r k.accepted figs sets k.figure k.test fit)

  pub thinned-says : LeanSays r text verdict
  thinned-says =
      record {
        refused = λ f e. o.written ∙ ap (λ (x : ThinAnswer). lean_text r x o.left) ((w.refused f).1 (sym same ∙ e));
        passes = λ e again post.
            let p : Passed r c = passed r c (sym same ∙ e) in
            let few : placements r ≤ length c.figs = ((case-none r c.figs c.sets).0 p.unrefused).1.figures in
            let long : length c.figs ≡ entries = ap (λ (xs : List ℕ). length xs) (sym w.figures) ∙ o.sized in
            (verdict-holds r p.accepted (omega (arith, few, long)) text again post).passes.1 (thinned-passes e);
      }

pub lean-passes : LeanPasses
lean-passes r plan text o verdict post = go (drop o.bytes plan) refl o.ends
  where
    -- what the calls answer at the end is the plan's verdict
    ends : (a : TestAnswer) → EndPost r o.end (drop o.bytes plan) a → verdict ≡ a
    ends a e =
        post.answer
        ∙ sym (one_piece r (replicate entries 0) (replicate entries 0) o.made o.start
        (length-replicate {A = ℕ} entries 0) (length-replicate {A = ℕ} entries 0) o.fresh plan o.bytes o.stopped o.end o.lines a
        (subst (λ (xs : List ℕ). EndPost r o.end xs a) (sym (to_the_end plan o.bytes)) e)).answer

    go : (rest : List ℕ) → drop o.bytes plan ≡ rest → EndOutput r o.end rest text → LeanSays r text verdict
    go [] is x =
        thinned-says r o.end text x verdict
        (ends (test_plan r o.end).answer (subst (λ (xs : List ℕ). EndPost r o.end xs (test_plan r o.end).answer) (sym is)
        (ends-tested r o.end [] (test_plan r o.end).answer o.end (omega arith) (tests-so r o.end (test_plan r o.end).answer refl))))
    go (b ∷ bs) is x = left-says r o.end b bs text x verdict (ends x.answer (subst (λ (xs : List ℕ). EndPost r o.end xs x.answer) (sym is) x.ended))
