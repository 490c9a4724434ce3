-- Thinning behind a whole list of calls: what the checker's tables hold then is what the lines taken say (plan/Checked), and a call that thins answers as the test does. A plan that is not
-- thinned is left as it was, so that the test behind answers as the test before. Assumes nothing.
use mathlib.Core.Path.{◌≡◌, refl, sym, ◌∙◌, ap, subst}
use mathlib.Core.Logic.{◌⊎◌, ◌↔◌, inl, inr}
use mathlib.Core.Bool.{true}
use mathlib.Core.List.{List, [], ◌∷◌, ◌++◌, head-eq_of_cons-eq}
use mathlib.Core.Option.{none}
use Prim.Native.Nat.{ℕ, ◌<◌}
use native.Mathlib.Omega.{arith}
use Rattle.railway.specs.declared.Railway.{Railway}
use Rattle.railway.specs.declared.Refusal.{Refusal}
use Rattle.railway.specs.declared.Refusal.TheVariants.{PlanForm, PlanFault}
use Rattle.railway.specs.Rows.{record_refusal}
use Rattle.game.specs.Game.{following, HomeWithin}
use Rattle.game.specs.Placement.{start_code}
use Rattle.game.specs.Moves.{game_of}
use Rattle.game.proofs.Accepted.{facts}
use Rattle.game_tables.specs.Tables.{no_figure, setting_in}
use Rattle.plan.specs.declared.CheckerState.{CheckerState}
use Rattle.plan.specs.declared.CheckerState.TheVariants.{Fresh, Begun}
use Rattle.plan.specs.LineAnswer.{LineAnswer}
use Rattle.plan.specs.TestAnswer.{TestAnswer, Pass}
use Rattle.plan.specs.Checker.{Checking, take_line, test_plan, call_lines, is_taken, taken_texts}
use Rattle.plan.specs.Checked.{Checked, InForm, Passing, Failing}
use Rattle.plan.proofs.Calls.{taking-one}
use Rattle.plan.proofs.Checked.{Holds, unbegun, begun, ran, checked-holds, fresh_holds}
use Rattle.plan.proofs.Forms.{form-one}
use Rattle.plan.proofs.Fresh.{fresh-made}
use Rattle.thin.specs.ThinAnswer.{ThinAnswer, Thinned, Refused}
use Rattle.thin.specs.Claims.{ThinClaims}
use Rattle.thin.specs.Calls.{PlansThin}
use Rattle.thin.proofs.Claims.{thins-hold, passed}

-- an answer is thinned or a refusal
answer? : (a : ThinAnswer) → (a ≡ Thinned) ⊎ ((f : Refusal) × (a ≡ Refused f))
answer? Thinned = inl refl
answer? (Refused f) = inr (f, refl)

module _ (r : Railway) (accepted : record_refusal r ≡ none) (taken : List (List ℕ)) (c : Checking) (h : Holds r accepted taken c) where
  few : r.sections < no_figure
  few = omega (arith, (facts r accepted).few-sections)

  -- the figure of the first line is in the state
  figure-in : (m from : ℕ) → c.state ≡ Begun m from → (w : Passing r taken) → m ≡ w.start
  figure-in m from e w = go h
    where
      figure : CheckerState → ℕ
      figure Fresh = 0
      figure (Begun m from) = m

      is_fresh : CheckerState → ℕ
      is_fresh Fresh = 0
      is_fresh (Begun m from) = 1

      go : Holds r accepted taken c → m ≡ w.start
      go (unbegun z s t) = (let y : ◌≡◌ {A = ℕ} 0 1 = ap is_fresh (sym s ∙ e) in absurd (omega arith))
      go (begun n ds f s t) = ap figure (sym e ∙ s) ∙ (form-one r few taken n w.start ds w.lines f w.form).start

module _ (r : Railway) (texts : List (List ℕ)) (answers : List LineAnswer) (taken : List (List ℕ)) (c : Checking)
    (k : Checked r texts answers taken c) (a : ThinAnswer) (c' : Checking) (w : ThinClaims r c a c') where
  pub thinned-so : (a ≡ Thinned) ↔ Passing r taken
  thinned-so = (λ e. k.passes.0 (w.passed.0 e), λ e. w.passed.1 (k.passes.1 e))

  pub faulty-so : (a ≡ Refused PlanFault) ↔ Failing r taken
  faulty-so = (λ e. k.faulty.0 ((w.refused PlanFault).0 e), λ e. (w.refused PlanFault).1 (k.faulty.1 e))

  pub early-so : (a ≡ Refused PlanForm) ↔ (taken ≡ [])
  early-so = (λ e. k.early.0 ((w.refused PlanForm).0 e), λ e. (w.refused PlanForm).1 (k.early.1 e))

  -- the test behind
  pub passes-so : (test : TestAnswer) → test ≡ (test_plan r c').answer → (test ≡ Pass) ↔ Passing r taken
  passes-so test e = (
    λ p. elim (answer? a) [
      | inl y ↦ thinned-so.0 y
      | inr y ↦ k.passes.0 (ap (λ (x : Checking). (test_plan r x).answer) (sym (w.kept y.0 y.1)) ∙ sym e ∙ p)
    ],
    λ p. e ∙ (w.thinned (thinned-so.1 p)).passes,
  )

  -- one more line
  first-answer : (text : List ℕ) (x y : Checking) → (call_lines r (text ∷ []) x).answers ≡ (call_lines r (text ∷ []) y).answers → (take_line r x text).answer ≡ (take_line r y text).answer
  unfolding call_lines
  first-answer text x y e = head-eq_of_cons-eq e

  pub more-so : (text : List ℕ) → (is_taken (take_line r c' text).answer ≡ true) ↔ InForm r (taken ++ (text ∷ []))
  more-so text =
      let e : (take_line r c' text).answer ≡ (take_line r c text).answer = first-answer text c' c (w.more (text ∷ [])) in
      (λ y. (k.more text).0 (ap is_taken (sym e) ∙ y), λ y. ap is_taken e ∙ (k.more text).1 y)

pub plans-thin : PlansThin
plans-thin r accepted lent₁ lent₂ made c i j fresh texts u calls a c' post test c'' behind =
    let t : u ≡ call_lines r texts c = taking-one r c texts u calls in
    let start = fresh-made r lent₁ lent₂ made c accepted i j fresh in
    let h : Holds r accepted (taken_texts u.answers texts) u.end = rw t (ran r accepted texts [] c (fresh_holds r accepted c start)).holds in
    let k : Checked r texts u.answers (taken_texts u.answers texts) u.end = rw t (checked-holds r accepted c start texts) in
    let w : ThinClaims r u.end a c' = thins-hold r u.end a c' post in
    record {
      thinned = thinned-so r texts u.answers (taken_texts u.answers texts) u.end k a c' w;
      faulty = faulty-so r texts u.answers (taken_texts u.answers texts) u.end k a c' w;
      early = early-so r texts u.answers (taken_texts u.answers texts) u.end k a c' w;
      passes = passes-so r texts u.answers (taken_texts u.answers texts) u.end k a c' w test behind.answer;
      follow = λ p choice.
          let s = passed r u.end (k.passes.1 p) in
          subst (λ (n : ℕ). HomeWithin (game_of r) (following (setting_in r c'.sets)) choice (start_code r) n)
          (figure-in r accepted (taken_texts u.answers texts) u.end h s.figure s.from s.begun p)
          ((w.thinned (w.passed.1 (k.passes.1 p))).follow s.figure s.from s.begun choice);
      more = more-so r texts u.answers (taken_texts u.answers texts) u.end k a c' w;
    }
