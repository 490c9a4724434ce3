-- The statement on thinning, of the calls that run, at work: of any call of `thin`, handed two sidings with a plan that opens both trains, something is drawn from what the call tells; and of
-- any list of calls in Yard A for a plan by another maker. So a link that were taken away, or that said nothing, would be missed. Assumes nothing.
use mathlib.Core.Path.{◌≡◌, refl, ◌∙◌, ap, subst}
use mathlib.Core.Bool.{Bool, true}
use mathlib.Core.List.{List}
use Prim.Native.Nat.{ℕ, ◌≤◌}
use native.Mathlib.Omega.{arith}
use lib.ListN.{length}
use denote.Triple.Clauses.{AtExit}
use contract.Lifetimes.{Lfts}
use borrow.Fn.Kinds.{Dens, res_t, ended_of}
use Rattle.railway.specs.CaseAnswer.{CaseAnswer}
use Rattle.railway.specs.Yards.{yard_a}
use Rattle.game_tables.proofs.KnownYards.{yard_a-accepted}
use Rattle.plan.specs.declared.CheckerState.TheVariants.{Begun}
use Rattle.plan.specs.TestAnswer.{TestAnswer, Pass}
use Rattle.plan.specs.Checker.{Checking, LineCalls, taken_texts}
use Rattle.plan.specs.Promises.{TestPost, FreshPost}
use Rattle.plan.specs.Calls.{Taking}
use Rattle.plan.proofs.Inhabited.{nine}
use Rattle.plan.proofs.RuleUses.{other_texts, other-passes}
use Rattle.plan_checker.specs.Answers.{checking}
use Rattle.thin.specs.ThinAnswer.{ThinAnswer, Thinned}
use Rattle.thin.specs.Law.{moves, in_either}
use Rattle.thin.specs.Thinning.{ThinPost}
use Rattle.thin.proofs.Examples.{sidings, figs_s, generous, lean_s, calls}
use Rattle.thin_call.proofs.thin.Kinds as thin
use Rattle.thin_call.proofs.thin.Reads.{Asked as ThinAsked, Learnt as ThinLearnt}
use Rattle.thin_call.proofs.thin.Statement.{statement as ThinMeets}
use Rattle.plan_checker.proofs.Checker.fresh.Statement.{statement as FreshMeets}
use Rattle.plan_checker.proofs.Checker.take.Statement.{statement as TakeMeets}
use Rattle.plan_checker.proofs.Checker.test.Statement.{statement as TestMeets}
use Rattle.statements.proofs.Thins.{thins-run}

same : {A B : Type 0} → A ≡ B → A → B
same e x = subst (λ (X : Type 0). X) e x

-- every call asks nothing and is met
nothing-asked : (κs : Lfts 3) (a : Dens κs thin.ps) → ThinAsked κs a
nothing-asked κs a = thins-run.thin.asks κs a

all-met : {M : Type 1} → ThinMeets M × FreshMeets M × TakeMeets M × TestMeets M
all-met = (thins-run.thin.meets, thins-run.fresh.meets, thins-run.take.meets, thins-run.test.meets)

-- THE CALL. The plan is thinned, and of the settings those are left that the lean plan has.
module _ (κs : Lfts 3) (a : Dens κs thin.ps) (answer : (res_t thin.r κs).Denot) (left : AtExit (ended_of 3 thin.ps thin.r) κs)
    (state : a.0.now.state ≡ Begun 2 14) (yard : a.1.0 ≡ sidings) (figs : a.1.1.0.now ≡ figs_s) (sets : a.1.1.1.0.now ≡ generous) (learnt : ThinLearnt κs a answer left) where
  promised : ThinPost sidings (record { state = Begun 2 14; figs = figs_s; sets = generous }) answer (record { state = Begun 2 14; figs = figs_s; sets = left.1.1.1.0.now })
  promised = rw (state, yard, figs, sets) at (same (thins-run.thin.tells κs a answer left) learnt)

  thinned-lean : (answer ≡ Thinned) × (left.1.1.1.0.now ≡ lean_s)
  thinned-lean = (promised.answer ∙ ap (λ x. x.answer) calls.0, ap (λ (c : Checking). c.sets) (promised.checking ∙ ap (λ x. x.checking) calls.0))

  -- `whole`: the state comes back
  same-state : (c : Checking) → ThinPost sidings (record { state = Begun 2 14; figs = figs_s; sets = generous }) answer c → c.state ≡ Begun 2 14
  same-state c post = (thins-run.whole sidings _ answer c post).state

-- `law`: with both trains open whoever may move with one of them may
either-may : (p t : ℕ) (plus a b : ℕ → Bool) → moves sidings p plus a t ≡ true → moves sidings p plus (in_either a b) t ≡ true
either-may p t plus a b e = (thins-run.law.law sidings p plus a b).joined t ∙ rw e refl

-- `plans`: A PLAN BY ANOTHER MAKER, from tables of any length that is enough, is thinned, and the test behind that passes it
module _ (lent₁ lent₂ : List ℕ) (answered : CaseAnswer) (c : Checking) (enough₁ : 9 ≤ length lent₁) (enough₂ : 9 ≤ length lent₂) (made : FreshPost yard_a lent₁ lent₂ answered c) (u : LineCalls)
    (calls : Taking yard_a c (other_texts "plan\t9\n") u) (all-taken : taken_texts u.answers (other_texts "plan\t9\n")
    ≡ other_texts "plan\t9\n") (a : ThinAnswer) (c' : Checking) (thins : ThinPost yard_a u.end a c')
    (test : TestAnswer) (c'' : Checking) (tests : TestPost yard_a c' test c'') where
  thinned-foreign : (a ≡ Thinned) × (test ≡ Pass)
  thinned-foreign =
      let h = thins-run.plans yard_a yard_a-accepted lent₁ lent₂ answered c (omega (arith, nine)) (omega (arith, nine)) made (other_texts "plan\t9\n") u calls a c' thins test c'' tests in
      (h.thinned.1 (rw all-taken other-passes), h.passes.1 (rw all-taken other-passes))
