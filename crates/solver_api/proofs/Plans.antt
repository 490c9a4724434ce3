-- What a railway is answered follows from what emitter and checker promise, whose answers are taken apart and put into numbers; none of these stands for
-- two answers. A call that is refused leaves the tables as they were, by the rows of the case. Assumes nothing.
use mathlib.Core.Path.{◌≡◌, refl, sym, ◌∙◌, ap, subst}
use mathlib.Core.List.{List, []}
use mathlib.Core.Option.{Option, none, some, get_or}
use Prim.Native.Nat.{ℕ}
use native.Mathlib.Omega.{arith}
use Rattle.laws.proofs.Bools.{some-none}
use Rattle.railway.specs.declared.Railway.{Railway}
use Rattle.railway.specs.CaseAnswer.{CaseAnswer, Accepted, Refused as CaseRefused}
use Rattle.railway.specs.declared.Refusal.{Refusal}
use Rattle.railway.specs.Refusals.{number, number_of}
use Rattle.railway.proofs.Refusals.{between}
use Rattle.game_tables.specs.Tables.{case_refusal}
use Rattle.plan.specs.declared.PlanPlace.{PlanPlace}
use Rattle.plan.specs.Emitted.{Emitted, Line, End, NoPlan, Refused}
use Rattle.plan.specs.declared.CheckerState.{CheckerState}
use Rattle.plan.specs.FrontAnswer.{FrontAnswer, Took, Refused as FrontRefused}
use Rattle.plan.specs.TestAnswer.{TestAnswer}
use Rattle.plan.specs.Checker.{Checking, freshened, test_number, test_plan}
use Rattle.plan.specs.Several.{EmitLinesPost, Front, front_leaves, take_front, FrontPost}
use Rattle.plan.specs.Promises.{FreshPost, TestPost}
use Rattle.plan.proofs.Promises.{tests-so}
use Rattle.solver_api.specs.Plans.{place_number, place_at, line_number, AllToldApart, writing, wrote_to}
use Rattle.solver_api.specs.Plans.{WrittenRailway, state_of, state_numbers, Lent, lent, checking_of, BegunRailway}
use Rattle.solver_api.specs.Plans.{TakenRailway, TestedRailway}

-- WHAT A NUMBER TELLS
pub told-apart : AllToldApart
told-apart (Line n next) = record { lines = λ e. refl; ended = λ e. absurd (omega (arith, e)); no-plan = λ e. absurd (omega (arith, e)) }
told-apart End = record { lines = λ e. absurd (omega (arith, e)); ended = λ e. refl; no-plan = λ e. absurd (omega (arith, e)) }
told-apart NoPlan = record { lines = λ e. absurd (omega (arith, e)); ended = λ e. absurd (omega (arith, e)); no-plan = λ e. refl }
told-apart (Refused f) =
    let b = between f in
    record { lines = λ e. absurd (omega (arith, e, b.0)); ended = λ e. absurd (omega (arith, e, b.1)); no-plan = λ e. absurd (omega (arith, e, b.1)) }

-- THE PLAN'S LINES
module _ (r : Railway) (figs sets : List ℕ) (place : ℕ) (buffer : List ℕ) (bytes : ℕ) where
  pub written-railway : (p : PlanPlace) → p ≡ place_at place → (a : Emitted) (new : List ℕ) → EmitLinesPost r figs sets p buffer a new → (v : Emitted) → a ≡ v
      → (n : ℕ) → n ≡ line_number v → (place' bytes' : ℕ) → writing place' new bytes' ≡ wrote_to (writing place buffer bytes) v new
      → WrittenRailway r figs sets (writing place buffer bytes) n (writing place' new bytes')
  written-railway p at a new post v e n m place' bytes' l =
      record {
        answer = v;
        emitted = subst (λ (x : Emitted). EmitLinesPost r figs sets (place_at place) buffer x new) e (subst (λ (x : PlanPlace). EmitLinesPost r figs sets x buffer a new) at post);
        numbered = m;
        leaves = l;
      }

  -- behind lines the next place is put into its number
  pub written-lines : (p : PlanPlace) → p ≡ place_at place → (a : Emitted) (new : List ℕ) → EmitLinesPost r figs sets p buffer a new → (k : ℕ) (next : PlanPlace) → a ≡ Line k next
      → (place' : ℕ) → place' ≡ place_number next → WrittenRailway r figs sets (writing place buffer bytes) 0 (writing place' new k)
  written-lines p at a new post k next e place' m = written-railway p at a new post (Line k next) e 0 refl place' k (ap (λ (x : ℕ). writing x new k) m)

-- THE CHECKER. A state that is known, with the tables
abbrev with : CheckerState → List ℕ → List ℕ → Checking
with s figs sets = record { state = s; figs = figs; sets = sets }

-- made fresh
fresh_kept : (r : Railway) (figs sets : List ℕ) (k : ℕ) (o : Option Refusal) → some k ≡ number_of o → lent [] (freshened r figs sets o).figs (freshened r figs sets o).sets ≡ lent [] figs sets
fresh_kept r figs sets k (some f) e = refl
fresh_kept r figs sets k none e = some-none (sym e) refl

module _ (r : Railway) (state figs sets : List ℕ) where
  pub begun-refused : (a : CaseAnswer) (s : CheckerState) (figs' sets' : List ℕ) → FreshPost r figs sets a (with s figs' sets') → (f : Refusal) → a ≡ CaseRefused f → (n : ℕ) → n ≡ number f
      → BegunRailway r (lent state figs sets) n (lent state figs' sets')
  begun-refused a s figs' sets' post f e n m =
      let p : FreshPost r figs sets (CaseRefused f) (with s figs' sets') = subst (λ (x : CaseAnswer). FreshPost r figs sets x (with s figs' sets')) e post in
      let same = ap (λ (c : Checking). lent [] c.figs c.sets) p.checking ∙ fresh_kept r figs sets (number f) (case_refusal r figs sets) p.numbered in
      record {
        answer = CaseRefused f;
        checking = with s figs' sets';
        made = p;
        numbered = m;
        leaves = ap (λ (l : Lent). lent state l.figs l.sets) same;
      }

  pub begun-railway : (a : CaseAnswer) (s : CheckerState) (figs' sets' : List ℕ) → FreshPost r figs sets a (with s figs' sets') → a ≡ Accepted → (ns : List ℕ) → ns ≡ state_numbers s
      → BegunRailway r (lent state figs sets) 0 (lent ns figs' sets')
  begun-railway a s figs' sets' post e ns m =
      record {
        answer = Accepted;
        checking = with s figs' sets';
        made = subst (λ (x : CaseAnswer). FreshPost r figs sets x (with s figs' sets')) e post;
        numbered = refl;
        leaves = ap (λ (x : List ℕ). lent x figs' sets') m;
      }

-- lines taken
front_kept : (c : Checking) (front : Front) (k : ℕ) (o : Option Refusal) → some k ≡ number_of o → (front_leaves c front o).checking ≡ c
front_kept c front k (some f) e = refl
front_kept c front k none e = some-none (sym e) refl

left-kept : (r : Railway) (old : Checking) (text : List ℕ) (f : Refusal) (new : Checking) → FrontPost r old text (FrontRefused f) new → new ≡ old
unfolding take_front
left-kept r old text f new p = p.checking ∙ front_kept old _ (number f) (case_refusal r old.figs old.sets) p.numbered

module _ (r : Railway) (state figs sets plan : List ℕ) (bytes : ℕ) where
  -- the call, said of the state's numbers
  of-numbers : (s : CheckerState) → s ≡ state_of state → (a v : FrontAnswer) → a ≡ v → (new : Checking) → FrontPost r (with s figs sets) plan a new
      → FrontPost r (checking_of (lent state figs sets)) plan v new
  of-numbers s at a v e new post =
      subst (λ (x : FrontAnswer). FrontPost r (checking_of (lent state figs sets)) plan x new) e (subst (λ (x : CheckerState). FrontPost r (with x figs sets) plan a new) at post)

  pub taken_refused : (s : CheckerState) → s ≡ state_of state → (a : FrontAnswer) (s' : CheckerState) (figs' sets' : List ℕ) → FrontPost r (with s figs sets) plan a (with s' figs' sets')
      → (f : Refusal) → a ≡ FrontRefused f → (n : ℕ) → n ≡ number f → TakenRailway r (lent state figs sets) plan bytes n (lent state figs' sets') bytes
  taken_refused s at a s' figs' sets' post f e n m =
      let p = of-numbers s at a (FrontRefused f) e (with s' figs' sets') post in
      record {
        answer = FrontRefused f;
        checking = with s' figs' sets';
        took = p;
        numbered = m;
        leaves = ap (λ (c : Checking). lent state c.figs c.sets) (left-kept r (checking_of (lent state figs sets)) plan f (with s' figs' sets') p);
        counted = refl;
      }

  pub taken-railway : (s : CheckerState) → s ≡ state_of state → (a : FrontAnswer) (s' : CheckerState) (figs' sets' : List ℕ) → FrontPost r (with s figs sets) plan a (with s' figs' sets')
      → (k : ℕ) → a ≡ Took k → (ns : List ℕ) → ns ≡ state_numbers s' → TakenRailway r (lent state figs sets) plan bytes 0 (lent ns figs' sets') k
  taken-railway s at a s' figs' sets' post k e ns m =
      record {
        answer = Took k;
        checking = with s' figs' sets';
        took = of-numbers s at a (Took k) e (with s' figs' sets') post;
        numbered = refl;
        leaves = ap (λ (x : List ℕ). lent x figs' sets') m;
        counted = refl;
      }

-- the test
module _ (r : Railway) (state figs sets : List ℕ) where
  pub tested-railway : (s : CheckerState) → s ≡ state_of state → (a : TestAnswer) (s' : CheckerState) → TestPost r (with s figs sets) a (with s' figs sets) → (v : TestAnswer) → a ≡ v
      → (n : ℕ) → n ≡ get_or (test_number v) 0 → TestedRailway r (lent state figs sets) n
  tested-railway s at a s' post v e n m =
      record {
        answer = v;
        tested = tests-so r (checking_of (lent state figs sets)) v (sym e ∙ post.answer ∙ ap (λ (x : CheckerState). (test_plan r (with x figs sets)).answer) at);
        numbered = m;
      }
