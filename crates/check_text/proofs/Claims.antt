-- The calls up to the first refusal, against all calls: where every line is taken the two are the same, and where one is refused it is missing among
-- the lines taken, while a plan in form has none missing. So the answer is what all calls say of the lines,
-- and its number that of the first row that applies. Assumes nothing.
use mathlib.Core.Path.{◌≡◌, refl, sym, ◌∙◌, ap, subst}
use mathlib.Core.Bool.{true, false}
use mathlib.Core.List.{List, [], ◌∷◌, ◌++◌, Memᴰ}
use mathlib.Core.Logic.{◌⊎◌, inl, inr}
use mathlib.Core.Option.{Option, none, some}
use Prim.Native.Nat.{ℕ, ◌≤◌, ◌<◌}
use native.Mathlib.Omega.{arith}
use lib.ListN.{length, length-replicate}
use Rattle.laws.specs.Lists.{all}
use Rattle.railway.specs.declared.Railway.{Railway}
use Rattle.railway.specs.declared.Refusal.{Refusal}
use Rattle.railway.specs.declared.Refusal.TheVariants.{PlanForm, PlanFault}
use Rattle.railway.specs.Refusals.{Row, row, first, number_of}
use Rattle.railway.specs.Rows.{record_refusal}
use Rattle.game.specs.Placement.{placements}
use Rattle.game_tables.specs.Lengths.{entries}
use Rattle.game_tables.specs.Tables.{no_figure, case_rows, case_refusal}
use Rattle.game_tables.proofs.Refusals.{case-then, case-none}
use Rattle.plan.specs.LineAnswer.{LineAnswer, Taken, Refused as LineRefused}
use Rattle.plan.specs.TestAnswer.{TestAnswer, Pass, Refused as TestRefused}
use Rattle.plan.specs.Lines.{PlacementLine}
use Rattle.plan.specs.Checker.{test_number, Checking, take_line, nothing_taken, plan_fails, test_rows, test_plan, LineCalls, call_lines, is_taken, taken_texts}
use Rattle.plan.specs.Checked.{Form, PlanWith, Checked, FreshTables, InForm}
use Rattle.plan.proofs.Checked.{checked-holds}
use Rattle.plan.proofs.Emitter.{none-refused}
use Rattle.plan.proofs.Forms.{no-form}
use Rattle.plan.proofs.Fresh.{fresh-all}
use Rattle.plan.proofs.Numbers.{test-numbered}
use Rattle.plan.proofs.Rules.{differ, test_numbered, check-rule}
use Rattle.plan.specs.Several.{lines_of}
use Rattle.check_text.specs.Verdict.{check_lines, plan_out_of_form, rows_by, fresh, check_refusal, check_text, PlanPost}
use Rattle.check_text.specs.Claims.{ByPlan, VerdictHolds, CaseHolds}
use Rattle.check_text.proofs.Calls.{refused-case, still-fine}

-- no more lines are taken than were handed in
taken-few : (xs : List LineAnswer) (ls : List (List ℕ)) → length (taken_texts xs ls) ≤ length ls
unfolding taken_texts
taken-few [] ls = omega arith
taken-few (a ∷ xs) [] = omega arith
taken-few (Taken ∷ xs) (l ∷ ls) = let h = taken-few xs ls in omega (arith, h)
taken-few (LineRefused f ∷ xs) (l ∷ ls) = let h = taken-few xs ls in omega (arith, h)

-- all lines were taken, or one was refused
record AllTaken (r : Railway) (ls : List (List ℕ)) (c : Checking) : Type 0 where
  same : check_lines r ls c ≡ (test_plan r (call_lines r ls c).end).answer
  taken : taken_texts (call_lines r ls c).answers ls ≡ ls
  each : all is_taken (call_lines r ls c).answers ≡ true

record OneRefused (r : Railway) (ls : List (List ℕ)) (c : Checking) : Type 0 where
  refusal : Refusal
  answer : check_lines r ls c ≡ TestRefused refusal
  among : Memᴰ (LineRefused refusal) (call_lines r ls c).answers
  missing : length (taken_texts (call_lines r ls c).answers ls) < length ls
  not-each : all is_taken (call_lines r ls c).answers ≡ false

one_more : (r : Railway) (l : List ℕ) (ls : List (List ℕ)) (c : Checking) (a : LineAnswer) (c' : Checking) → (take_line r c l).answer ≡ a → (take_line r c l).checking ≡ c'
    → AllTaken r ls c' ⊎ OneRefused r ls c' → AllTaken r (l ∷ ls) c ⊎ OneRefused r (l ∷ ls) c
unfolding check_lines call_lines taken_texts all
one_more r l ls c Taken c' e₁ e₂ (inl h) =
    inl (record { same = rw (e₁, e₂) h.same; taken = rw (e₁, e₂) (ap (λ (x : List (List ℕ)). l ∷ x) h.taken); each = rw (e₁, e₂) h.each })
one_more r l ls c Taken c' e₁ e₂ (inr h) =
    inr (record {
      refusal = h.refusal;
      answer = rw (e₁, e₂) h.answer;
      among = rw (e₁, e₂) (Memᴰ.tail h.among);
      missing = rw (e₁, e₂) (let m = h.missing in omega (arith, m));
      not-each = rw (e₁, e₂) h.not-each;
    })
one_more r l ls c (LineRefused f) c' e₁ e₂ h =
    inr (record {
      refusal = f;
      answer = rw e₁ refl;
      among = Memᴰ.head (sym e₁);
      missing = rw (e₁, e₂) (let m = taken-few (call_lines r ls c').answers ls in omega (arith, m));
      not-each = rw e₁ refl;
    })

either : (r : Railway) (ls : List (List ℕ)) (c : Checking) → AllTaken r ls c ⊎ OneRefused r ls c
unfolding check_lines call_lines taken_texts all
either r [] c = inl (record { same = refl; taken = refl; each = refl })
either r (l ∷ ls) c = one_more r l ls c _ _ refl refl (either r ls (take_line r c l).checking)

-- calls for lines make no case refused that was not
still-none : (r : Railway) (ls : List (List ℕ)) (c : Checking) → case_refusal r c.figs c.sets ≡ none → case_refusal r (call_lines r ls c).end.figs (call_lines r ls c).end.sets ≡ none
unfolding call_lines
still-none r [] c e = e
still-none r (l ∷ ls) c e = still-none r ls (take_line r c l).checking (still-fine r c l e)

-- in a case that is not refused the first row is one of those behind the case's
pub behind-case : (r : Railway) (figs sets : List ℕ) → case_refusal r figs sets ≡ none → (rest : List Row) → first (case_rows r figs sets ++ rest) ≡ first rest
behind-case r figs sets e rest = case-then r figs sets rest ∙ rw e

-- THE ANSWER by the plan is one of three.
data ByTest (a : TestAnswer) : Type 0 where
  passed : a ≡ Pass → ByTest a
  unformed : a ≡ TestRefused PlanForm → ByTest a
  faulty : a ≡ TestRefused PlanFault → ByTest a

tested-by : (r : Railway) (c : Checking) → case_refusal r c.figs c.sets ≡ none → (a : TestAnswer) → (test_plan r c).answer ≡ a → ByTest a
tested-by r c e Pass q = passed refl
tested-by r c e (TestRefused f) q = elim ((check-rule r c).test-others f e q) [ inl h ↦ unformed (ap TestRefused h) | inr h ↦ faulty (ap TestRefused h) ]

formed : (r : Railway) (P : ℕ → List PlacementLine → Type 0) (ls : List (List ℕ)) → PlanWith r P ls → InForm r ls
formed r P ls w = record { start = w.start; lines = w.lines; form = w.form; holds = tt }

empty-unformed : (r : Railway) (ls : List (List ℕ)) → ls ≡ [] → ¬ (InForm r ls)
empty-unformed r ls e w = no-form r w.start w.lines (subst (λ (l : List (List ℕ)). Form r l w.start w.lines) e w.form)

-- every line was taken: the test says it
module _ (r : Railway) (ls : List (List ℕ)) (xs : List LineAnswer) (c : Checking) (k : Checked r ls xs ls c) where
  unformed-test : ByTest (test_plan r c).answer → ¬ (InForm r ls) → (test_plan r c).answer ≡ TestRefused PlanForm
  unformed-test (passed e) n = absurd (n (formed r _ ls (k.passes.0 e)))
  unformed-test (unformed e) n = e
  unformed-test (faulty e) n = absurd (n (formed r _ ls (k.faulty.0 e)))

  by-test : ByTest (test_plan r c).answer → ByPlan r ls (test_plan r c).answer
  by-test t = record { passes = k.passes; unformed = (λ e. empty-unformed r ls (k.early.0 e), unformed-test t); faulty = k.faulty }

-- a line was refused: the lines are not in form
by-line : (r : Railway) (ls : List (List ℕ)) (a : TestAnswer) → a ≡ TestRefused PlanForm → ¬ (InForm r ls) → ByPlan r ls a
by-line r ls a e n =
    record {
      passes = (λ q. differ test_numbered (sym q ∙ e) (λ z. omega arith), λ w. absurd (n (formed r _ ls w)));
      unformed = (λ q. n, λ q. e);
      faulty = (λ q. differ test_numbered (sym q ∙ e) (λ z. omega arith), λ w. absurd (n (formed r _ ls w)));
    }

module _ (r : Railway) (ls : List (List ℕ)) (c : Checking) (k : Checked r ls (call_lines r ls c).answers (taken_texts (call_lines r ls c).answers ls) (call_lines r ls c).end) where
  plan-form : (h : OneRefused r ls c) → check_lines r ls c ≡ TestRefused PlanForm
  plan-form h = elim (k.others (LineRefused h.refusal) h.among) [
    | inl e ↦ let z : ◌≡◌ {A = ℕ} 0 1 = cc in absurd (omega arith)
    | inr e ↦ let z : h.refusal ≡ PlanForm = cc in h.answer ∙ ap TestRefused z
  ]

  not-in-form : OneRefused r ls c → ¬ (InForm r ls)
  not-in-form h w =
      let m = h.missing in
      let e : length (taken_texts (call_lines r ls c).answers ls) ≡ length ls = ap length (k.whole w) in
      absurd (omega (arith, m, e))

  module _ (unrefused : case_refusal r c.figs c.sets ≡ none) where
    end-by-test : ByTest (test_plan r (call_lines r ls c).end).answer
    end-by-test = tested-by r (call_lines r ls c).end (still-none r ls c unrefused) _ refl

    by-plan : AllTaken r ls c ⊎ OneRefused r ls c → ByPlan r ls (check_lines r ls c)
    by-plan (inl h) =
        subst (ByPlan r ls) (sym h.same)
        (by-test r ls (call_lines r ls c).answers (call_lines r ls c).end (subst (λ (t : List (List ℕ)). Checked r ls (call_lines r ls c).answers t (call_lines r ls c).end) h.taken k) end-by-test)
    by-plan (inr h) = by-line r ls (check_lines r ls c) (plan-form h) (not-in-form h)

    one_of_three : AllTaken r ls c ⊎ OneRefused r ls c → ByTest (check_lines r ls c)
    one_of_three (inl h) = subst ByTest (sym h.same) end-by-test
    one_of_three (inr h) = unformed (plan-form h)

    -- the rows: where every line was taken they are those of the test, and where one was refused row 10 applies
    abbrev after : LineCalls
    after = call_lines r ls c

    abbrev fault : Row
    fault = row PlanFault (plan_fails r after.end after.end.state)

    plan-rows : first (rows_by r c after) ≡ first (row PlanForm (plan_out_of_form after) ∷ fault ∷ [])
    plan-rows = behind-case r c.figs c.sets unrefused (row PlanForm (plan_out_of_form after) ∷ fault ∷ [])

    rows-of-test : all is_taken after.answers ≡ true → first (rows_by r c after) ≡ first (test_rows r after.end)
    rows-of-test e =
        let form : Row = row PlanForm (nothing_taken after.end.state) in
        let same : first (row PlanForm (plan_out_of_form after) ∷ fault ∷ []) ≡ first (form ∷ fault ∷ []) = rw e in
        plan-rows ∙ same ∙ sym (behind-case r after.end.figs after.end.sets (still-none r ls c unrefused) (form ∷ fault ∷ []))

    row-of-line : all is_taken after.answers ≡ false → first (rows_by r c after) ≡ some PlanForm
    unfolding first
    row-of-line e = let given : first (row PlanForm (plan_out_of_form after) ∷ fault ∷ []) ≡ some PlanForm = rw e refl in plan-rows ∙ given

    by_rows : AllTaken r ls c ⊎ OneRefused r ls c → test_number (check_lines r ls c) ≡ number_of (first (rows_by r c after))
    by_rows (inl h) = ap test_number h.same ∙ test-numbered r after.end ∙ ap number_of (sym (rows-of-test h.each))
    by_rows (inr h) = ap test_number (plan-form h) ∙ ap number_of (sym (row-of-line h.not-each))

-- FROM FRESH TABLES
module _ (r : Railway) (ok : record_refusal r ≡ none) (c : Checking) (f : FreshTables r c) (ls : List (List ℕ)) where
  fresh-unrefused : case_refusal r c.figs c.sets ≡ none
  fresh-unrefused = none-refused r c.figs c.sets ok f.enough-figs f.enough-sets

  fresh-by-plan : ByPlan r ls (check_lines r ls c)
  fresh-by-plan = by-plan r ls c (checked-holds r ok c f ls) fresh-unrefused (either r ls c)

  fresh-three : ByTest (check_lines r ls c)
  fresh-three = one_of_three r ls c (checked-holds r ok c f ls) fresh-unrefused (either r ls c)

-- the lines decide, so all fresh tables are answered alike
pub fresh-alike : (r : Railway) → record_refusal r ≡ none → (c d : Checking) → FreshTables r c → FreshTables r d → (ls : List (List ℕ)) → check_lines r ls c ≡ check_lines r ls d
fresh-alike r ok c d f g ls = go (fresh-three r ok c f ls)
  where
    go : ByTest (check_lines r ls c) → check_lines r ls c ≡ check_lines r ls d
    go (passed e) = e ∙ sym ((fresh-by-plan r ok d g ls).passes.1 ((fresh-by-plan r ok c f ls).passes.0 e))
    go (unformed e) = e ∙ sym ((fresh-by-plan r ok d g ls).unformed.1 ((fresh-by-plan r ok c f ls).unformed.0 e))
    go (faulty e) = e ∙ sym ((fresh-by-plan r ok d g ls).faulty.1 ((fresh-by-plan r ok c f ls).faulty.0 e))

-- tables of the number of entries, in a case that is not refused with them
pub fresh-enough : (r : Railway) → check_refusal r ≡ none → (record_refusal r ≡ none) × FreshTables r fresh
fresh-enough r e =
    let k = (case-none r fresh.figs fresh.sets).0 e in
    let p : placements r ≤ entries = rw (length-replicate {A = ℕ} entries no_figure) at k.1.figures in
    (k.0, fresh-all r entries entries p p)

-- a case that is refused, or one that is not and whose answer is one of the three
module _ (r : Railway) (ls : List (List ℕ)) (c : Checking) (f : Refusal) (other₁ : ¬ (f ≡ PlanForm)) (other₂ : ¬ (f ≡ PlanFault)) where
  none_other : {A : Type 0} → ByTest (check_lines r ls c) → check_lines r ls c ≡ TestRefused f → A
  none_other (passed e) q = let z : ◌≡◌ {A = ℕ} 0 1 = cc in absurd (omega arith)
  none_other (unformed e) q = let z : f ≡ PlanForm = cc in absurd (other₁ z)
  none_other (faulty e) q = let z : f ≡ PlanFault = cc in absurd (other₂ z)

  by-case : (case_refusal r c.figs c.sets ≡ none → ByTest (check_lines r ls c)) → (o : Option Refusal) → case_refusal r c.figs c.sets ≡ o
      → check_lines r ls c ≡ TestRefused f → case_refusal r c.figs c.sets ≡ some f
  by-case three none e q = none_other (three e) q
  by-case three (some g) e q = let h = refused-case r ls c g e in let z : g ≡ f = cc in e ∙ ap some z

whole-three : (r : Railway) (ls : List (List ℕ)) → check_refusal r ≡ none → ByTest (check_lines r ls fresh)
whole-three r ls e = let k = fresh-enough r e in fresh-three r k.0 fresh k.1 ls

-- THE NUMBER is that of the first row: a case that is refused, or one that is not
refused-rows : (r : Railway) (ls : List (List ℕ)) (c : Checking) (f : Refusal) → case_refusal r c.figs c.sets ≡ some f
    → test_number (check_lines r ls c) ≡ number_of (first (rows_by r c (call_lines r ls c)))
refused-rows r ls c f e =
    let u : LineCalls = call_lines r ls c in
    let given : first (rows_by r c u) ≡ some f =
    case-then r c.figs c.sets (row PlanForm (plan_out_of_form u) ∷ row PlanFault (plan_fails r u.end u.end.state) ∷ []) ∙ rw e in
    ap test_number (refused-case r ls c f e) ∙ ap number_of (sym given)

whole-rows : (r : Railway) (ls : List (List ℕ)) (o : Option Refusal) → check_refusal r ≡ o
    → test_number (check_lines r ls fresh) ≡ number_of (first (rows_by r fresh (call_lines r ls fresh)))
whole-rows r ls (some f) e = refused-rows r ls fresh f e
whole-rows r ls none e = let k = fresh-enough r e in by_rows r ls fresh (checked-holds r k.0 fresh k.1 ls) e (either r ls fresh)

-- what was done is what is promised
pub promised : (r : Railway) (plan : List ℕ) (a : TestAnswer) → a ≡ check_text r plan → PlanPost r plan a
promised r plan a e = record { answer = e; numbered = ap test_number e ∙ whole-rows r (lines_of plan) _ refl }

pub verdict-holds : VerdictHolds
verdict-holds r ok p plan a post = subst (ByPlan r (lines_of plan)) (sym post.answer) (fresh-by-plan r ok fresh (fresh-all r entries entries p p) (lines_of plan))

pub case-holds : CaseHolds
case-holds r plan a post f other₁ other₂ = (
  λ q. by-case r (lines_of plan) fresh f other₁ other₂ (whole-three r (lines_of plan)) _ refl (sym post.answer ∙ q),
  λ e. post.answer ∙ refused-case r (lines_of plan) fresh f e,
)
