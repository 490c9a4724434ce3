-- The rule on refusals holds of every call: each answer is made in one place of its definition, which says what is left. What a line changes is
-- read off the one line that its text spells. Assumes nothing.
use mathlib.Core.Path.{◌≡◌, refl, sym, ◌∙◌, ap, subst}
use mathlib.Core.Logic.{◌⊎◌, inl, inr, ◌↔◌}
use mathlib.Core.Bool.{Bool, true, false, cond}
use mathlib.Core.List.{List, ◌++◌}
use mathlib.Core.Option.{Option, none, some}
use Prim.Native.Nat.{ℕ, suc, ◌≤◌, ◌<◌}
use native.Mathlib.Omega.{arith}
use lib.ListN.{length, get_or, set, drop, length-append, length-drop, length-set}
use lib.Seq.{drop-append_seam, get_or-set_same, get_or-set_other}
use lib.Dec.{ltb}
use borrow.Author.Tests.{ltb-true, ltb-false}
use Rattle.laws.proofs.Bools.{clash, some-none, some_one}
use Rattle.railway.specs.declared.Railway.{Railway}
use Rattle.railway.specs.declared.Refusal.{Refusal}
use Rattle.railway.specs.declared.Refusal.TheVariants.{Space, PlanForm, PlanFault}
use Rattle.railway.specs.Refusals.{number}
use Rattle.railway.specs.Rows.{record_refusal}
use Rattle.game.specs.Placement.{placements, start_code}
use Rattle.game.proofs.Accepted.{facts}
use Rattle.game_tables.specs.Tables.{figure_in, case_refusal}
use Rattle.game_tables.specs.Solver.{Kept}
use Rattle.game_tables.proofs.Refusals.{Enough, case-none}
use Rattle.plan.specs.declared.PlanPlace.{PlanPlace}
use Rattle.plan.specs.Emitted.{Emitted, Line, End, NoPlan, Refused as EmitRefused}
use Rattle.plan.specs.declared.CheckerState.{CheckerState}
use Rattle.plan.specs.declared.CheckerState.TheVariants.{Fresh, Begun}
use Rattle.plan.specs.LineAnswer.{LineAnswer, Taken, Refused as LineRefused}
use Rattle.plan.specs.TestAnswer.{TestAnswer, Pass, Refused as TestRefused}
use Rattle.plan.specs.Lines.{PlacementLine, PlanLine, start_line, placement_line, Spells, line_code}
use Rattle.plan.specs.Text.{is_some, has_figure}
use Rattle.plan.specs.Emitter.{is_line, leaves, Due, due}
use Rattle.plan.specs.Test.{by_tables}
use Rattle.plan.specs.Computed.{test_holds}
use Rattle.plan.specs.Checker.{Checking, Left, left, line_entry, begin, enter, take_line, test_plan}
use Rattle.plan.specs.Steps.{line_written, due_written, emitted, refuse, takes, tests}
use Rattle.plan.specs.Reading.{read_line}
use Rattle.plan.specs.Rules.{TooShort, EmitRule, EmitRuleHolds, LineChanges, CheckRuleHolds}
use Rattle.plan.proofs.Steps.{emit-steps, line-steps, test-steps}
use Rattle.plan.proofs.Promises.{line_refused, test-refused}
use Rattle.plan.proofs.Reading.{reads-line}
use Rattle.plan.proofs.Checked.{code_in}

-- things that differ, told apart by a number
abbrev emitted_kind : Emitted → ℕ
emitted_kind (Line n next) = 0
emitted_kind End = 1
emitted_kind NoPlan = 2
emitted_kind (EmitRefused f) = 3

pub differ : {A B : Type 0} (f : A → ℕ) {a b : A} → a ≡ b → ¬ (f a ≡ f b) → B
differ f e n = absurd (n (ap f e))

-- THE EMITTER. Refused by the rows of the case.
module _ (r : Railway) (figs sets : List ℕ) (place : PlanPlace) (buffer : List ℕ) where
  -- every answer but a line leaves the buffer
  leaves-rule : (a : Emitted) → is_line a ≡ false
      → ((f : Refusal) → case_refusal r figs sets ≡ some f → a ≡ EmitRefused f)
      → ((f : Refusal) → case_refusal r figs sets ≡ none → a ≡ EmitRefused f → f ≡ Space)
      → (case_refusal r figs sets ≡ none → (a ≡ EmitRefused Space) ↔ TooShort r figs sets place buffer)
      → EmitRule r figs sets place buffer (leaves a buffer)
  leaves-rule a o rows rest short =
      record {
        first = rows;
        others = rest;
        space = short;
        leaves = λ p. refl;
        fits = λ n next p. clash (ap is_line p) o;
        past = λ n next p. clash (ap is_line p) o;
        as_long = refl;
      }

  refused-rule : (f : Refusal) → case_refusal r figs sets ≡ some f → EmitRule r figs sets place buffer (leaves (EmitRefused f) buffer)
  refused-rule f e = leaves-rule (EmitRefused f) refl (λ g q. (let z : f ≡ g = cc in rw z)) (λ g q p. some-none e q) (λ q. some-none e q)

  module _ (unrefused : case_refusal r figs sets ≡ none) where
    -- nothing to write: no plan, or its end
    idle-rule : (a : Emitted) → is_line a ≡ false → ((f : Refusal) → ¬ (a ≡ EmitRefused f)) → ¬ (TooShort r figs sets place buffer) → EmitRule r figs sets place buffer (leaves a buffer)
    idle-rule a o n t = leaves-rule a o (λ f q. some-none q unrefused) (λ f q p. absurd (n f p)) (λ q. (λ p. absurd (n Space p), λ x. absurd (t x)))

    due-rule : has_figure figs (start_code r) ≡ true → (d : Due) → due r figs sets place ≡ some d → EmitRule r figs sets place buffer (line_written d.text d.next buffer)
    due-rule h d u = go (ltb (length buffer) (length d.text)) refl
      where
        go : (b : Bool) → ltb (length buffer) (length d.text) ≡ b
            → EmitRule r figs sets place buffer (cond b (leaves (EmitRefused Space) buffer) (record { answer = Line (length d.text) d.next; buffer = d.text ++ drop (length d.text) buffer }))
        go true e =
            leaves-rule (EmitRefused Space) refl (λ f q. some-none q unrefused) (λ f q p. cc)
            (λ q. (λ p. record { planned = h; line = d; is-due = u; shorter = ltb-true (length buffer) (length d.text) e }, λ x. refl))
        go false e =
            let k : length d.text ≤ length buffer = ltb-false (length buffer) (length d.text) e in
            record {
              first = λ f q. some-none q unrefused;
              others = λ f q p. differ emitted_kind p (λ z. omega arith);
              space = λ q. (
                λ p. differ emitted_kind p (λ z. omega arith),
                λ x. (
                    let z : d ≡ x.line = some_one (sym u ∙ x.is-due) in
                    let y : length buffer < length x.line.text = x.shorter in
                    let v : length buffer < length d.text = rw z y in
                    absurd (omega arith)
                    ),
              );
              leaves = λ p. clash refl p;
              fits = λ n next p. (let z : length d.text ≡ n = cc in omega arith);
              past = λ n next p. (let z : length d.text ≡ n = cc in rw (← z) (drop-append_seam d.text (drop (length d.text) buffer)));
              as_long = simp (length-append, length-drop) (omega arith);
            }

    place-rule : has_figure figs (start_code r) ≡ true → (o : Option Due) → due r figs sets place ≡ o → EmitRule r figs sets place buffer (due_written buffer o)
    place-rule h none u = idle-rule End refl (λ f p. differ emitted_kind p (λ z. omega arith)) (λ x. some-none x.is-due u)
    place-rule h (some d) u = due-rule h d u

pub emit-rule : EmitRuleHolds
emit-rule r figs sets place buffer =
    subst (EmitRule r figs sets place buffer) (sym (emit-steps r figs sets place buffer refl refl)) (go (case_refusal r figs sets) (figure_in figs (start_code r)) refl refl)
  where
    go : (o : Option Refusal) (start : Option ℕ) → case_refusal r figs sets ≡ o → figure_in figs (start_code r) ≡ start → EmitRule r figs sets place buffer (emitted r figs sets place buffer o start)
    go (some f) start e s = refused-rule r figs sets place buffer f e
    go none none e s = idle-rule r figs sets place buffer e NoPlan refl (λ f p. differ emitted_kind p (λ z. omega arith)) (λ x. clash x.planned (ap is_some s))
    go none (some n) e s = place-rule r figs sets place buffer e (ap is_some s) (due r figs sets place) refl

-- THE CHECKER. A line that is refused, or that changes no table.
abbrev is_start : PlanLine → ℕ
is_start (start_line n) = 0
is_start (placement_line d) = 1

abbrev line_taken : LineAnswer → ℕ
line_taken Taken = 0
line_taken (LineRefused f) = 1

unchanged : (r : Railway) (table : List ℕ) → Kept r table table
unchanged r table = record { as_long = refl; past = λ p l. refl }

record LineRule (r : Railway) (c : Checking) (text : List ℕ) (x : Left LineAnswer) : Type 0 where
  others : (f : Refusal) → x.answer ≡ LineRefused f → f ≡ PlanForm
  leaves : (f : Refusal) → x.answer ≡ LineRefused f → x.checking ≡ c
  changes : LineChanges r c text x

module _ (r : Railway) (c : Checking) (text : List ℕ) where
  -- tables that are left as they were, after any answer but that a placement's line was taken
  tables-left : (a : LineAnswer) (s : CheckerState) → ((d : PlacementLine) → Spells r text (placement_line d) → ¬ (a ≡ Taken))
      → LineChanges r c text (left a (record { state = s; figs = c.figs; sets = c.sets }))
  tables-left a s n =
      record {
        kept-figs = unchanged r c.figs;
        kept_sets = unchanged r c.sets;
        first-line = λ m x. (refl, refl);
        other-codes = λ d x p q. (refl, refl);
        own_code = λ d x e. absurd (n d x e);
      }

  refused-changes : (f : Refusal) → LineChanges r c text (refuse c f)
  refused-changes f = tables-left (LineRefused f) c.state (λ d x e. differ line_taken e (λ z. omega arith))

  form-rule : LineRule r c text (refuse c PlanForm)
  form-rule = record { others = λ f e. cc; leaves = λ f e. refl; changes = refused-changes PlanForm }

  -- a line that is taken is refused by no row
  taken-rule : (c' : Checking) → LineChanges r c text (left Taken c') → LineRule r c text (left Taken c')
  taken-rule c' x = record { others = λ f p. differ line_taken p (λ z. omega arith); leaves = λ f p. differ line_taken p (λ z. omega arith); changes = x }

  module _ (accepted : record_refusal r ≡ none) (long : Enough r c.figs c.sets) where
    reads : (l : PlanLine) → Spells r text l → read_line r text ≡ some l
    reads l s = (reads-line r (omega (arith, (facts r accepted).few-sections)) text l).1 s

    begin-rule : (n : ℕ) → read_line r text ≡ some (start_line n) → LineRule r c text (left Taken (begin c n))
    begin-rule n e = taken-rule (begin c n) (tables-left Taken (Begun n 0) (λ d s p. differ is_start (some_one (sym e ∙ reads (placement_line d) s)) (λ z. omega arith)))

    enter-rule : (m : ℕ) (d : PlacementLine) → read_line r text ≡ some (placement_line d) → LineRule r c text (left Taken (enter r c m d))
    enter-rule m d e =
        taken-rule (enter r c m d) (
        record {
          kept-figs = entered c.figs d.figure;
          kept_sets = entered c.sets (line_entry r d);
          first-line = λ n s. differ is_start (some_one (sym e ∙ reads (start_line n) s)) (λ z. omega arith);
          other-codes = λ k s p n. (
              let z : ¬ (p ≡ line_code r d) = (λ q. n (q ∙ ap (line_code r) (same k s))) in
              (get_or-set_other c.figs (line_code r d) p d.figure 0 z, get_or-set_other c.sets (line_code r d) p (line_entry r d) 0 z)
              );
          own_code = λ k s p. subst (λ (x : PlacementLine). (get_or (set c.figs (line_code r d) d.figure) (line_code r x) 0 ≡ x.figure)
              × (get_or (set c.sets (line_code r d) (line_entry r d)) (line_code r x) 0 ≡ line_entry r x)) (same k s) (
                get_or-set_same c.figs (line_code r d) d.figure 0 (omega (arith, inside, long.figures)),
                get_or-set_same c.sets (line_code r d) (line_entry r d) 0 (omega (arith, inside, long.settings)),
              );
        })
      where
        inside : line_code r d < placements r
        inside = code_in r accepted d ((reads-line r (omega (arith, (facts r accepted).few-sections)) text (placement_line d)).0 e).fit

        same : (k : PlacementLine) → Spells r text (placement_line k) → d ≡ k
        same k s = let z : ◌≡◌ {A = PlanLine} (placement_line d) (placement_line k) = some_one (sym e ∙ reads (placement_line k) s) in cc

        entered : (table : List ℕ) (v : ℕ) → Kept r table (set table (line_code r d) v)
        entered table v = record { as_long = length-set table (line_code r d) v; past = λ p l. get_or-set_other table (line_code r d) p v 0 (λ q. omega (arith, inside)) }

    takes-rule : (state : CheckerState) (o : Option PlanLine) → read_line r text ≡ o → LineRule r c text (takes r c state o)
    takes-rule Fresh none e = form-rule
    takes-rule (Begun m from) none e = form-rule
    takes-rule Fresh (some (start_line n)) e = begin-rule n e
    takes-rule Fresh (some (placement_line d)) e = form-rule
    takes-rule (Begun m from) (some (start_line n)) e = form-rule
    takes-rule (Begun m from) (some (placement_line d)) e = go (ltb (line_code r d) from)
      where
        go : (b : Bool) → LineRule r c text (cond b (refuse c PlanForm) (left Taken (enter r c m d)))
        go true = form-rule
        go false = enter-rule m d e

-- THE TEST behind the rows of the case
abbrev pub test_numbered : TestAnswer → ℕ
test_numbered Pass = 0
test_numbered (TestRefused f) = suc (number f)

record TestRule (state : CheckerState) (a : TestAnswer) : Type 0 where
  early : (a ≡ TestRefused PlanForm) ↔ (state ≡ Fresh)
  others : (f : Refusal) → a ≡ TestRefused f → (f ≡ PlanForm) ⊎ (f ≡ PlanFault)

abbrev is_fresh : CheckerState → ℕ
is_fresh Fresh = 0
is_fresh (Begun m from) = 1

tests-rule : (r : Railway) (c : Checking) (state : CheckerState) → TestRule state (tests r c none state)
tests-rule r c Fresh = record { early = (λ e. refl, λ e. refl); others = λ f e. inl cc }
tests-rule r c (Begun m from) = go (test_holds r m (by_tables c.figs c.sets))
  where
    go : (b : Bool) → TestRule (Begun m from) (cond b Pass (TestRefused PlanFault))
    go true = record { early = (λ e. differ test_numbered e (λ z. omega arith), λ e. differ is_fresh e (λ z. omega arith)); others = λ f e. differ test_numbered e (λ z. omega arith) }
    go false = record { early = (λ e. differ test_numbered e (λ z. omega arith), λ e. differ is_fresh e (λ z. omega arith)); others = λ f e. inr cc }

pub check-rule : CheckRuleHolds
unfolding test_plan
check-rule r c =
    record {
      line_first = line_refused r c;
      line-others = λ text f e q. (behind text e).others f q;
      line-leaves = λ text f q. kept text (case_refusal r c.figs c.sets) refl f q;
      line-changes = λ text. changed text (case_refusal r c.figs c.sets) refl;
      test-first = test-refused r c;
      test-early = λ e. (judged e).early;
      test-others = λ f e q. (judged e).others f q;
      test-leaves = refl;
    }
  where
    behind : (text : List ℕ) → case_refusal r c.figs c.sets ≡ none → LineRule r c text (take_line r c text)
    behind text e =
        let k = (case-none r c.figs c.sets).0 e in
        subst (LineRule r c text) (sym (line-steps r c text e)) (takes-rule r c text k.0 k.1 c.state (read_line r text) refl)

    kept : (text : List ℕ) (o : Option Refusal) → case_refusal r c.figs c.sets ≡ o → (f : Refusal) → (take_line r c text).answer ≡ LineRefused f → (take_line r c text).checking ≡ c
    kept text none e f q = (behind text e).leaves f q
    kept text (some g) e f q = ap (λ (x : Left LineAnswer). x.checking) (line-steps r c text e)

    changed : (text : List ℕ) (o : Option Refusal) → case_refusal r c.figs c.sets ≡ o → LineChanges r c text (take_line r c text)
    changed text none e = (behind text e).changes
    changed text (some g) e = subst (LineChanges r c text) (sym (line-steps r c text e)) (refused-changes r c text g)

    judged : case_refusal r c.figs c.sets ≡ none → TestRule c.state (test_plan r c).answer
    judged e = subst (TestRule c.state) (sym (test-steps r c e)) (tests-rule r c c.state)
