-- What thinning is worth, of a call that keeps its promise. Whether the plan passes is one question for the test and for the call, the first row that applies; behind it the claims are
-- those on the tables. Lines that follow are answered by the state, the figures and the lengths of the tables, which stay. Assumes nothing.
use mathlib.Core.Path.{◌≡◌, refl, sym, ◌∙◌, ap, subst}
use mathlib.Core.Logic.{inl, inr}
use mathlib.Core.Bool.{true, false, cond, ◌||◌}
use mathlib.Core.List.{List, [], ◌∷◌, ◌++◌}
use mathlib.Core.Option.{Option, none, some}
use Prim.Native.Nat.{ℕ, ◌≤◌, ◌<◌}
use native.Mathlib.Omega.{arith}
use lib.ListN.{length, get_or, length-set}
use lib.Dec.{ltb}
use Rattle.laws.specs.Bits.{bit}
use Rattle.laws.proofs.Bools.{bool?, option?, lt?, some-none}
use Rattle.laws.proofs.Below.{count-mono}
use Rattle.railway.specs.declared.Railway.{Railway}
use Rattle.railway.specs.declared.Refusal.{Refusal}
use Rattle.railway.specs.declared.Refusal.TheVariants.{PlanForm, PlanFault, Space}
use Rattle.railway.specs.Refusals.{row, first}
use Rattle.railway.specs.Rows.{record_refusal, record_rows}
use Rattle.game.specs.Game.{Adversary, following, HomeWithin}
use Rattle.game.specs.Placement.{placements, start_code, at_home}
use Rattle.game.specs.Setting.{Setting}
use Rattle.game.specs.Moves.{game_of}
use Rattle.game.proofs.Accepted.{facts}
use Rattle.game_tables.specs.Entries.{train_bits, opens_in, setting_at}
use Rattle.game_tables.specs.Tables.{figure_in, setting_in, tables_short, case_refusal}
use Rattle.game_tables.proofs.Refusals.{case-none}
use Rattle.plan.specs.declared.CheckerState.{CheckerState}
use Rattle.plan.specs.declared.CheckerState.TheVariants.{Fresh, Begun}
use Rattle.plan.specs.LineAnswer.{LineAnswer}
use Rattle.plan.specs.TestAnswer.{TestAnswer, Pass, Refused as TestRefused}
use Rattle.plan.specs.Lines.{PlanLine, start_line, placement_line, line_code}
use Rattle.plan.specs.Test.{listed_setting, Test, by_tables}
use Rattle.plan.specs.Reading.{read_line}
use Rattle.plan.specs.Computed.{test_holds}
use Rattle.plan.specs.Checker.{Checking, Left, line_entry, take_line, test_rows, test_answer, test_plan, call_lines}
use Rattle.plan.specs.Steps.{takes, takes_if, tests}
use Rattle.plan.proofs.Steps.{line-steps, test-steps}
use Rattle.plan.proofs.Test.{tested, plan-works}
use Rattle.thin.specs.ThinAnswer.{ThinAnswer, Thinned, Refused}
use Rattle.thin.specs.Thinning.{stays, thinned_entry, thinned_table, thinned_checking, thin_leaves, thin_plan, ThinPost}
use Rattle.thin.specs.Claims.{opened, LeanAt, Lean, ThinClaims, ThinsHold}
use Rattle.thin.proofs.Bits.{is_train, only-opens}
use Rattle.thin.proofs.Placement.{stays-none, stays-lowest, was-open}
use Rattle.thin.proofs.Thinning.{as_long, entry-below, entry_past, entry-none, entry-home, entry-lean, entry-points, passes-again, table-again}

-- THE ANSWER of the call and of the test, by one refusal
pass-none : (o : Option Refusal) → test_answer o ≡ Pass → o ≡ none
pass-none none e = refl
pass-none (some f) e = absurd (refused-pass f e)
  where
    is_pass : TestAnswer → ℕ
    is_pass Pass = 0
    is_pass (TestRefused f) = 1

    refused-pass : (f : Refusal) → TestRefused f ≡ Pass → ⊥
    refused-pass f e = let z : ◌≡◌ {A = ℕ} 1 0 = ap is_pass e in absurd (omega arith)

thinned-none : (c d : Checking) (o : Option Refusal) → (thin_leaves c d o).answer ≡ Thinned → o ≡ none
thinned-none c d none e = refl
thinned-none c d (some f) e = absurd (refused-thinned f e)
  where
    is_thinned : ThinAnswer → ℕ
    is_thinned Thinned = 0
    is_thinned (Refused f) = 1

    refused-thinned : (f : Refusal) → Refused f ≡ Thinned → ⊥
    refused-thinned f e = let z : ◌≡◌ {A = ℕ} 1 0 = ap is_thinned e in absurd (omega arith)

-- the refusal that is told
told : TestAnswer → Option Refusal
told Pass = none
told (TestRefused f) = some f

told-thin : ThinAnswer → Option Refusal
told-thin Thinned = none
told-thin (Refused f) = some f

test-some : (f : Refusal) (o : Option Refusal) → test_answer o ≡ TestRefused f → o ≡ some f
unfolding told
test-some f none e = ap told e
test-some f (some g) e = ap told e

thin-some : (c d : Checking) (f : Refusal) (o : Option Refusal) → (thin_leaves c d o).answer ≡ Refused f → o ≡ some f
unfolding told-thin
thin-some c d f none e = ap told-thin e
thin-some c d f (some g) e = ap told-thin e

-- A PLAN THAT PASSES: the case is accepted, the tables are long enough, and what they list passes the test
pub record Passed (r : Railway) (c : Checking) : Type 0 where
  pub accepted : record_refusal r ≡ none
  pub enough : placements r ≤ length c.sets
  pub unrefused : case_refusal r c.figs c.sets ≡ none
  pub figure : ℕ
  pub from : ℕ
  pub begun : c.state ≡ Begun figure from
  pub test : Test r figure (by_tables c.figs c.sets)

module _ (r : Railway) (c : Checking) where
  pass-first : (test_plan r c).answer ≡ Pass → first (test_rows r c) ≡ none
  unfolding test_plan
  pass-first e = pass-none (first (test_rows r c)) e

  pub first-pass : first (test_rows r c) ≡ none → (test_plan r c).answer ≡ Pass
  unfolding test_plan
  first-pass e = ap test_answer e

  by_state : (s : CheckerState) → c.state ≡ s → case_refusal r c.figs c.sets ≡ none → tests r c none s ≡ Pass → Passed r c
  by_state Fresh e k h = some-none {B = Refusal} {x = PlanForm} refl (pass-none (some PlanForm) h)
  by_state (Begun m f) e k h = elim (bool? (test_holds r m (by_tables c.figs c.sets))) [
    | inl y ↦
        let n = (case-none r c.figs c.sets).0 k in
        record { accepted = n.0; enough = n.1.settings; unrefused = k; figure = m; from = f; begun = e; test = (tested r (by_tables c.figs c.sets) m).0 y }
    | inr y ↦ (let z : TestRefused PlanFault ≡ Pass = (let q : cond (test_holds r m (by_tables c.figs c.sets)) Pass (TestRefused PlanFault) ≡ TestRefused PlanFault = rw y refl in sym q ∙ h) in
        some-none {B = Refusal} {x = PlanFault} refl (pass-none (some PlanFault) z))
  ]

  pub passed : (test_plan r c).answer ≡ Pass → Passed r c
  passed e = elim (option? (case_refusal r c.figs c.sets)) [
    | inl k ↦ by_state c.state refl k (sym (test-steps r c k) ∙ e)
    | inr k ↦ some-none {B = Refusal} {x = k.0} refl (pass-none (some k.0) (sym (test-steps r c k.1) ∙ e))
  ]

  -- and the other way
  pub passing : Passed r c → (test_plan r c).answer ≡ Pass
  passing w =
      let h : test_holds r w.figure (by_tables c.figs c.sets) ≡ true = (tested r (by_tables c.figs c.sets) w.figure).1 w.test in
      test-steps r c w.unrefused ∙ ap (tests r c none) w.begun ∙ rw h refl

-- tables as long are refused alike
short-same : (r : Railway) (figs sets other : List ℕ) → length other ≡ length sets → case_refusal r figs other ≡ case_refusal r figs sets
unfolding case_refusal tables_short
short-same r figs sets other e = ap (λ (n : ℕ). first (record_rows r ++ (row Space (ltb (length figs) (placements r) || ltb n (placements r)) ∷ []))) e

-- A PLAN THAT WAS THINNED
module _ (r : Railway) (c : Checking) (w : Passed r c) where
  abbrev c' : Checking
  c' = thinned_checking r c

  long : length c'.sets ≡ length c.sets
  long = as_long r c.figs c.sets w.enough

  test' : Test r w.figure (by_tables c'.figs c'.sets)
  test' = passes-again r (facts r w.accepted) c.figs c.sets w.figure w.test

  passed' : Passed r c'
  passed' =
      record {
        accepted = w.accepted;
        enough = rw long w.enough;
        unrefused = short-same r c.figs c.sets c'.sets long ∙ w.unrefused;
        figure = w.figure;
        from = w.from;
        begun = w.begun;
        test = test';
      }

  -- entries
  at : (p : ℕ) → p < placements r → get_or c'.sets p 0 ≡ thinned_entry r c.figs c.sets p
  at p l = entry-below r c.figs c.sets p l

  beyond : (p : ℕ) → placements r ≤ p → get_or c'.sets p 0 ≡ get_or c.sets p 0
  beyond p l = entry_past r c.figs c.sets w.enough p l

  -- what stays at every code below the last stays
  stay : (p : ℕ) → thinned_entry r c.figs c.sets p ≡ get_or c.sets p 0 → get_or c'.sets p 0 ≡ get_or c.sets p 0
  stay p e = elim (lt? p (placements r)) [ inl l ↦ at p l ∙ e | inr l ↦ beyond p l ]

  module _ (p : ℕ) where
    abbrev v : ℕ
    v = get_or c.sets p 0

    lean-opens : (n : ℕ) → p < placements r → figure_in c.figs p ≡ some n → at_home r p ≡ false → (t : ℕ) → opens_in (get_or c'.sets p 0) t ≡ is_train (stays r p (setting_at r p v)) t
    lean-opens n l f e t = ap (λ (x : ℕ). opens_in x t) (at p l ∙ entry-lean r c.figs c.sets p n f e) ∙ only-opens v (stays r p (setting_at r p v)) t

    lean-at : (n : ℕ) → p < placements r → figure_in c.figs p ≡ some n → at_home r p ≡ false → LeanAt r c c' p
    unfolding setting_at
    lean-at n l f e =
        record {
          closed = λ y t. lean-opens n l f e t ∙ ap (λ (o : Option ℕ). is_train o t) (stays-none r p (bit v) (opens_in v) y);
          one-open = λ y t z u. lean-opens n l f e u ∙ ap (λ (o : Option ℕ). is_train o u) (stays-lowest r p (bit v) (opens_in v) y ∙ z);
        }

    never : (t : ℕ) → opened c' p t → opened c p t
    unfolding setting_at
    never t o = elim (lt? p (placements r)) [
      | inr l ↦ ap (λ (x : ℕ). opens_in x t) (sym (beyond p l)) ∙ o
      | inl l ↦ elim (bool? (at_home r p)) [
        | inl e ↦ ap (λ (x : ℕ). opens_in x t) (sym (at p l ∙ entry-home r c.figs c.sets p e)) ∙ o
        | inr e ↦ elim (option? (figure_in c.figs p)) [
          | inl f ↦ ap (λ (x : ℕ). opens_in x t) (sym (at p l ∙ entry-none r c.figs c.sets p f)) ∙ o
          | inr f ↦ was-open r p (bit v) (opens_in v) (w.test.apart p f.0 l f.1) t (sym (lean-opens f.0 l f.1 e t) ∙ o)
        ]
      ]
    ]

    points : (n : ℕ) → n < train_bits → bit (get_or c'.sets p 0) n ≡ bit v n
    points n k = elim (lt? p (placements r)) [
      | inl l ↦ ap (λ (x : ℕ). bit x n) (at p l) ∙ entry-points r c.figs c.sets p n k
      | inr l ↦ ap (λ (x : ℕ). bit x n) (beyond p l)
    ]

  -- thinned again
  again : (a : ThinAnswer) (c'' : Checking) → ThinPost r c' a c'' → (a ≡ Thinned) × (c'' ≡ c')
  unfolding thin_plan
  again a c'' post =
      let f : first (test_rows r c') ≡ none = pass-first r c' (passing r c' passed') in
      let s : thinned_table r c.figs c'.sets ≡ c'.sets = table-again r c.figs c.sets w.test.apart in
      let k : thinned_checking r c' ≡ c' = (λ i. record { state = c.state; figs = c.figs; sets = s i }) in (
        post.answer ∙ ap (λ (o : Option Refusal). (thin_leaves c' (thinned_checking r c') o).answer) f,
        post.checking ∙ ap (λ (o : Option Refusal). (thin_leaves c' (thinned_checking r c') o).checking) f ∙ k,
      )

  follow : (m from : ℕ) → c.state ≡ Begun m from → (choice : Adversary Setting) → HomeWithin (game_of r) (following (setting_in r c'.sets)) choice (start_code r) m
  unfolding listed_setting setting_at
  follow m from e choice =
      subst (λ (n : ℕ). HomeWithin (game_of r) (following (setting_in r c'.sets)) choice (start_code r) n) (same-figure (sym w.begun ∙ e))
      (plan-works r w.accepted w.figure (by_tables c'.figs c'.sets) test' choice)
    where
      figure_of : CheckerState → ℕ
      figure_of Fresh = 0
      figure_of (Begun m from) = m

      same-figure : Begun w.figure w.from ≡ Begun m from → w.figure ≡ m
      same-figure e = ap figure_of e

  pub is-lean : Lean r c c'
  is-lean =
      record {
        lean = λ p n l f e. lean-at p n l f e;
        passes = passing r c' passed';
        again = again;
        follow = follow;
        never = never;
        fewer = λ p. count-mono (opens_in (get_or c'.sets p 0)) (opens_in (get_or c.sets p 0)) (never p) r.trains;
        points = points;
        home = λ p e. stay p (entry-home r c.figs c.sets p e);
        unlisted = λ p f. stay p (entry-none r c.figs c.sets p f);
        past = beyond;
      }

-- MORE LINES: what a line is answered and leaves depends on the entries of the setting table in nothing but that table
pub record Similar (c d : Checking) : Type 0 where
  pub state : d.state ≡ c.state
  pub figures : d.figs ≡ c.figs
  pub sized : length d.sets ≡ length c.sets

record SimilarLeft (x y : Left LineAnswer) : Type 0 where
  answers : y.answer ≡ x.answer
  left : Similar x.checking y.checking

abbrev like : Checking → List ℕ → Checking
like c sets = record { state = c.state; figs = c.figs; sets = sets }

takes-similar : (r : Railway) (c : Checking) (sets : List ℕ) → length sets ≡ length c.sets → (s : CheckerState) (l : Option PlanLine) → SimilarLeft (takes r c s l) (takes r (like c sets) s l)
takes-similar r c sets e s none = record { answers = refl; left = record { state = refl; figures = refl; sized = e } }
takes-similar r c sets e Fresh (some (start_line n)) = record { answers = refl; left = record { state = refl; figures = refl; sized = e } }
takes-similar r c sets e Fresh (some (placement_line d)) = record { answers = refl; left = record { state = refl; figures = refl; sized = e } }
takes-similar r c sets e (Begun m f) (some (start_line n)) = record { answers = refl; left = record { state = refl; figures = refl; sized = e } }
takes-similar r c sets e (Begun m f) (some (placement_line d)) = elim (bool? (ltb (line_code r d) f)) [
  | inl y ↦ rw y (record { answers = refl; left = record { state = refl; figures = refl; sized = e } })
  | inr y ↦ rw y (record {
    answers = refl;
    left = record { state = refl; figures = refl; sized = length-set sets (line_code r d) (line_entry r d) ∙ e ∙ sym (length-set c.sets (line_code r d) (line_entry r d)) };
  })
]

steps-similar : (r : Railway) (c : Checking) (text sets : List ℕ) → length sets ≡ length c.sets → (o : Option Refusal) → SimilarLeft (takes_if r c text o) (takes_if r (like c sets) text o)
steps-similar r c text sets e (some f) = record { answers = refl; left = record { state = refl; figures = refl; sized = e } }
steps-similar r c text sets e none = takes-similar r c sets e c.state (read_line r text)

take-similar : (r : Railway) (c d : Checking) (text : List ℕ) → Similar c d → SimilarLeft (take_line r c text) (take_line r d text)
take-similar r c d text s =
    let is : like c d.sets ≡ d = (λ i. record { state = sym s.state i; figs = sym s.figures i; sets = d.sets }) in
    let k : case_refusal r c.figs d.sets ≡ case_refusal r c.figs c.sets = short-same r c.figs c.sets d.sets s.sized in
    subst (λ (x : Checking). SimilarLeft (take_line r c text) (take_line r x text)) is
    (subst (λ (y : Left LineAnswer). SimilarLeft (take_line r c text) y) (sym (line-steps r (like c d.sets) text k))
    (subst (λ (y : Left LineAnswer). SimilarLeft y (takes_if r (like c d.sets) text (case_refusal r c.figs c.sets))) (sym (line-steps r c text refl))
    (steps-similar r c text d.sets s.sized (case_refusal r c.figs c.sets))))

pub lines-similar : (r : Railway) (texts : List (List ℕ)) (c d : Checking) → Similar c d → (call_lines r texts d).answers ≡ (call_lines r texts c).answers
unfolding call_lines
lines-similar r [] c d s = refl
lines-similar r (l ∷ ls) c d s =
    let w = take-similar r c d l s in
    let a : (take_line r d l).answer ≡ (take_line r c l).answer = w.answers in
    let b : (call_lines r ls (take_line r d l).checking).answers ≡ (call_lines r ls (take_line r c l).checking).answers =
    lines-similar r ls (take_line r c l).checking (take_line r d l).checking w.left in
    rw (a, b)

-- THE CALL
module _ (r : Railway) (c : Checking) where
  abbrev after : Option Refusal → Left ThinAnswer
  after = thin_leaves c (thinned_checking r c)

  leaves : (o : Option Refusal) → first (test_rows r c) ≡ o → Similar c (after o).checking
  leaves (some f) e = record { state = refl; figures = refl; sized = refl }
  leaves none e = record { state = refl; figures = refl; sized = long r c (passed r c (first-pass r c e)) }

  pub claims : ThinClaims r c (thin_plan r c).answer (thin_plan r c).checking
  unfolding thin_plan test_plan
  claims =
      let s = leaves (first (test_rows r c)) refl in
      record {
        passed = (λ e. first-pass r c (thinned-none c (thinned_checking r c) (first (test_rows r c)) e), λ e. ap (λ (o : Option Refusal). (after o).answer) (pass-first r c e));
        refused = λ f. (λ e. ap test_answer (thin-some c (thinned_checking r c) f (first (test_rows r c)) e), λ e. ap (λ (o : Option Refusal). (after o).answer) (test-some f (first (test_rows r c)) e));
        kept = λ f e. ap (λ (o : Option Refusal). (after o).checking) (thin-some c (thinned_checking r c) f (first (test_rows r c)) e);
        thinned = λ e.
            let n : first (test_rows r c) ≡ none = thinned-none c (thinned_checking r c) (first (test_rows r c)) e in
            subst (λ (x : Checking). Lean r c x) (sym (ap (λ (o : Option Refusal). (after o).checking) n)) (is-lean r c (passed r c (first-pass r c n)));
        figures = s.figures;
        state = s.state;
        as_long = s.sized;
        more = λ texts. lines-similar r texts c (after (first (test_rows r c))).checking s;
      }

pub thins-hold : ThinsHold
thins-hold r c a c' post = subst (λ (x : ThinAnswer). ThinClaims r c x c') (sym post.answer) (subst (λ (x : Checking). ThinClaims r c (thin_plan r c).answer x) (sym post.checking) (claims r c))
