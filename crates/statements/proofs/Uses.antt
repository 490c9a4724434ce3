-- The statements on the calls that run at work: of any call of each, handed Yard A, something is drawn from what the call tells, and from nothing else, so
-- that a link that were taken away, or that said nothing, would be missed. Assumes nothing.
use mathlib.Core.Path.{◌≡◌, refl, sym, ◌∙◌, ap, subst}
use mathlib.Core.Bool.{true, false, cond}
use mathlib.Core.List.{List, [], ◌∷◌, ◌++◌}
use mathlib.Core.Option.{none, some}
use Prim.Native.Nat.{ℕ, ◌≤◌}
use native.Mathlib.Omega.{arith}
use lib.ListN.{length, replicate}
use denote.Triple.Clauses.{AtExit}
use contract.Lifetimes.{Lfts}
use borrow.Fn.Kinds.{Dens, res_t, ended_of}
use Rattle.laws.specs.Below.{any_below, sum_below, which_below, list_below}
use Rattle.laws.specs.Bits.{from_bits}
use Rattle.laws.specs.Lists.{any, all}
use Rattle.text.specs.Text.{digits, line, bytes}
use Rattle.text.specs.Reading.{fields, value_of, same_text}
use Rattle.railway.specs.declared.Refusal.TheVariants.{PlanForm, PlanFault}
use Rattle.railway.specs.Ends.{end_at}
use Rattle.railway.specs.CaseAnswer.{CaseAnswer}
use Rattle.railway.specs.Refusals.{first, number_given as caseNumber}
use Rattle.railway.specs.Record.{is_closed, joined_by, joined, has_signal, legs_of, train_of, weight_of, with_join, with_signal, with_legs, with_train}
use Rattle.railway.specs.Rows.{weight_row, unknown_row, join_row, loose_row, longer, chain_row, place_row}
use Rattle.railway.specs.Yards.{yard_a}
use Rattle.game.specs.Game.{at, may}
use Rattle.game.specs.Placement.{code_of, sections_in, placements, stands_on, start_code, shared}
use Rattle.game.specs.Setting.{Setting, heads_for, held, may_move, signal_open, free}
use Rattle.railway.specs.Passing.{entered, follow, passes}
use Rattle.game.specs.Moves.{occupied, move_of, game_of}
use Rattle.game.proofs.Figures.{figure-one}
use Rattle.game_tables.specs.SolverAnswer.{SolverAnswer}
use Rattle.game_tables.specs.Entries.{entry_from, entry_of}
use Rattle.game_tables.specs.Tables.{no_figure, figure_in, tables_short, case_refusal}
use Rattle.game_tables.specs.Solver.{number_given, figure_given, SolverPost}
use Rattle.game_tables.proofs.KnownYards.{figs_a, sets_a, yard_a-accepted, yard_a-filled}
use Rattle.plan.specs.declared.PlanPlace.{PlanPlace}
use Rattle.plan.specs.declared.PlanPlace.TheVariants.{Top, From}
use Rattle.plan.specs.Emitted.{Emitted, Line}
use Rattle.plan.specs.declared.CheckerState.{CheckerState}
use Rattle.plan.specs.declared.CheckerState.TheVariants.{Fresh, Begun}
use Rattle.plan.specs.LineAnswer.{LineAnswer, Taken, Refused as LineRefused}
use Rattle.plan.specs.TestAnswer.{TestAnswer, Pass, Refused}
use Rattle.plan.specs.FrontAnswer.{FrontAnswer}
use Rattle.plan.specs.Lines.{spell, fits}
use Rattle.plan.specs.Emitter.{number_given as emitNumber, emit_line}
use Rattle.plan.specs.Reading.{guess, read_line}
use Rattle.plan.specs.Checker.{Checking, fresh_checking, take_line, test_plan, LineCalls, call_lines, taken_texts}
use Rattle.plan.specs.Several.{front_number, EmitLinesPost, FrontPost}
use Rattle.plan.specs.Promises.{EmitterPost, LinePost, TestPost, FreshPost}
use Rattle.plan.specs.Checked.{Checked}
use Rattle.plan.specs.Calls.{Taking}
use Rattle.plan.specs.EndToEnd.{EndToEnd}
use Rattle.plan.proofs.Calls.{taking-one}
use Rattle.plan.proofs.Inhabited.{lent, wider, made_fresh, made-fresh}
use Rattle.plan.proofs.RuleUses.{fresh_kept, other_texts, other-passes, other-fails, other-not-failing, other-not-passing}
use Rattle.plan_checker.specs.Answers.{checking}
use Rattle.solver.proofs.solve.Kinds as solve
use Rattle.solver.proofs.solve.Reads.{Asked as SolveAsked, Learnt as SolveLearnt}
use Rattle.solver.proofs.solve.Statement.{statement as SolveMeets}
use Rattle.plan_emitter.proofs.emit_line.Kinds as emit
use Rattle.plan_emitter.proofs.emit_line.Reads.{Asked as EmitAsked, Learnt as EmitLearnt}
use Rattle.plan_emitter.proofs.emit_line.Statement.{statement as EmitMeets}
use Rattle.plan_emitter.proofs.emit_lines.Kinds as lines
use Rattle.plan_emitter.proofs.emit_lines.Reads.{Asked as LinesAsked, Learnt as LinesLearnt}
use Rattle.plan_emitter.proofs.emit_lines.Statement.{statement as LinesMeets}
use Rattle.plan_checker.proofs.Checker.fresh.Kinds as fresh
use Rattle.plan_checker.proofs.Checker.fresh.Reads.{Asked as FreshAsked, Learnt as FreshLearnt}
use Rattle.plan_checker.proofs.Checker.fresh.Statement.{statement as FreshMeets}
use Rattle.plan_checker.proofs.Checker.take.Kinds as take
use Rattle.plan_checker.proofs.Checker.take.Reads.{Asked as TakeAsked, Learnt as TakeLearnt}
use Rattle.plan_checker.proofs.Checker.take.Statement.{statement as TakeMeets}
use Rattle.plan_checker.proofs.Checker.take_front.Kinds as front
use Rattle.plan_checker.proofs.Checker.take_front.Reads.{Asked as FrontAsked, Learnt as FrontLearnt}
use Rattle.plan_checker.proofs.Checker.take_front.Statement.{statement as FrontMeets}
use Rattle.plan_checker.proofs.Checker.test.Kinds as test
use Rattle.plan_checker.proofs.Checker.test.Reads.{Asked as TestAsked, Learnt as TestLearnt}
use Rattle.plan_checker.proofs.Checker.test.Statement.{statement as TestMeets}
use Rattle.railway_compiled.specs.Table.{Compiled, CompilePost, compilation}
use Rattle.railway_compiled.proofs.compile.Kinds as compile
use Rattle.railway_compiled.proofs.compile.Reads.{Asked as CompileAsked, Learnt as CompileLearnt}
use Rattle.railway_compiled.proofs.compile.Statement.{statement as CompileMeets}
use Rattle.game_moves.specs.Answers.{ended, move_under}
use Rattle.railway_routes.specs.Routes.{Laid}
use Rattle.game_case.proofs.case_ways.Kinds as ways
use Rattle.game_case.proofs.case_ways.Reads.{Asked as WaysAsked, Learnt as WaysLearnt}
use Rattle.game_case.proofs.case_ways.Statement.{statement as WaysMeet}
use Rattle.game_moves.proofs.move_of.Kinds as move
use Rattle.game_moves.proofs.move_of.Reads.{Asked as MoveAsked, Learnt as MoveLearnt}
use Rattle.game_moves.proofs.move_of.Statement.{statement as MoveMeets}
use Rattle.statements.specs.Checks.{TestSays}
use Rattle.statements.proofs.Running.{end-to-end-runs}
use Rattle.statements.proofs.Checks.{checker-runs}
use Rattle.statements.proofs.Moving.{moves-run}

-- a proposition, and another that it is
same : {A B : Type 0} → A ≡ B → A → B
same e x = subst (λ (X : Type 0). X) e x

nine : placements yard_a ≡ 9
unfolding with_join with_signal with_legs with_train
nine = refl

-- NOTHING IS ASKED of whoever calls, and every routine meets its contract.
asked :
    ((κs : Lfts 2) (a : Dens κs solve.ps) → SolveAsked κs a)
    × ((κs : Lfts 3) (a : Dens κs emit.ps) → EmitAsked κs a)
    × ((κs : Lfts 2) (a : Dens κs fresh.ps) → FreshAsked κs a)
    × ((κs : Lfts 4) (a : Dens κs take.ps) → TakeAsked κs a)
    × ((κs : Lfts 3) (a : Dens κs test.ps) → TestAsked κs a)
    × ((κs : Lfts 3) (a : Dens κs lines.ps) → LinesAsked κs a)
    × ((κs : Lfts 4) (a : Dens κs front.ps) → FrontAsked κs a)
    × ((κs : Lfts 0) (a : Dens κs compile.ps) → CompileAsked κs a)
    × ((κs : Lfts 0) (a : Dens κs ways.ps) → WaysAsked κs a)
    × ((κs : Lfts 2) (a : Dens κs move.ps) → MoveAsked κs a)
asked = (
  end-to-end-runs.solver.asks,
  end-to-end-runs.emitter.asks,
  checker-runs.fresh.asks,
  checker-runs.take.asks,
  checker-runs.test.asks,
  end-to-end-runs.lines.asks,
  end-to-end-runs.front.asks,
  moves-run.compile.asks,
  moves-run.ways.asks,
  moves-run.move.asks,
)

module _ {M : Type 1} where
  solve-met : SolveMeets M
  solve-met = end-to-end-runs.solver.meets

  emit-met : EmitMeets M
  emit-met = end-to-end-runs.emitter.meets

  fresh-met : FreshMeets M
  fresh-met = end-to-end-runs.fresh.meets

  take-met : TakeMeets M
  take-met = end-to-end-runs.take.meets

  test-met : TestMeets M
  test-met = end-to-end-runs.test.meets

  lines-met : LinesMeets M
  lines-met = end-to-end-runs.lines.meets

  front-met : FrontMeets M
  front-met = end-to-end-runs.front.meets

  compile-met : CompileMeets M
  compile-met = moves-run.compile.meets

  ways-met : WaysMeet M
  ways-met = moves-run.ways.meets

  move-met : MoveMeets M
  move-met = moves-run.move.meets

-- THE SOLVER. Lent nine entries twice, it answers 2; lent eight and nine, it refuses with 9.
start-two : (a : SolverAnswer) (figs sets : List ℕ) → EndToEnd yard_a a figs sets → figure_given a ≡ some 2
unfolding start_code code_of sum_below list_below train_of with_join with_signal with_legs with_train
start-two a figs sets d = d.answer ∙ figure-one (game_of yard_a) 7 (figure_in figs 7) (some 2) (d.plays.figures 7 (omega arith)) (yard_a-filled.figures 7 (omega arith))

solve-two : (κs : Lfts 2) (a : Dens κs solve.ps) (answer : (res_t solve.r κs).Denot) (left : AtExit (ended_of 2 solve.ps solve.r) κs)
    → a.0 ≡ yard_a → length a.1.0.now ≡ 9 → length a.1.1.0.now ≡ 9 → SolveLearnt κs a answer left → figure_given answer ≡ some 2
solve-two κs a answer left yard nine₁ nine₂ learnt =
    start-two answer left.1.0.now left.1.1.0.now (rw yard at (end-to-end-runs.whole κs a answer left
    (rw yard yard_a-accepted) (rw yard (omega (arith, nine))) (rw yard (omega (arith, nine))) learnt))

-- what the promises compute to: 9 for tables of eight entries; the first line emitted, and taken; 10 for a test that comes first
solver-nine : (a : SolverAnswer) (figs sets : List ℕ) → SolverPost yard_a a (replicate 8 5) (replicate 9 6) figs sets → (number_given a ≡ some 9) × (figs ≡ replicate 8 5) × (sets ≡ replicate 9 6)
unfolding case_refusal tables_short first weight_row weight_of unknown_row join_row loose_row chain_row longer place_row end_at
    joined_by joined has_signal legs_of train_of with_join with_signal with_legs with_train any_below is_closed
solver-nine a figs sets p = (p.numbered, p.leaves.0, p.leaves.1)

lines-nine : (place : PlanPlace) (b b' : List ℕ) (a : Emitted) → EmitLinesPost yard_a (replicate 8 5) (replicate 9 6) place b a b' → emitNumber a ≡ some 9
unfolding case_refusal tables_short first weight_row weight_of unknown_row join_row loose_row chain_row longer place_row end_at
    joined_by joined has_signal legs_of train_of with_join with_signal with_legs with_train any_below is_closed
lines-nine place b b' a p = p.numbered

front-nine : (c : CheckerState) (text : List ℕ) (a : FrontAnswer) (c' : Checking)
    → FrontPost yard_a (record { state = c; figs = replicate 8 5; sets = replicate 9 6 }) text a c'
    → front_number a ≡ some 9
unfolding case_refusal tables_short first weight_row weight_of unknown_row join_row loose_row chain_row longer place_row end_at
    joined_by joined has_signal legs_of train_of with_join with_signal with_legs with_train any_below is_closed
front-nine c text a c' p = p.numbered

first-written : (a : Emitted) (b : List ℕ) → EmitterPost yard_a figs_a sets_a Top (replicate 9 7) a b → (a ≡ Line 7 (From 0)) × (b ≡ bytes "plan\t2\n" ++ (7 ∷ 7 ∷ []))
unfolding bytes emit_line spell line digits code_of sum_below list_below start_code case_refusal tables_short first weight_row
    weight_of unknown_row join_row loose_row chain_row longer place_row end_at joined_by joined has_signal legs_of train_of
    with_join with_signal with_legs with_train any_below is_closed
first-written a b p = (p.answer, p.buffer)

first_taken : (a : LineAnswer) (c : Checking) → LinePost yard_a (fresh_checking 9 9) (bytes "plan\t2\n") a c → (a ≡ Taken) × (c.state ≡ Begun 2 0)
unfolding bytes take_line list_below which_below any all read_line guess fields value_of same_text spell line digits fits
    case_refusal tables_short first weight_row weight_of unknown_row join_row loose_row chain_row longer place_row end_at joined_by
    joined has_signal legs_of train_of with_join with_signal with_legs with_train any_below is_closed
first_taken a c p = (p.answer, ap (λ (x : Checking). x.state) p.checking)

early-ten : (a : TestAnswer) (c : Checking) → TestPost yard_a (fresh_checking 9 9) a c → a ≡ Refused PlanForm
unfolding test_plan case_refusal tables_short first weight_row weight_of unknown_row join_row loose_row chain_row longer place_row
    end_at joined_by joined has_signal legs_of train_of with_join with_signal with_legs with_train any_below is_closed
early-ten a c p = p.answer

solve-nine : (κs : Lfts 2) (a : Dens κs solve.ps) (answer : (res_t solve.r κs).Denot) (left : AtExit (ended_of 2 solve.ps solve.r) κs)
    → a.0 ≡ yard_a → a.1.0.now ≡ replicate 8 5 → a.1.1.0.now ≡ replicate 9 6 → SolveLearnt κs a answer left
    → (number_given answer ≡ some 9) × (left.1.0.now ≡ replicate 8 5) × (left.1.1.0.now ≡ replicate 9 6)
solve-nine κs a answer left yard figs sets learnt =
    solver-nine answer left.1.0.now left.1.1.0.now (rw (yard, figs, sets) at (same (end-to-end-runs.solver.tells κs a answer left) learnt))

-- THE EMITTER. With Yard A's tables and a buffer of nine bytes the first call writes the first line.
emit-first : (κs : Lfts 3) (a : Dens κs emit.ps) (answer : (res_t emit.r κs).Denot) (left : AtExit (ended_of 3 emit.ps emit.r) κs)
    → a.0 ≡ yard_a → a.1.0.now ≡ figs_a → a.1.1.0.now ≡ sets_a → a.1.1.1.0 ≡ Top → a.1.1.1.1.0.now ≡ replicate 9 7 → EmitLearnt κs a answer left
    → (answer ≡ Line 7 (From 0)) × (left.1.1.1.1.0.now ≡ bytes "plan\t2\n" ++ (7 ∷ 7 ∷ []))
emit-first κs a answer left yard figs sets top buffer learnt =
    first-written answer left.1.1.1.1.0.now (rw (yard, figs, sets, top, buffer) at (same (end-to-end-runs.emitter.tells κs a answer left) learnt))

emit-nine : (κs : Lfts 3) (a : Dens κs lines.ps) (answer : (res_t lines.r κs).Denot) (left : AtExit (ended_of 3 lines.ps lines.r) κs)
    → a.0 ≡ yard_a → a.1.0.now ≡ replicate 8 5 → a.1.1.0.now ≡ replicate 9 6 → LinesLearnt κs a answer left → emitNumber answer ≡ some 9
emit-nine κs a answer left yard figs sets learnt =
    lines-nine a.1.1.1.0 a.1.1.1.1.0.now left.1.1.1.1.0.now answer (rw (yard, figs, sets) at (same (end-to-end-runs.lines.tells κs a answer left) learnt))

-- THE CHECKER. Tables of nine and twelve entries made fresh have none and zero at nine, and behind them what they had; eight are too few, and stay; the
-- first line is taken; a test that comes first is refused with 10.
fresh-none : (κs : Lfts 2) (a : Dens κs fresh.ps) (answer : (res_t fresh.r κs).Denot) (left : AtExit (ended_of 2 fresh.ps fresh.r) κs)
    → a.0 ≡ yard_a → a.1.0.now ≡ lent → a.1.1.0.now ≡ wider → FreshLearnt κs a answer left
    → checking answer.0 left.1.0.now left.1.1.0.now ≡ made_fresh
fresh-none κs a answer left yard figs sets learnt =
    made-fresh answer.1 (checking answer.0 left.1.0.now left.1.1.0.now) (rw (yard, figs, sets) at (same (end-to-end-runs.fresh.tells κs a answer left) learnt))

fresh-nine : (κs : Lfts 2) (a : Dens κs fresh.ps) (answer : (res_t fresh.r κs).Denot) (left : AtExit (ended_of 2 fresh.ps fresh.r) κs)
    → a.0 ≡ yard_a → a.1.0.now ≡ replicate 8 5 → a.1.1.0.now ≡ replicate 9 6 → FreshLearnt κs a answer left
    → (caseNumber answer.1 ≡ some 9) × (left.1.0.now ≡ replicate 8 5) × (left.1.1.0.now ≡ replicate 9 6)
fresh-nine κs a answer left yard figs sets learnt =
    fresh_kept answer.1 (checking answer.0 left.1.0.now left.1.1.0.now) (rw (yard, figs, sets) at (same (end-to-end-runs.fresh.tells κs a answer left) learnt))

take-first : (κs : Lfts 4) (a : Dens κs take.ps) (answer : (res_t take.r κs).Denot) (left : AtExit (ended_of 4 take.ps take.r) κs)
    → a.0.now.state ≡ Fresh → a.1.0 ≡ yard_a → a.1.1.0.now ≡ bytes "plan\t2\n" → a.1.1.1.0.now ≡ replicate 9 no_figure → a.1.1.1.1.0.now ≡ replicate 9 0
    → TakeLearnt κs a answer left → (answer ≡ Taken) × (left.0.now.state ≡ Begun 2 0)
take-first κs a answer left state yard text figs sets learnt =
    first_taken answer (checking left.0.now left.1.1.1.0.now left.1.1.1.1.0.now)
    (rw (state, yard, text, figs, sets) at (same (end-to-end-runs.take.tells κs a answer left) learnt))

take-nine : (κs : Lfts 4) (a : Dens κs front.ps) (answer : (res_t front.r κs).Denot) (left : AtExit (ended_of 4 front.ps front.r) κs)
    → a.1.0 ≡ yard_a → a.1.1.1.0.now ≡ replicate 8 5 → a.1.1.1.1.0.now ≡ replicate 9 6 → FrontLearnt κs a answer left → front_number answer ≡ some 9
take-nine κs a answer left yard figs sets learnt =
    front-nine a.0.now.state a.1.1.0.now answer (checking left.0.now left.1.1.1.0.now left.1.1.1.1.0.now)
    (rw (yard, figs, sets) at (same (end-to-end-runs.front.tells κs a answer left) learnt))

test-first : (κs : Lfts 3) (a : Dens κs test.ps) (answer : (res_t test.r κs).Denot) (left : AtExit (ended_of 3 test.ps test.r) κs)
    → a.0.now.state ≡ Fresh → a.1.0 ≡ yard_a → a.1.1.0.now ≡ replicate 9 no_figure → a.1.1.1.0.now ≡ replicate 9 0 → TestLearnt κs a answer left → answer ≡ Refused PlanForm
test-first κs a answer left state yard figs sets learnt =
    early-ten answer _ (rw (state, yard, figs, sets) at (same (end-to-end-runs.test.tells κs a answer left) learnt))

-- A PLAN BY ANOTHER MAKER, from tables of any length that is enough: the test passes it, and not with another figure in its first line.
module _ (lent₁ lent₂ : List ℕ) (answered : CaseAnswer) (c : Checking) (enough₁ : 9 ≤ length lent₁)
    (enough₂ : 9 ≤ length lent₂) (made : FreshPost yard_a lent₁ lent₂ answered c) (a : TestAnswer)
    (c' : Checking) (u : LineCalls)
    (tests : TestPost yard_a u.end a c') where
  said : (texts : List (List ℕ)) → Taking yard_a c texts u → Checked yard_a texts u.answers (taken_texts u.answers texts) u.end × TestSays yard_a (taken_texts u.answers texts) a
  said texts calls = checker-runs.whole yard_a yard_a-accepted lent₁ lent₂ answered c (omega (arith, nine)) (omega (arith, nine)) made texts u calls a c' tests

  module _ (calls : Taking yard_a c (other_texts "plan\t9\n") u) where
    nine-taken : taken_texts u.answers (other_texts "plan\t9\n") ≡ other_texts "plan\t9\n"
    nine-taken = (said (other_texts "plan\t9\n") calls).0.whole (record { start = other-passes.start; lines = other-passes.lines; form = other-passes.form; holds = tt })

    passes-foreign : a ≡ Pass
    passes-foreign = (said (other_texts "plan\t9\n") calls).1.passes.1 (rw nine-taken other-passes)

    no-fault : ¬ (a ≡ Refused PlanFault)
    no-fault e = other-not-failing (rw nine-taken at ((said (other_texts "plan\t9\n") calls).1.faulty.0 e))

  module _ (calls : Taking yard_a c (other_texts "plan\t8\n") u) where
    eight-taken : taken_texts u.answers (other_texts "plan\t8\n") ≡ other_texts "plan\t8\n"
    eight-taken = (said (other_texts "plan\t8\n") calls).0.whole (record { start = other-fails.start; lines = other-fails.lines; form = other-fails.form; holds = tt })

    fails-foreign : a ≡ Refused PlanFault
    fails-foreign = (said (other_texts "plan\t8\n") calls).1.faulty.1 (rw eight-taken other-fails)

    no-pass : ¬ (a ≡ Pass)
    no-pass e = other-not-passing (rw eight-taken at ((said (other_texts "plan\t8\n") calls).1.passes.0 e))

-- a text without its line end is refused with 10, and so is the test behind it
cut_off : (u : LineCalls) → u ≡ call_lines yard_a (bytes "plan\t2" ∷ []) made_fresh → (u.answers ≡ LineRefused PlanForm ∷ []) × (taken_texts u.answers (bytes "plan\t2" ∷ []) ≡ [])
unfolding bytes call_lines taken_texts take_line list_below which_below any all read_line guess fields value_of same_text spell
    line digits fits case_refusal tables_short first weight_row weight_of unknown_row join_row loose_row chain_row longer
    place_row end_at joined_by joined has_signal legs_of train_of with_join with_signal with_legs with_train any_below is_closed
cut_off u e = (ap (λ (x : LineCalls). x.answers) e, ap (λ (x : LineCalls). taken_texts x.answers (bytes "plan\t2" ∷ [])) e)

out-of-form : (said : CaseAnswer) (c : Checking) → FreshPost yard_a lent wider said c → (u : LineCalls) → Taking yard_a c (bytes "plan\t2" ∷ []) u
    → (a : TestAnswer) (c' : Checking) → TestPost yard_a u.end a c' → (u.answers ≡ LineRefused PlanForm ∷ []) × (a ≡ Refused PlanForm)
out-of-form said c made u calls a c' tests =
    let s : c ≡ made_fresh = made-fresh said c made in
    let x = cut_off u (rw s at (taking-one yard_a c (bytes "plan\t2" ∷ []) u calls)) in
    (x.0, (checker-runs.whole yard_a yard_a-accepted lent wider said c (omega (arith, nine)) (omega (arith, nine)) made (bytes "plan\t2" ∷ []) u calls a c' tests).1.early.1 x.1)

-- MOVES. With all points at plus and all signals open, train 2 goes from (2, 3) to section 1, by the table that was compiled from Yard A and its ways.
abbrev wide : Setting
wide = record { plus = λ n. true; is_open = λ i. true }

moved_on : (entry_of yard_a 7 wide ≡ 65537) × (shared yard_a 7 ≡ false) × (cond (may (game_of yard_a) 7 wide 1) (some (move_of yard_a 7 wide 1)) none ≡ some (at 1))
unfolding entry_from from_bits signal_open may_move free held heads_for stands_on sections_in shared train_of has_signal with_join
    with_signal with_legs with_train move_of passes follow occupied code_of sum_below end_at joined_by joined
    any_below entered is_closed
moved_on = (refl, refl, refl)

move-on : (κs : Lfts 0) (a : Dens κs compile.ps) (c : (res_t compile.r κs).Denot) (left : AtExit (ended_of 0 compile.ps compile.r) κs) → a.0 ≡ yard_a → CompileLearnt κs a c left
    → (κsʷ : Lfts 0) (d : Dens κsʷ ways.ps) (w : (res_t ways.r κsʷ).Denot) (leftʷ : AtExit (ended_of 0 ways.ps ways.r) κsʷ) → d.0 ≡ a.0 → WaysLearnt κsʷ d w leftʷ
    → (κs' : Lfts 2) (b : Dens κs' move.ps) (m : (res_t move.r κs').Denot) (left' : AtExit (ended_of 2 move.ps move.r) κs')
    → b.0.now ≡ (compilation c).table → b.1.0.now ≡ w → b.1.1.0 ≡ 7 → b.1.1.1.0 ≡ 65537 → b.1.1.1.1.0 ≡ 1 → MoveLearnt κs' b m left' → ended m ≡ some (at 1)
move-on κs a c left yard compiled κsʷ d w leftʷ one laid κs' b m left' table way place entry train moved =
    let e = moves-run.whole κs a c left (rw yard yard_a-accepted) compiled κsʷ d w leftʷ one laid κs' b m left' table
    way moved (rw (yard, place) moved_on.1) wide (rw (yard, place, entry) (sym moved_on.0)) in
    (rw (yard, place, train) at e) ∙ moved_on.2

compile-yard : (κs : Lfts 0) (a : Dens κs compile.ps) (c : (res_t compile.r κs).Denot) (left : AtExit (ended_of 0 compile.ps compile.r) κs) → a.0 ≡ yard_a → CompileLearnt κs a c left
    → Compiled yard_a (compilation c).table
compile-yard κs a c left yard learnt = let p : CompilePost yard_a (compilation c) = rw yard at (same (moves-run.compile.tells κs a c left) learnt) in p.accepted yard_a-accepted

ways-yard : (κs : Lfts 0) (a : Dens κs ways.ps) (w : (res_t ways.r κs).Denot) (left : AtExit (ended_of 0 ways.ps ways.r) κs) → a.0 ≡ yard_a → WaysLearnt κs a w left
    → Laid yard_a (is_closed yard_a) w
ways-yard κs a w left yard learnt = rw yard at (same (moves-run.ways.tells κs a w left) learnt)

move-told : (κs : Lfts 2) (b : Dens κs move.ps) (m : (res_t move.r κs).Denot) (left : AtExit (ended_of 2 move.ps move.r) κs) → MoveLearnt κs b m left
    → Compiled yard_a b.0.now → Laid yard_a (is_closed yard_a) b.1.0.now → ended m ≡ move_under yard_a b.1.1.0 b.1.1.1.0 b.1.1.1.1.0
move-told κs b m left learnt compiled laid = same (moves-run.move.tells κs b m left) learnt yard_a compiled laid
