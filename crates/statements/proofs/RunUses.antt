-- The statement on runs at work, as whoever has it uses it, of any calls for the two tables and any call of the solver:
-- in Yard A, where the start's figure cannot be below 2, and in the line whose middle section is closed, where the
-- verdict is none. Assumes nothing.
use Rattle.std.specs.Prelude.{Ok}
use mathlib.Core.Path.{◌≡◌, refl, sym, ◌∙◌, ap}
use mathlib.Core.List.{List, [], ◌∷◌}
use mathlib.Core.Option.{none}
use Prim.Native.Nat.{ℕ, ◌≤◌}
use native.Mathlib.Omega.{arith}
use lib.ListN.{length, get_or-eq_default}
use base.Fml.{Lft, GName}
use denote.Triple.Clauses.{AtExit}
use contract.Lifetimes.{Lfts}
use borrow.Fn.Kinds.{Dens, res_t, ended_of}
use Rattle.laws.specs.Below.{any_below, sum_below, list_below}
use Rattle.railway.specs.declared.Side.{Side}
use Rattle.railway.specs.declared.Side.TheVariants.{Up, Down}
use Rattle.railway.specs.declared.Railway.{Railway}
use Rattle.railway.specs.Ends.{end_at}
use Rattle.railway.specs.Refusals.{first}
use Rattle.railway.specs.Record.{is_closed, joined_by, joined, has_signal, legs_of, train_of, weight_of, with_join, with_signal, with_closed, with_legs, with_train}
use Rattle.railway.specs.Rows.{weight_row, unknown_row, join_row, loose_row, longer, chain_row, place_row, record_refusal}
use Rattle.railway.specs.Yards.{yard_a, yard_one}
use Rattle.game.specs.Placement.{code_of, placements, start_code}
use Rattle.game.proofs.Examples.{shut_line}
use Rattle.game_tables.specs.SolverAnswer.{SolverAnswer, Unsolvable, Figure}
use Rattle.game_tables.specs.Tables.{tables_short, case_refusal}
use Rattle.game_tables.specs.Solver.{figure_given, SolverPost}
use Rattle.game_tables.proofs.KnownYards.{zeros, yard_a-accepted, one-filled}
use Rattle.runs.specs.Runs.{no_run, entry_at, table_in, RunPost, runs_sum, train_run, RunReply, replied}
use Rattle.runs.proofs.Uses.{sum-is-two, line-accepted, line-without}
use Rattle.runs.proofs.Inhabited.{one_answer, one-accepted, one_kept}
use Rattle.solver.proofs.solve.Kinds as solve
use Rattle.solver.proofs.solve.Reads.{Learnt as SolveLearnt}
use Rattle.runs_tables.proofs.run_table.Kinds as table
use Rattle.runs_tables.proofs.run_table.Reads.{Asked as TableAsked, Learnt as TableLearnt}
use Rattle.runs_tables.proofs.run_table.Statement.{statement as TableMeets}
use Rattle.statements.specs.Runs.{TableCall, SolveCall, RunsRun}

same : {A B : Type 0} → A ≡ B → A → B
same e x = rw e at x

nine : (placements yard_a ≡ 9) × (placements shut_line ≡ 9)
unfolding with_join with_signal with_closed with_legs with_train
nine = (refl, refl)

-- a solver that keeps its promise in the yard of one section, lent a table of one figure and one of nine settings
one_place : placements yard_one ≡ 1
unfolding with_train
one_place = refl

one_post : SolverPost yard_one (Figure 0) (5 ∷ []) zeros (0 ∷ []) zeros
unfolding case_refusal tables_short first weight_row weight_of unknown_row join_row loose_row chain_row longer place_row end_at
    joined_by joined has_signal legs_of train_of with_join with_signal with_legs with_train any_below start_code code_of
    sum_below list_below is_closed
one_post = record {
  numbered = refl;
  leaves = (
    record {
      filled = one-filled.1;
      kept-figs = record {
        as_long = refl;
        past = λ p l. get_or-eq_default (0 ∷ []) 0 {n = p} (omega (arith, one_place))
            ∙ sym (get_or-eq_default (5 ∷ []) 0 {n = p} (omega (arith, one_place)));
      };
      kept_sets = record { as_long = refl; past = λ p l. refl };
    },
    refl,
  );
}

-- whatever holds of the calls that run
module _ (run : RunsRun) where
  -- it asks nothing, and is met
  asks_nothing : (κs : Lfts 0) (a : Dens κs table.ps) → TableAsked κs a
  asks_nothing = run.table.asks

  is-met : {M : Type 1} → TableMeets M
  is-met = run.table.meets

  -- two calls for a table, up and down, and one of the solver, on one record
  module _ (r : Railway) (κs : Lfts 0) (a : Dens κs table.ps) (upward : (res_t table.r κs).Denot)
      (left : AtExit (ended_of 0 table.ps table.r) κs)
      (yard : a.0 ≡ r) (heads-up : a.1.0 ≡ Up) (learnt : TableLearnt κs a upward left)
      (κs' : Lfts 0) (b : Dens κs' table.ps) (downward : (res_t table.r κs').Denot)
      (left' : AtExit (ended_of 0 table.ps table.r) κs')
      (yard' : b.0 ≡ r) (heads-down : b.1.0 ≡ Down) (learnt' : TableLearnt κs' b downward left')
      (κs'' : Lfts 2) (d : Dens κs'' solve.ps) (answer : (res_t solve.r κs'').Denot)
      (left'' : AtExit (ended_of 2 solve.ps solve.r) κs'') (yard'' : d.0 ≡ r) (lf : 9 ≤ length d.1.0.now)
      (ls : 9 ≤ length d.1.1.0.now)
      (learnt'' : SolveLearnt κs'' d answer left'') where
    abbrev up : RunReply
    up = replied a.1.1.0 upward

    abbrev down : RunReply
    down = replied b.1.1.0 downward

    told-up : RunPost r Up a.1.1.0 up
    told-up = rw (yard, heads-up) at (same (run.table.tells κs a upward left) learnt)

    told-down : RunPost r Down b.1.1.0 down
    told-down = rw (yard', heads-down) at (same (run.table.tells κs' b downward left') learnt')

    solved : SolverPost r answer d.1.0.now d.1.1.0.now left''.1.0.now left''.1.1.0.now
    solved = rw yard'' at (same (run.solver.tells κs'' d answer left'') learnt'')

    -- Yard A: a figure that the solver answers is 2 or more
    two-at-least : r ≡ yard_a → (n : ℕ) → answer ≡ Figure n → 2 ≤ n
    two-at-least e n f =
        let p : RunPost yard_a Up a.1.1.0 up = rw e at told-up in
        let q : RunPost yard_a Down b.1.1.0 down = rw e at told-down in
        let s : SolverPost yard_a (Figure n) d.1.0.now d.1.1.0.now left''.1.0.now left''.1.1.0.now = rw (e, f) at solved in
        let z : runs_sum yard_a (table_in up) (table_in down) ≡ 2 = sum-is-two _ _ up down p q in
        omega (arith, z, ((run.whole yard_a yard_a-accepted _ _ up down p q).solver (Figure n) _ _ _ _ (omega (arith, nine.0)) (omega (arith, nine.0)) s).figure n refl)

    -- the line: train 1 has no run, and the verdict is none
    none-there : r ≡ shut_line → answer ≡ Unsolvable
    unfolding with_closed with_join with_train
    none-there e =
        let p : RunPost shut_line Up a.1.1.0 up = rw e at told-up in
        let q : RunPost shut_line Down b.1.1.0 down = rw e at told-down in
        let s : SolverPost shut_line answer d.1.0.now d.1.1.0.now left''.1.0.now left''.1.1.0.now = rw e at solved in
        ((run.whole shut_line line-accepted _ _ up down p q).solver answer _ _ _ _ (omega (arith, nine.1)) (omega (arith, nine.1)) s).verdict 0 (omega arith) (line-without _ up (table_in down) p)

    -- THE SAME OF THE CALLS as such: they are what the statement takes for calls
    as-up : TableCall r Up up
    as-up = record { κs = κs; args = a; left = left; of-record = yard; of-heading = heads-up; said = upward; learnt = learnt; replies = refl }

    as-down : TableCall r Down down
    as-down = record { κs = κs'; args = b; left = left'; of-record = yard'; of-heading = heads-down; said = downward; learnt = learnt'; replies = refl }

    as-solve : r ≡ yard_a → SolveCall r answer
    as-solve e =
        let z : placements r ≡ 9 = ap placements e ∙ nine.0 in
        record { κs = κs''; args = d; left = left''; of-record = yard''; enough-figures = omega (arith, z); enough-settings = omega (arith, z); learnt = learnt'' }

    two-by-calls : r ≡ yard_a → (n : ℕ) → answer ≡ Figure n → 2 ≤ n
    two-by-calls e n f =
        let p : RunPost yard_a Up a.1.1.0 up = rw e at told-up in
        let q : RunPost yard_a Down b.1.1.0 down = rw e at told-down in
        let z : runs_sum yard_a (table_in up) (table_in down) ≡ 2 = sum-is-two _ _ up down p q in
        let accepted : record_refusal r ≡ none = ap record_refusal e ∙ yard_a-accepted in
        let l : runs_sum r (table_in up) (table_in down) ≤ n = (run.bounded r accepted up down as-up as-down answer (as-solve e)).figure n (ap figure_given f) in
        let m : runs_sum yard_a (table_in up) (table_in down) ≤ n = rw e at l in
        omega (arith, z, m)

  -- THERE ARE SUCH CALLS: in the yard of one section, whatever table is handed in and wherever the solver's tables lie, of one and of nine entries; the sum of the runs is not above the figure, 0
  module _ (old : List (List ℕ)) (κ κ' : Lft) (at at' : ℕ × ℕ) (γ γ' : GName) where
    one-call : (heading : Side) → TableCall yard_one heading one_answer
    one-call heading = record { κs = tt; args = (yard_one, (heading, (old, tt))); left = (yard_one, (heading, (old, tt))); of-record = refl; of-heading = refl; said = Ok one_answer.table; learnt = one_kept heading old; replies = refl }

    one-solved : SolveCall yard_one (Figure 0)
    unfolding with_train
    one-solved = record {
      κs = (κ, (κ', tt));
      args = (yard_one, (record { ref_ptr = at; ghost_name = γ; now = 5 ∷ [] }, (record { ref_ptr = at'; ghost_name = γ'; now = zeros }, tt)));
      left = (yard_one, (record { ref_ptr = at; ghost_name = γ; now = 0 ∷ [] }, (record { ref_ptr = at'; ghost_name = γ'; now = zeros }, tt)));
      of-record = refl;
      enough-figures = omega arith;
      enough-settings = omega arith;
      learnt = one_post;
    }

    sum-is-none : runs_sum yard_one (table_in one_answer) (table_in one_answer) ≡ 0
    sum-is-none = let l = (run.bounded yard_one one-accepted one_answer one_answer (one-call Up) (one-call Down) (Figure 0) one-solved).figure 0 refl in omega (arith, l)

  -- OF CALLS: any three on Yard A, and any on the line, by what is said of them as such
  module _ (up down : RunReply) (answer : SolverAnswer) where
    calls-say : TableCall yard_a Up up → TableCall yard_a Down down → (entry_at (table_in up) 0 0 ≡ 0) × (entry_at (table_in down) 1 1 ≡ 0)
    unfolding with_join with_signal with_legs with_train
    calls-say u d = (let s = run.says yard_a yard_a-accepted up down u d in (s.up-says.itself 0 (omega arith), s.down-says.itself 1 (omega arith)))

    calls-bound : TableCall yard_a Up up → TableCall yard_a Down down → SolveCall yard_a answer → (n : ℕ) → answer ≡ Figure n → runs_sum yard_a (table_in up) (table_in down) ≤ n
    calls-bound u d c n e = (run.bounded yard_a yard_a-accepted up down u d answer c).figure n (ap figure_given e)

    calls-none : TableCall shut_line Up up → TableCall shut_line Down down → SolveCall shut_line answer → train_run shut_line (table_in up) (table_in down) 0 ≡ no_run → answer ≡ Unsolvable
    unfolding with_closed with_join with_train
    calls-none u d c e = (run.bounded shut_line line-accepted up down u d answer c).verdict 0 (omega arith) e
