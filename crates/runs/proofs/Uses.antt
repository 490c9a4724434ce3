-- The statements on runs at work, in Yard A and in the line whose middle section is closed: from each part a number is drawn, so that a part that were taken away, or that said nothing, would be
-- missed. Tables, numbers and answers are any of which the statement holds. In Yard A train 1 goes up from 2 to 3 and train 2 down from 3 to 1, one section each, and the start has figure 2.
-- Assumes nothing.
use mathlib.Core.Path.{◌≡◌, refl}
use mathlib.Core.Bool.{Bool, true}
use mathlib.Core.List.{List, []}
use mathlib.Core.Option.{none, some}
use Prim.Native.Nat.{ℕ, ◌≤◌}
use native.Mathlib.Omega.{arith}
use lib.ListN.{length, get_or}
use Rattle.laws.specs.Below.{any_below, sum_below}
use Rattle.laws.proofs.Bools.{some-none}
use Rattle.railway.specs.declared.Side.{Side}
use Rattle.railway.specs.declared.Side.TheVariants.{Up, Down}
use Rattle.railway.specs.declared.End.TheVariants.{Section}
use Rattle.railway.specs.declared.Railway.{Railway}
use Rattle.railway.specs.Ends.{end_at}
use Rattle.railway.specs.Refusals.{number_given, first}
use Rattle.railway.specs.Record.{empty_railway, is_closed, joined_by, joined, has_signal, legs_of, train_of, weight_of, with_join, with_signal, with_closed, with_legs, with_train}
use Rattle.railway.specs.Passing.{follow, passes, entered}
use Rattle.railway.specs.Rows.{weight_row, unknown_row, join_row, loose_row, longer, chain_row, place_row, record_refusal}
use Rattle.railway.specs.Yards.{line_t, yard_a, yard_aless}
use Rattle.game.specs.Game.{IsFigure, Forced}
use Rattle.game.specs.Placement.{placements, start_code}
use Rattle.game.specs.Moves.{game_of}
use Rattle.game.proofs.Examples.{shut_line}
use Rattle.game_tables.specs.SolverAnswer.{SolverAnswer, Unsolvable, Figure}
use Rattle.game_tables.specs.Solver.{SolverPost}
use Rattle.game_tables.proofs.KnownYards.{yard_a-accepted}
use Rattle.runs.specs.Runs.{Run, here, further, no_run, IsRun, entry_at, Square, RunTable, SameTrack, RunReply, table_in, RunPost, train_run, runs_sum, TableSays, RunsSay}
use Rattle.runs.proofs.Examples.{up-from-2, down-to-1}
use Rattle.runs.proofs.Runs.{table-of, runs-hold}

-- A RUN of no section ends where it begins
stays : {r : Railway} {heading : Side} {x y n : ℕ} → Run r heading x y n → n ≡ 0 → x ≡ y
stays (here l) e = refl
stays (further run i) e = absurd (omega (arith, e))

-- up from 3 the track of Yard A ends, so that nothing else is reached
ends_there : (plus : ℕ → Bool) → entered yard_a plus (Section (record { 0 = 2 }) Up) ≡ none
unfolding entered passes follow joined_by joined is_closed end_at with_join with_signal with_legs with_train
ends_there plus = refl

never-left : {z n : ℕ} → Run yard_a Up 2 z n → z ≡ 2
never-left (here l) = refl
never-left (further {y} {z} run i) =
    let e : y ≡ 2 = never-left run in
    let c : entered yard_a i.plus (Section (record { 0 = 2 }) Up) ≡ some z = rw e at i.comes in
    some-none c (ends_there i.plus)

-- AN ENTRY from 2 to 3, up: no larger than 1; it is not 0; so it is 1, as that from 3 to 1 is, down. It is not what stands for no run; that from 3 to 1, up, is.
at_most_one : (v : ℕ) → IsRun yard_a Up 1 2 v → v ≤ 1
at_most_one v i = i.least 1 up-from-2

not-zero : (v : ℕ) → IsRun yard_a Up 1 2 v → v ≡ 0 → ⊥
not-zero v i e = let s : ◌≡◌ {A = ℕ} 1 2 = stays (i.reached (λ d. omega (arith, d, e))) e in omega (arith, s)

pub run_up : (v : ℕ) → IsRun yard_a Up 1 2 v → v ≡ 1
run_up v i = omega (arith, at_most_one v i, not-zero v i)

pub run_down : (v : ℕ) → IsRun yard_a Down 2 0 v → v ≡ 1
run_down v i =
    let l : v ≤ 1 = i.least 1 down-to-1 in
    let z : v ≡ 0 → ⊥ = λ e. (let s : ◌≡◌ {A = ℕ} 2 0 = stays (i.reached (λ d. omega (arith, d, e))) e in omega (arith, s)) in
    omega (arith, l, z)

there-is-one : (v : ℕ) → IsRun yard_a Up 1 2 v → v ≡ no_run → ⊥
there-is-one v i e = i.none-exactly.0 e 1 up-from-2

there-is-none : (v : ℕ) → IsRun yard_a Up 2 0 v → v ≡ no_run
there-is-none v i = i.none-exactly.1 (λ n run. (let e : ◌≡◌ {A = ℕ} 0 2 = never-left run in omega (arith, e)))

-- A SQUARE has 48 rows, and 48 entries in each; a table is one
has-rows : (g : List (List ℕ)) → Square g → length g ≡ 48
has-rows g s = s.rows

has-columns : (g : List (List ℕ)) → Square g → length (get_or g 47 []) ≡ 48
has-columns g s = s.columns 47 (omega arith)

table-square : (g : List (List ℕ)) → RunTable yard_a Up g → (length g ≡ 48) × (length (get_or g 5 []) ≡ 48)
table-square g t = (t.square.rows, t.square.columns 5 (omega arith))

-- THE CALL accepts Yard A, and hands back a table with 1 from 2 to 3; where nothing is there it answers 3, and hands back the table that came
accepts : (old : List (List ℕ)) (a : RunReply) → RunPost yard_a Up old a → number_given a.answer ≡ none
unfolding record_refusal first weight_row weight_of unknown_row join_row loose_row longer chain_row place_row end_at joined_by
    joined has_signal legs_of train_of with_join with_signal with_legs with_train any_below is_closed
accepts old a post = post.numbered

refuses : (old : List (List ℕ)) (a : RunReply) → RunPost empty_railway Up old a → number_given a.answer ≡ some 3
unfolding record_refusal first
refuses old a post = post.numbered

as-it-came : (old : List (List ℕ)) (a : RunReply) → RunPost empty_railway Up old a → table_in a ≡ old
unfolding record_refusal first
as-it-came old a post = post.leaves

pub one_up : (g : List (List ℕ)) → RunTable yard_a Up g → entry_at g 1 2 ≡ 1
one_up g t = run_up (entry_at g 1 2) (t.entries 1 2 (omega arith) (omega arith))

pub one_down : (g : List (List ℕ)) → RunTable yard_a Down g → entry_at g 2 0 ≡ 1
one_down g t = run_down (entry_at g 2 0) (t.entries 2 0 (omega arith) (omega arith))

hands-back-one : (old : List (List ℕ)) (a : RunReply) → RunPost yard_a Up old a → entry_at (table_in a) 1 2 ≡ 1
hands-back-one old a post = one_up (table_in a) (table-of yard_a Up yard_a-accepted old a post)

-- WHAT A TABLE SAYS of Yard A, up: it has 48 rows; from 2 to 3 it is not 0, for a run of no section ends where it begins, it is 1 at most, and there is a run; from 3 to 1 there is none
says-square : (g : List (List ℕ)) → TableSays yard_a Up g → length g ≡ 48
says-square g s = s.square.rows

says-reached : (g : List (List ℕ)) → TableSays yard_a Up g → entry_at g 1 2 ≡ 0 → ⊥
says-reached g s e = let z : ◌≡◌ {A = ℕ} 1 2 = stays (s.reached 1 2 (omega arith) (omega arith) (λ d. omega (arith, d, e))) e in omega (arith, z)

says-least : (g : List (List ℕ)) → TableSays yard_a Up g → entry_at g 1 2 ≤ 1
says-least g s = s.least 1 2 1 (omega arith) (omega arith) up-from-2

says-one : (g : List (List ℕ)) → TableSays yard_a Up g → entry_at g 1 2 ≡ no_run → ⊥
says-one g s e = (s.none-exactly 1 2 (omega arith) (omega arith)).0 e 1 up-from-2

says_none : (g : List (List ℕ)) → TableSays yard_a Up g → entry_at g 2 0 ≡ no_run
says_none g s = (s.none-exactly 2 0 (omega arith) (omega arith)).1 (λ n run. (let e : ◌≡◌ {A = ℕ} 0 2 = never-left run in omega (arith, e)))

-- 0 from 1 to itself; nothing from 4, which is not there, nor to it; in the line with section 2 closed, nothing from 1 to 2
says-itself : (g : List (List ℕ)) → TableSays yard_a Up g → entry_at g 0 0 ≡ 0
unfolding with_join with_signal with_legs with_train
says-itself g s = s.itself 0 (omega arith)

says-from-nowhere : (g : List (List ℕ)) → TableSays yard_a Up g → (entry_at g 3 3 ≡ 255) × (entry_at g 3 0 ≡ 255)
unfolding with_join with_signal with_legs with_train
says-from-nowhere g s = (s.from-nowhere 3 3 (omega arith) (omega arith) (omega arith), s.from-nowhere 3 0 (omega arith) (omega arith) (omega arith))

says-to-nowhere : (g : List (List ℕ)) → TableSays yard_a Up g → entry_at g 0 3 ≡ 255
unfolding with_join with_signal with_legs with_train
says-to-nowhere g s = s.to-nowhere 0 3 (omega arith) (omega arith) (omega arith)

middle-closed : is_closed shut_line 1 ≡ true
unfolding is_closed with_closed with_join with_train
middle-closed = refl

says-to-closed : (g : List (List ℕ)) → TableSays shut_line Up g → entry_at g 0 1 ≡ 255
says-to-closed g s = s.to-closed 0 1 (omega arith) (omega arith) middle-closed (λ e. omega (arith, e))

-- ONE TRACK: Yard A without its signal at 1d; with train 1 from 1 in place of 2
less-signal : SameTrack yard_a yard_aless
unfolding with_signal
less-signal = record { sections = refl; points = refl; legs = refl; links = refl; closed = refl }

other-start : SameTrack yard_a (line_t 1 Up 1 3 yard_a)
unfolding with_train
other-start = record { sections = refl; points = refl; legs = refl; links = refl; closed = refl }

-- RUNS AND FIGURES, of what the statement says of Yard A: 0 from 1 to itself either way; no figure of the start is below the sum; an answer of the solver has none below it, either
module _ (up down : List (List ℕ)) (say : RunsSay yard_a up down) where
  both_say : (entry_at up 0 0 ≡ 0) × (entry_at down 1 1 ≡ 0)
  unfolding with_join with_signal with_legs with_train
  both_say = (say.up-says.itself 0 (omega arith), say.down-says.itself 1 (omega arith))

  bound-two : IsFigure (game_of yard_a) (start_code yard_a) (some 2) → runs_sum yard_a up down ≤ 2
  bound-two i = say.at_least 2 i

  bound-answer : (n : ℕ) (figs sets figs' sets' : List ℕ) → placements yard_a ≤ length figs
      → placements yard_a ≤ length sets → SolverPost yard_a (Figure n) figs sets figs' sets' → runs_sum yard_a up down ≤ n
  bound-answer n figs sets figs' sets' lf ls post = (say.solver (Figure n) figs sets figs' sets' lf ls post).figure n refl

  -- a record that has Yard A's track, and any signals and trains, has a run of one section from 2 to 3, and none from 3
  -- to 1, up; an entry for it there, from 2 to 3, is no larger than any run; and it has no run of no section there, by
  -- any table of Yard A
  module _ (s : Railway) (track : SameTrack yard_a s) where
    run-there : Run s Up 1 2 1
    run-there = ((say.disregards s track).runs Up 1 2 1).0 up-from-2

    none-there : (n : ℕ) → Run s Up 2 0 n → ⊥
    none-there n run = let e : ◌≡◌ {A = ℕ} 0 2 = never-left (((say.disregards s track).runs Up 2 0 n).1 run) in omega (arith, e)

    entry-there : (v n : ℕ) → IsRun yard_a Up 1 2 v → Run s Up 1 2 n → v ≤ n
    entry-there v n i run = ((say.disregards s track).entries Up 1 2 v i).least n run

    table-there : (g : List (List ℕ)) → RunTable yard_a Up g → (n : ℕ) → Run s Up 1 2 n → 1 ≤ n
    table-there g t n run =
        let l : entry_at g 1 2 ≤ n = (((say.disregards s track).tables Up g t).entries 1 2 (omega arith) (omega arith)).least n run in
        omega (arith, l, one_up g t)

  carried : Run yard_aless Up 1 2 1 × Run (line_t 1 Up 1 3 yard_a) Up 1 2 1
  carried = (run-there yard_aless less-signal, run-there (line_t 1 Up 1 3 yard_a) other-start)

-- and of the line with section 2 closed, if train 1 has no run: home is forced within no total, 5 say, and the solver's verdict is none
module _ (up down : List (List ℕ)) (say : RunsSay shut_line up down) (no-run : train_run shut_line up down 0 ≡ no_run) where
  never-forced : Forced (game_of shut_line) (start_code shut_line) 5 → ⊥
  unfolding with_closed with_join with_train
  never-forced f = say.without 0 (omega arith) no-run 5 f

  verdict-none : (a : SolverAnswer) (figs sets figs' sets' : List ℕ) → placements shut_line ≤ length figs
      → placements shut_line ≤ length sets → SolverPost shut_line a figs sets figs' sets' → a ≡ Unsolvable
  unfolding with_closed with_join with_train
  verdict-none a figs sets figs' sets' lf ls post = (say.solver a figs sets figs' sets' lf ls post).verdict 0 (omega arith) no-run

-- THE WHOLE, of Yard A: the runs are 1 and 1, and their sum is the figure; and of the line, where nothing but the closed section leads from 1 to 3
pub sum-is-two : (old₁ old₂ : List (List ℕ)) (up down : RunReply) → RunPost yard_a Up old₁ up → RunPost yard_a Down old₂ down → runs_sum yard_a (table_in up) (table_in down) ≡ 2
unfolding sum_below train_of with_join with_signal with_legs with_train
sum-is-two old₁ old₂ up down p q =
    let a : entry_at (table_in up) 1 2 ≡ 1 = one_up (table_in up) (table-of yard_a Up yard_a-accepted old₁ up p) in
    let b : entry_at (table_in down) 2 0 ≡ 1 = one_down (table_in down) (table-of yard_a Down yard_a-accepted old₂ down q) in
    rw (a, b) refl

pub line-accepted : record_refusal shut_line ≡ none
unfolding record_refusal first weight_row weight_of unknown_row join_row loose_row longer chain_row place_row end_at joined_by
    joined has_signal legs_of train_of with_join with_signal with_closed with_legs with_train any_below is_closed
line-accepted = refl

shut-before : (plus : ℕ → Bool) → entered shut_line plus (Section (record { 0 = 0 }) Up) ≡ none
unfolding entered passes follow joined_by joined is_closed end_at with_join with_signal with_closed with_legs with_train
shut-before plus = refl

held-back : {z n : ℕ} → Run shut_line Up 0 z n → z ≡ 0
held-back (here l) = refl
held-back (further {y} {z} run i) =
    let e : y ≡ 0 = held-back run in
    let c : entered shut_line i.plus (Section (record { 0 = 0 }) Up) ≡ some z = rw e at i.comes in
    some-none c (shut-before i.plus)

shut-behind : (plus : ℕ → Bool) → entered shut_line plus (Section (record { 0 = 2 }) Down) ≡ none
unfolding entered passes follow joined_by joined is_closed end_at with_join with_signal with_closed with_legs with_train
shut-behind plus = refl

held-back-down : {z n : ℕ} → Run shut_line Down 2 z n → z ≡ 2
held-back-down (here l) = refl
held-back-down (further {y} {z} run i) =
    let e : y ≡ 2 = held-back-down run in
    let c : entered shut_line i.plus (Section (record { 0 = 2 }) Down) ≡ some z = rw e at i.comes in
    some-none c (shut-behind i.plus)

pub none-up : (g : List (List ℕ)) → RunTable shut_line Up g → entry_at g 0 2 ≡ no_run
none-up g t = (t.entries 0 2 (omega arith) (omega arith)).none-exactly.1 (λ n run. (let z : ◌≡◌ {A = ℕ} 2 0 = held-back run in omega (arith, z)))

pub none-down : (g : List (List ℕ)) → RunTable shut_line Down g → entry_at g 2 0 ≡ no_run
none-down g t = (t.entries 2 0 (omega arith) (omega arith)).none-exactly.1 (λ n run. (let z : ◌≡◌ {A = ℕ} 0 2 = held-back-down run in omega (arith, z)))

of-train : (up down : List (List ℕ)) → entry_at up 0 2 ≡ no_run → train_run shut_line up down 0 ≡ no_run
unfolding train_of with_closed with_join with_train
of-train up down e = e

pub line-without : (old : List (List ℕ)) (up : RunReply) (down : List (List ℕ)) → RunPost shut_line Up old up → train_run shut_line (table_in up) down 0 ≡ no_run
line-without old up down p = of-train (table_in up) down (none-up (table_in up) (table-of shut_line Up line-accepted old up p))

line-has-none : (old₁ old₂ : List (List ℕ)) (up down : RunReply) → RunPost shut_line Up old₁ up → RunPost shut_line Down old₂ down → (a : SolverAnswer) (figs sets figs' sets' : List ℕ)
    → placements shut_line ≤ length figs → placements shut_line ≤ length sets → SolverPost shut_line a figs sets figs' sets' → a ≡ Unsolvable
line-has-none old₁ old₂ up down p q = verdict-none (table_in up) (table_in down) (runs-hold shut_line line-accepted old₁ old₂ up down p q) (line-without old₁ up (table_in down) p)
