-- The hypotheses can be met: Yard A's tables are what a solver leaves that keeps its promise, its start has a figure, buffers are long enough,
-- one buffer does for all lines, and lines that the checker refuses come among the plan's; there are plans that pass and plans that fail.
-- Assumes nothing.
use mathlib.Core.Path.{◌≡◌, refl, sym, ◌∙◌, ap}
use mathlib.Core.Bool.{true, false}
use mathlib.Core.List.{List, [], ◌∷◌, ◌++◌, map, flatten}
use mathlib.Core.Option.{none, some}
use Prim.Native.Nat.{ℕ, ◌≤◌}
use Prim.Native.String.{String}
use native.Mathlib.Omega.{arith}
use lib.Dec.{leb}
use lib.ListN.{length, replicate, get_or-eq_default}
use Rattle.laws.specs.Below.{all_below, any_below, lowest, sum_below, which_below, list_below}
use Rattle.laws.specs.Bits.{from_bits}
use Rattle.laws.specs.Lists.{any, all}
use Rattle.text.specs.Text.{digits, line, bytes}
use Rattle.text.specs.Reading.{fields, value_of, same_text}
use Rattle.railway.specs.CaseAnswer.{CaseAnswer, Accepted}
use Rattle.railway.specs.declared.Refusal.TheVariants.{PlanFault}
use Rattle.railway.specs.Ends.{end_at}
use Rattle.railway.specs.Refusals.{first, number_of}
use Rattle.railway.specs.Record.{is_closed, joined_by, joined, has_signal, legs_of, train_of, weight_of, with_join, with_signal, with_legs, with_train}
use Rattle.railway.specs.Passing.{follow, passes, entered}
use Rattle.railway.specs.Rows.{weight_row, unknown_row, join_row, loose_row, longer, chain_row, place_row}
use Rattle.game.specs.Local.{keeps_test}
use Rattle.game.specs.Placement.{code_of, sections_in, placements, stands_on, start_code, at_home, shared}
use Rattle.game.specs.Setting.{heads_for, held, may_move, free, signal_open}
use Rattle.game.specs.Moves.{occupied, move_of}
use Rattle.railway.specs.Yards.{yard_a}
use Rattle.game_tables.specs.SolverAnswer.{Figure}
use Rattle.game_tables.specs.Entries.{entry_from}
use Rattle.game_tables.specs.Tables.{no_figure, figure_in, tables_short, case_refusal}
use Rattle.game_tables.specs.Solver.{Kept, SolverPost}
use Rattle.game_tables.proofs.KnownYards.{figs_a, sets_a, yard_a-accepted, yard_a-filled}
use Rattle.plan.specs.declared.PlanPlace.TheVariants.{Top, From}
use Rattle.plan.specs.Emitted.{Line, End}
use Rattle.plan.specs.declared.CheckerState.TheVariants.{Fresh}
use Rattle.plan.specs.TestAnswer.{Pass, Refused}
use Rattle.plan.specs.Lines.{spell, fits, most_line_bytes}
use Rattle.plan.specs.Text.{line_for, plan_lines, plan_texts}
use Rattle.plan.specs.Emitter.{emit_line}
use Rattle.plan.specs.Several.{run_from, emit_lines, lines_of, front_of, take_front}
use Rattle.plan.specs.Calls.{Emitting, EmittingInto, long_enough, Taking, EmittingLines, wrote, stopped, TakingFronts}
use Rattle.plan.specs.Test.{listed_setting}
use Rattle.plan.specs.Reading.{guess, read_line}
use Rattle.plan.specs.Computed.{placement_passes, test_holds}
use Rattle.plan.specs.Checker.{Checking, fresh_checking, freshened, take_line, test_plan, LineCalls, call_lines, taken_texts}
use Rattle.plan.specs.Checked.{Passing, Failing}
use Rattle.plan.specs.Promises.{TestPost, FreshPost}
use Rattle.plan.specs.EndToEnd.{Handed, own_texts, others_refused, HandedFront, front_text, own_bytes, ends_line, others_left, EndToEnd}
use Rattle.plan.proofs.Promises.{tests-so}
use Rattle.plan.proofs.Calls.{emission, emitting, taking, call_fronts, fronts}
use Rattle.plan.proofs.Several.{lines-so}
use Rattle.plan.proofs.Emitter.{none-refused, into-whole}
use Rattle.plan.proofs.Checked.{checked-holds}
use Rattle.plan.proofs.Fresh.{fresh-all}
use Rattle.plan.proofs.Text.{plan-passes}
use Rattle.plan.proofs.EndToEnd.{end-to-end-holds}

-- tables of nine entries, lent to the solver
abbrev pub lent : List ℕ
lent = replicate 9 5

pub nine : placements yard_a ≡ 9
unfolding with_join with_signal with_legs with_train
nine = refl

kept : (new : List ℕ) → length new ≡ 9 → Kept yard_a lent new
kept new e = record { as_long = e; past = λ p l. get_or-eq_default new 0 {n = p} (omega (arith, nine)) ∙ sym (get_or-eq_default lent 0 {n = p} (omega (arith, nine))) }

-- a solver that keeps its promise
post : SolverPost yard_a (Figure 2) lent lent figs_a sets_a
unfolding case_refusal tables_short first weight_row weight_of unknown_row join_row loose_row chain_row longer place_row end_at
    joined_by joined has_signal legs_of train_of with_join with_signal with_legs with_train any_below start_code code_of
    sum_below list_below is_closed
post = record { numbered = refl; leaves = (record { filled = yard_a-filled; kept-figs = kept figs_a refl; kept_sets = kept sets_a refl }, refl) }

pub end_to_end : EndToEnd yard_a (Figure 2) figs_a sets_a
end_to_end = end-to-end-holds yard_a (Figure 2) lent lent figs_a sets_a yard_a-accepted (omega (arith, nine)) (omega (arith, nine)) post

-- What is computed: the plan's lines, with refused lines among those handed in; the plan's text; buffers that are long enough for it; the start has a
-- figure; the first line alone fails the test; each line fits into a buffer of the most bytes; and for several lines a call: the whole text, texts that have
-- it in front, cut at a line's end, what is taken of them, and the calls that write it.
abbrev stray : String → Handed
stray s = record { own = false; text = bytes s }

abbrev ours : String → Handed
ours s = record { own = true; text = bytes s }

abbrev pub handed : List Handed
handed = stray "2\t1\t1\t1\t-\n" ∷ ours "plan\t2\n" ∷ stray "plan\t2\n" ∷ ours "2\t1\t1\t1\t-\n" ∷ ours "3\t1\t0\t0\t-\n" ∷ stray "" ∷ ours "2\t3\t2\t0\t+\n" ∷ stray "2\t3" ∷ []

abbrev pub lines_a : List (List ℕ)
lines_a = bytes "plan\t2\n" ∷ bytes "2\t1\t1\t1\t-\n" ∷ bytes "3\t1\t0\t0\t-\n" ∷ bytes "2\t3\t2\t0\t+\n" ∷ []

-- the plan in two texts, the first with the beginning of a line behind it, the second with a line that is refused
abbrev pub handed_fronts : List HandedFront
handed_fronts =
    record { own = bytes "plan\t2\n2\t1\t1\t1\t-\n"; other = bytes "3\t1" }
    ∷ record { own = bytes "3\t1\t0\t0\t-\n2\t3\t2\t0\t+\n"; other = bytes "plan\t2\n" }
    ∷ []

abbrev pub text_a : List ℕ
text_a = bytes "plan\t2\n2\t1\t1\t1\t-\n3\t1\t0\t0\t-\n2\t3\t2\t0\t+\n"

abbrev pub buffers : List (List ℕ)
buffers = replicate 5 (replicate 10 7)

abbrev pub widest : List ℕ
widest = replicate most_line_bytes 7

-- tables lent to the checker, and made fresh, one of them with entries past the last code
abbrev pub wider : List ℕ
wider = replicate 12 5

abbrev pub made_fresh : Checking
made_fresh = record { state = Fresh; figs = replicate 9 no_figure; sets = replicate 9 0 ++ replicate 3 5 }

abbrev handed_calls : LineCalls
handed_calls = call_lines yard_a (map (λ h. h.text) handed) made_fresh

abbrev first_alone : LineCalls
first_alone = call_lines yard_a (bytes "plan\t2\n" ∷ []) (fresh_checking 9 9)

pub computed :
    (own_texts handed ≡ lines_a)
    × (plan_texts yard_a figs_a sets_a ≡ lines_a)
    × (long_enough lines_a buffers ≡ true)
    × (others_refused handed handed_calls.answers ≡ true)
    × (figure_in figs_a (start_code yard_a) ≡ some 2)
    × ((test_plan yard_a first_alone.end).answer ≡ Refused PlanFault)
    × (Pass ≡ (test_plan yard_a handed_calls.end).answer)
    × (all (λ l. leb (length l) (length widest)) (plan_texts yard_a figs_a sets_a) ≡ true)
    × (flatten lines_a ≡ text_a)
    × (own_bytes handed_fronts ≡ text_a)
    × (all (λ h. ends_line h.own) handed_fronts ≡ true)
    × (others_left handed_fronts (call_fronts yard_a (map front_text handed_fronts) made_fresh).answers ≡ true)
    × (others_left (record { own = text_a; other = [] } ∷ []) (call_fronts yard_a (text_a ∷ []) made_fresh).answers ≡ true)
    × (ends_line text_a ≡ true)
    × (emit_lines yard_a figs_a sets_a Top widest ≡ record { answer = Line 37 (From 8); buffer = text_a ++ replicate 8 7 })
    × (emit_lines yard_a figs_a sets_a (From 8) (text_a ++ replicate 8 7) ≡ record { answer = End; buffer = text_a ++ replicate 8 7 })
unfolding lowest flatten own_bytes ends_line others_left call_fronts take_front front_of lines_of emit_lines run_from emit_line
    long_enough plan_texts plan_lines line_for own_texts others_refused bytes call_lines take_line test_plan case_refusal
    tables_short first weight_row weight_of unknown_row join_row loose_row chain_row longer place_row end_at joined_by joined
    has_signal legs_of train_of with_join with_signal with_legs with_train all_below any_below sum_below which_below list_below
    from_bits any all read_line guess fields value_of same_text spell line digits fits entry_from code_of test_holds
    placement_passes listed_setting keeps_test sections_in stands_on start_code at_home shared heads_for may_move free held
    signal_open passes follow occupied move_of entered is_closed
computed = (refl, refl, refl, refl, refl, refl, refl, refl, refl, refl, refl, refl, refl, refl, refl, refl)

-- so demand 3 speaks of calls that there are: the emitter's with a buffer for each line, and with one of the most bytes, which is handed on
emits : Emitting yard_a figs_a sets_a Top buffers (emission yard_a figs_a sets_a buffers Top)
emits = emitting yard_a figs_a sets_a buffers Top

unrefused : case_refusal yard_a figs_a sets_a ≡ none
unrefused = none-refused yard_a figs_a sets_a yard_a-accepted (omega (arith, nine)) (omega (arith, nine))

emits-into : EmittingInto yard_a figs_a sets_a Top widest (record { lines = plan_texts yard_a figs_a sets_a; last = some End }) × (most_line_bytes ≤ length widest)
emits-into = (into-whole yard_a figs_a sets_a unrefused 2 computed.4 widest computed.7, omega arith)

-- for several lines a call: one writes them all, and the next one answers that the plan has ended
emits-lines : EmittingLines yard_a figs_a sets_a Top widest (record { text = text_a; last = End })
unfolding bytes
emits-lines =
    wrote Top (From 8) 37 widest (text_a ++ replicate 8 7) (record { text = []; last = End }) (lines-so yard_a figs_a sets_a Top widest _ (sym computed.14))
    (stopped (From 8) End (text_a ++ replicate 8 7) (text_a ++ replicate 8 7) refl (lines-so yard_a figs_a sets_a (From 8) (text_a ++ replicate 8 7) _ (sym computed.15)))

-- and the checker's, from tables made fresh, with lines among the plan's that it refuses, and then the test
unrefused-lent : case_refusal yard_a lent wider ≡ none
unrefused-lent = none-refused yard_a lent wider yard_a-accepted (omega (arith, nine)) (omega (arith, nine))

makes-fresh : freshened yard_a lent wider none ≡ made_fresh
unfolding with_join with_signal with_legs with_train
makes-fresh = refl

pub made-fresh : (a : CaseAnswer) (c : Checking) → FreshPost yard_a lent wider a c → c ≡ made_fresh
made-fresh a c p = p.checking ∙ ap (freshened yard_a lent wider) unrefused-lent ∙ makes-fresh

checks : FreshPost yard_a lent wider Accepted made_fresh × Taking yard_a made_fresh (map (λ h. h.text) handed) handed_calls × TestPost yard_a handed_calls.end Pass handed_calls.end
checks = (
  record { numbered = sym (ap number_of unrefused-lent); checking = sym (ap (freshened yard_a lent wider) unrefused-lent ∙ makes-fresh) },
  taking yard_a (map (λ h. h.text) handed) made_fresh,
  tests-so yard_a handed_calls.end Pass computed.6,
)

-- and there are plans that pass, and plans that fail
passing : Passing yard_a (plan_texts yard_a figs_a sets_a)
passing = plan-passes yard_a yard_a-accepted figs_a sets_a yard_a-filled 2 computed.4

failing : Failing yard_a (taken_texts first_alone.answers (bytes "plan\t2\n" ∷ []))
failing = (checked-holds yard_a yard_a-accepted (fresh_checking 9 9) (fresh-all yard_a 9 9 (omega (arith, nine)) (omega (arith, nine))) (bytes "plan\t2\n" ∷ [])).faulty.0 computed.5

-- and its calls for the lines in front of texts
checks-fronts : TakingFronts yard_a made_fresh (map front_text handed_fronts) (call_fronts yard_a (map front_text handed_fronts) made_fresh)
checks-fronts = fronts yard_a (map front_text handed_fronts) made_fresh
