-- The checker's and the emitter's answers by computation: one table of texts handed in, with the numbers that each line and the test get; one of
-- calls of the emitter; the order of several points and open trains in a line.
-- Assumes nothing.
use mathlib.Core.Path.{◌≡◌, refl}
use mathlib.Core.Bool.{Bool, true, false, ◌&&◌}
use mathlib.Core.List.{List, [], ◌∷◌, ◌++◌, map}
use mathlib.Core.Option.{Option, none, some}
use Prim.Native.Nat.{ℕ}
use Prim.Native.String.{String}
use lib.Dec.{eqb}
use lib.ListN.{set, replicate}
use Rattle.laws.specs.Below.{all_below, any_below, sum_below, which_below, list_below, lowest}
use Rattle.laws.specs.Bits.{from_bits}
use Rattle.laws.specs.Lists.{any, all}
use Rattle.text.specs.Text.{digits, line, bytes}
use Rattle.text.specs.Reading.{fields, value_of, same_text}
use Rattle.railway.specs.declared.Side.TheVariants.{Up, Down}
use Rattle.railway.specs.declared.Railway.{Railway}
use Rattle.railway.specs.declared.Refusal.TheVariants.{Space}
use Rattle.railway.specs.Ends.{end_at}
use Rattle.railway.specs.Refusals.{first}
use Rattle.railway.specs.Record.{is_closed, with_closed, joined_by, joined, has_signal, legs_of, train_of, weight_of, with_join, with_signal, with_legs, with_train}
use Rattle.railway.specs.Passing.{follow, passes, entered}
use Rattle.railway.specs.Rows.{weight_row, unknown_row, join_row, loose_row, longer, chain_row, place_row}
use Rattle.game.specs.Local.{keeps_test}
use Rattle.game.specs.Placement.{code_of, sections_in, stands_on, start_code, at_home, shared}
use Rattle.game.specs.Setting.{heads_for, held, may_move, free, signal_open}
use Rattle.game.specs.Moves.{occupied, move_of}
use Rattle.railway.specs.Yards.{yard_h, line_x, line_j, line_g, line_t, sec, yard_a, yard_one, yard_two}
use Rattle.game_tables.specs.Entries.{entry_from}
use Rattle.game_tables.specs.Tables.{tables_short, case_refusal}
use Rattle.game_tables.proofs.KnownYards.{figs_a, sets_a}
use Rattle.game_tables.proofs.Examples.{ladder, weighed}
use Rattle.plan.specs.declared.PlanPlace.{PlanPlace}
use Rattle.plan.specs.declared.PlanPlace.TheVariants.{Top, From}
use Rattle.plan.specs.Emitted.{Line, End, NoPlan, Refused}
use Rattle.plan.specs.Lines.{PlacementLine, placement_line, spell, fits}
use Rattle.plan.specs.Text.{line_for}
use Rattle.plan.specs.Emitter.{number_given, Wrote, leaves, emit_line}
use Rattle.plan.specs.Test.{listed_setting}
use Rattle.plan.specs.Reading.{guess, read_line}
use Rattle.plan.specs.Computed.{placement_passes, test_holds}
use Rattle.plan.specs.Checker.{fresh_checking, line_entry, line_number, test_number, take_line, test_plan, LineCalls, call_lines}

-- A text and the number that its call is to get; 0: it is taken.
record Said : Type 0 where
  text : String
  number : ℕ

infixr 77 ◌gets◌
abbrev ◌gets◌ : String → ℕ → Said
s gets n = record { text = s; number = n }

-- Texts handed in from fresh tables of so many entries, and the number that the test is to get; 0: it passes.
record Script : Type 0 where
  yard : Railway
  entries : ℕ
  said : List Said
  test : ℕ

abbrev is_number : Option ℕ → ℕ → Bool
is_number none n = eqb n 0
is_number (some m) n = eqb m n

-- the numbers of the answers, one by one
unfoldable numbers : List (Option ℕ) → List Said → Bool
numbers [] [] = true
numbers [] (s ∷ ss) = false
numbers (a ∷ answers) [] = false
numbers (a ∷ answers) (s ∷ ss) = is_number a s.number && numbers answers ss

abbrev ends : Script → LineCalls → Bool
ends x u = numbers (map line_number u.answers) x.said && is_number (test_number (test_plan x.yard u.end).answer) x.test

abbrev holds : Script → Bool
holds x = ends x (call_lines x.yard (map (λ s. bytes s.text) x.said) (fresh_checking x.entries x.entries))

-- 1u joined with 2u: row 5 applies.
abbrev wrong_join : Railway
wrong_join = line_t 1 Up 1 2 (line_j (sec 1 Up) (sec 2 Up) (yard_h 2 0 1))

-- Two sections, joined 1u to 2d, with signals at 1d and 1u: train 1 heads up and train 2 down, and both start at home.
abbrev both_home : Railway
both_home = line_t 2 Down 1 1 (line_t 1 Up 2 2 (line_g (sec 1 Down) (line_g (sec 1 Up) (yard_two 2))))

-- Three sections in a line, for a train up from 1 to 3; the same with the middle one closed.
abbrev in_line : Railway
in_line = line_t 1 Up 1 3 (line_j (sec 2 Up) (sec 3 Down) (line_j (sec 1 Up) (sec 2 Down) (yard_h 3 0 1)))

abbrev closed_between : Railway
closed_between = line_x 2 in_line

-- The same for a train that starts and ends on 3.
abbrev starts_behind : Railway
starts_behind = line_t 1 Up 3 3 closed_between

abbrev script : Railway → ℕ → List Said → ℕ → Script
script r n ss t = record { yard = r; entries = n; said = ss; test = t }

abbrev scripts : List Script
scripts =
    -- Yard A's plan, with lines among its own that are refused: before the first line; the form of numbers, fields and lines; a second first line
    script yard_a 9
    ("2\t1\t1\t1\t-\n" gets 10
    ∷ "" gets 10
    ∷ "plan\t2" gets 10
    ∷ "plan\t02\n" gets 10
    ∷ "plan\t4294967295\n" gets 10
    ∷ "plan\t2\n" gets 0
    ∷ "plan\t2\n" gets 10
    ∷ "2\t1\t00\t1\t-\n" gets 10
    ∷ "2\t1\t1\t1\t\n" gets 10
    ∷ "2\t1\t1\t1\t--\n" gets 10
    ∷ "2\t1\t1\t1\t.\n" gets 10
    ∷ "2\t1\t1\t21\t-\n" gets 10
    ∷ "2\t1\t1\t01\t-\n" gets 10
    ∷ "2\t1\t1\t3\t-\n" gets 10
    ∷ "4\t1\t1\t1\t-\n" gets 10
    ∷ "0\t1\t1\t1\t-\n" gets 10
    ∷ "2\t1\t1\t1\t-\t\n" gets 10
    ∷ "2\t1\t1\t1\t------------------------------------\n" gets 10
    ∷ "2\t1\t1\t1\t-\n" gets 0
    ∷ "2\t1\t1\t1\t-\n" gets 10
    ∷ "3\t1\t0\t0\t-\n" gets 0
    ∷ "2\t1\t1\t1\t-\n" gets 10
    ∷ "2\t3\t4294967295\t0\t+\n" gets 10
    ∷ "2\t3\t2\t0\t+\n" gets 0
    ∷ "2\t3" gets 10
    ∷ []) 0
    -- other figures, and any at home
    ∷ script yard_a 12 ("plan\t9\n" gets 0 ∷ "2\t1\t8\t1\t-\n" gets 0 ∷ "3\t1\t7\t0\t+\n" gets 0 ∷ "2\t3\t9\t0\t+\n" gets 0 ∷ []) 0
    -- the first line alone; another figure in it; a figure that is not smaller; a wrong point; nobody may move; a placement too many
    ∷ script yard_a 9 ("plan\t2\n" gets 0 ∷ []) 11
    ∷ script yard_a 9 ("plan\t1\n" gets 0 ∷ "2\t1\t1\t1\t-\n" gets 0 ∷ "3\t1\t0\t0\t-\n" gets 0 ∷ "2\t3\t2\t0\t+\n" gets 0 ∷ []) 11
    ∷ script yard_a 9 ("plan\t2\n" gets 0 ∷ "2\t1\t1\t1\t-\n" gets 0 ∷ "3\t1\t1\t0\t-\n" gets 0 ∷ "2\t3\t2\t0\t+\n" gets 0 ∷ []) 11
    ∷ script yard_a 9 ("plan\t2\n" gets 0 ∷ "2\t1\t1\t1\t-\n" gets 0 ∷ "3\t1\t0\t0\t-\n" gets 0 ∷ "2\t3\t2\t0\t-\n" gets 0 ∷ []) 11
    ∷ script yard_a 9 ("plan\t2\n" gets 0 ∷ "2\t1\t1\t0\t-\n" gets 0 ∷ "3\t1\t0\t0\t-\n" gets 0 ∷ "2\t3\t2\t0\t+\n" gets 0 ∷ []) 11
    ∷ script yard_a 9 ("plan\t2\n" gets 0 ∷ "2\t1\t1\t1\t-\n" gets 0 ∷ "3\t1\t0\t0\t-\n" gets 0 ∷ "1\t3\t9\t0\t-\n" gets 0 ∷ "2\t3\t2\t0\t+\n" gets 0 ∷ []) 11
    -- a parked train opened, which has no signal to open: on the way, and at home
    ∷ script yard_a 9 ("plan\t2\n" gets 0 ∷ "2\t1\t1\t12\t-\n" gets 0 ∷ "3\t1\t0\t0\t-\n" gets 0 ∷ "2\t3\t2\t0\t+\n" gets 0 ∷ []) 11
    ∷ script yard_a 9 ("plan\t2\n" gets 0 ∷ "2\t1\t1\t1\t-\n" gets 0 ∷ "3\t1\t0\t2\t+\n" gets 0 ∷ "2\t3\t2\t0\t+\n" gets 0 ∷ []) 11
    -- at home, a train opened that has no signal
    ∷ script yard_a 9 ("plan\t2\n" gets 0 ∷ "2\t1\t1\t1\t-\n" gets 0 ∷ "3\t1\t0\t1\t-\n" gets 0 ∷ "2\t3\t2\t0\t+\n" gets 0 ∷ []) 11
    -- two trains on a section, in a placement whose only move ends at home; the same plan without it
    ∷ script both_home 4 ("plan\t0\n" gets 0 ∷ "1\t1\t1\t1\t.\n" gets 0 ∷ "2\t1\t0\t0\t.\n" gets 0 ∷ []) 11
    ∷ script both_home 4 ("plan\t0\n" gets 0 ∷ "2\t1\t0\t0\t.\n" gets 0 ∷ []) 0
    -- a plan that passes, and fails where the section between is closed, though the placement there is listed; from there on it passes
    ∷ script in_line 3 ("plan\t2\n" gets 0 ∷ "1\t2\t0\t.\n" gets 0 ∷ "2\t1\t0\t.\n" gets 0 ∷ "3\t0\t0\t.\n" gets 0 ∷ []) 0
    ∷ script closed_between 3 ("plan\t2\n" gets 0 ∷ "1\t2\t0\t.\n" gets 0 ∷ "2\t1\t0\t.\n" gets 0 ∷ "3\t0\t0\t.\n" gets 0 ∷ []) 11
    ∷ script starts_behind 3 ("plan\t0\n" gets 0 ∷ "2\t1\t0\t.\n" gets 0 ∷ "3\t0\t0\t.\n" gets 0 ∷ []) 0
    -- Yard A with weights, 5 and 2: figures smaller by just the weight of the move; by one less in the first turn, and in the second, though every figure is smaller
    ∷ script weighed 9 ("plan\t7\n" gets 0 ∷ "2\t1\t5\t1\t-\n" gets 0 ∷ "3\t1\t0\t0\t-\n" gets 0 ∷ "2\t3\t7\t0\t+\n" gets 0 ∷ []) 0
    ∷ script weighed 9 ("plan\t6\n" gets 0 ∷ "2\t1\t5\t1\t-\n" gets 0 ∷ "3\t1\t0\t0\t-\n" gets 0 ∷ "2\t3\t6\t0\t+\n" gets 0 ∷ []) 11
    ∷ script weighed 9 ("plan\t7\n" gets 0 ∷ "2\t1\t4\t1\t-\n" gets 0 ∷ "3\t1\t0\t0\t-\n" gets 0 ∷ "2\t3\t7\t0\t+\n" gets 0 ∷ []) 11
    -- the largest figures, smaller by just the weight; by one less; and a figure at home that with the weight would come round to 3 in 32 bits
    ∷ script weighed 9 ("plan\t4294967294\n" gets 0 ∷ "2\t1\t4294967292\t1\t-\n" gets 0 ∷ "3\t1\t4294967287\t0\t-\n" gets 0 ∷ "2\t3\t4294967294\t0\t+\n" gets 0 ∷ []) 0
    ∷ script weighed 9 ("plan\t4294967294\n" gets 0 ∷ "2\t1\t4294967293\t1\t-\n" gets 0 ∷ "3\t1\t4294967288\t0\t-\n" gets 0 ∷ "2\t3\t4294967294\t0\t+\n" gets 0 ∷ []) 11
    ∷ script weighed 9 ("plan\t5\n" gets 0 ∷ "2\t1\t3\t1\t-\n" gets 0 ∷ "3\t1\t4294967294\t0\t-\n" gets 0 ∷ "2\t3\t5\t0\t+\n" gets 0 ∷ []) 11
    -- Yard A's own plan, in which turns are counted
    ∷ script weighed 9 ("plan\t2\n" gets 0 ∷ "2\t1\t1\t1\t-\n" gets 0 ∷ "3\t1\t0\t0\t-\n" gets 0 ∷ "2\t3\t2\t0\t+\n" gets 0 ∷ []) 11
    -- one section: no points, and a point too many
    ∷ script yard_one 1 ("plan\t0\n" gets 0 ∷ "1\t0\t0\t-\n" gets 10 ∷ "1\t0\t0\t.\n" gets 0 ∷ []) 0
    -- the largest figure
    ∷ script yard_one 1 ("plan\t4294967294\n" gets 0 ∷ "1\t4294967294\t0\t.\n" gets 0 ∷ []) 0
    -- three points: train 1 goes to 2 by point 1 and on to 4 by point 2, train 2
    -- then to 3 by point 3; the same with the start's signs the other way round
    ∷ script ladder 49 ("plan\t3\n" gets 0 ∷ "4\t3\t0\t0\t---\n" gets 0 ∷ "1\t7\t3\t1\t+-+\n" gets 0 ∷ "2\t7\t2\t0\t-++\n" gets 0 ∷ "4\t7\t1\t2\t++-\n" gets 0 ∷ []) 0
    ∷ script ladder 49 ("plan\t3\n" gets 0 ∷ "4\t3\t0\t0\t---\n" gets 0 ∷ "1\t7\t3\t1\t-++\n" gets 0 ∷ "2\t7\t2\t0\t-++\n" gets 0 ∷ "4\t7\t1\t2\t++-\n" gets 0 ∷ []) 11
    -- a sign too few and too many; two open trains, which fall and which rise
    ∷ script ladder 49 ("plan\t3\n" gets 0 ∷ "1\t7\t3\t12\t+-\n" gets 10 ∷ "1\t7\t3\t12\t+--+\n" gets 10 ∷ "1\t7\t3\t21\t+--\n" gets 10 ∷ "1\t7\t3\t12\t+--\n" gets 0 ∷ []) 11
    -- no line; tables too short; a record that is refused, whatever the tables and the text
    ∷ script yard_a 9 [] 10
    ∷ script yard_a 8 ("plan\t2\n" gets 9 ∷ "plan" gets 9 ∷ []) 9
    ∷ script wrong_join 0 ("plan\t2\n" gets 5 ∷ "plan" gets 5 ∷ []) 5
    ∷ []

as_said : all holds scripts ≡ true
unfolding all numbers bytes call_lines take_line test_plan case_refusal tables_short first weight_row weight_of unknown_row
    join_row loose_row chain_row longer place_row end_at joined_by joined has_signal legs_of train_of with_join with_signal
    with_legs with_train all_below any_below sum_below which_below list_below lowest from_bits any read_line guess fields value_of
    same_text spell line digits fits entry_from code_of test_holds placement_passes listed_setting keeps_test sections_in
    stands_on start_code at_home shared heads_for may_move free held signal_open passes follow occupied move_of
    entered is_closed with_closed
as_said = refl

-- THE EMITTER in Yard A, with its tables: the first line, the last line with bytes past it, a buffer that is too short, the end, a place past
-- the last code, no plan where the start has no figure, tables too short, and a record that is refused before anything else.
abbrev emit : PlanPlace → List ℕ → Wrote
emit place buffer = emit_line yard_a figs_a sets_a place buffer

emitted :
    (emit Top (replicate 45 7) ≡ record { answer = Line 7 (From 0); buffer = bytes "plan\t2\n" ++ replicate 38 7 })
    × (emit (From 3) (replicate 12 7) ≡ record { answer = Line 10 (From 8); buffer = bytes "2\t3\t2\t0\t+\n" ++ replicate 2 7 })
    × (emit (From 3) (replicate 9 7) ≡ leaves (Refused Space) (replicate 9 7))
    × (emit (From 8) [] ≡ leaves End [])
    × (emit (From 4000000000) [] ≡ leaves End [])
    × (emit_line yard_a (replicate 9 4294967295) sets_a Top [] ≡ leaves NoPlan [])
    × (emit_line yard_a (replicate 8 4294967295) sets_a Top [] ≡ leaves (Refused Space) [])
    × (number_given (emit_line wrong_join [] [] Top []).answer ≡ some 5)
unfolding bytes emit_line case_refusal tables_short first weight_row weight_of unknown_row join_row loose_row chain_row longer
    place_row end_at joined_by joined has_signal legs_of train_of with_join with_signal with_legs with_train any_below sum_below
    which_below list_below lowest line_for spell line digits code_of sections_in start_code is_closed
emitted = (refl, refl, refl, refl, refl, refl, refl, refl)

-- THE ORDER OF SEVERAL POINTS, point 1 first and in bit 0, and of two open
-- trains: a line of the ladder's start spelled, read, entered and emitted again.
abbrev start_ladder : PlacementLine
start_ladder = record { sections = 0 ∷ 6 ∷ []; figure = 3; opens = true ∷ true ∷ []; plus = true ∷ false ∷ false ∷ [] }

abbrev figs_ladder : List ℕ
figs_ladder = set (replicate 49 4294967295) 42 3

several-points :
    (spell (placement_line start_ladder) ≡ bytes "1\t7\t3\t12\t+--\n")
    × (read_line ladder (bytes "1\t7\t3\t12\t+--\n") ≡ some (placement_line start_ladder))
    × (line_entry ladder start_ladder ≡ 196609)
    × (line_for ladder figs_ladder (set (replicate 49 0) 42 196609) 42 ≡ start_ladder)
    × (emit_line ladder figs_ladder (set (replicate 49 0) 42 65540) (From 0) (replicate 12 7) ≡ record { answer = Line 12 (From 43); buffer = bytes "1\t7\t3\t1\t--+\n" })
unfolding bytes emit_line case_refusal tables_short first weight_row weight_of unknown_row join_row loose_row chain_row longer
    place_row end_at joined_by joined has_signal legs_of train_of with_join with_signal with_legs with_train any_below sum_below
    which_below list_below lowest from_bits any all read_line guess fields value_of same_text fits line_for spell line digits
    code_of sections_in start_code entry_from is_closed
several-points = (refl, refl, refl, refl, refl)
