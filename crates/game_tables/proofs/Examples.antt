-- Small values of the definitions, by computation: which refusal comes first, the bits of an entry, also of several points, figures past
-- the end of a table, the plan's order key by key, what the search finds where trains can get into each other's way, and where they have weights.
-- Assumes nothing.
use mathlib.Core.Path.{◌≡◌, refl}
use mathlib.Core.Bool.{Bool, true, false}
use mathlib.Core.List.{List, [], ◌∷◌}
use mathlib.Core.Option.{Option, none, some}
use Prim.Native.Nat.{ℕ}
use lib.Dec.{eqb}
use lib.ListN.{replicate}
use Rattle.laws.specs.Below.{all_below, any_below, sum_below, count_below, list_below, lowest}
use Rattle.laws.specs.Bits.{bit, from_bits}
use Rattle.railway.specs.declared.Side.TheVariants.{Up, Down}
use Rattle.railway.specs.declared.Leg.TheVariants.{Stem, Plus, Minus}
use Rattle.railway.specs.declared.Railway.{Railway}
use Rattle.railway.specs.declared.Refusal.TheVariants.{Space}
use Rattle.railway.specs.Ends.{end_at}
use Rattle.railway.specs.Refusals.{first, number_of}
use Rattle.railway.specs.Record.{is_closed, joined_by, joined, has_signal, legs_of, train_of, weight_of, with_join, with_signal, with_legs, with_train}
use Rattle.railway.specs.Passing.{follow, passes, entered}
use Rattle.railway.specs.Rows.{weight_row, unknown_row, join_row, loose_row, longer, chain_row, place_row}
use Rattle.game.specs.Game.{Outcome, lost, derailment, at as reaches}
use Rattle.game.specs.Local.{keeps_test}
use Rattle.game.specs.Placement.{code_of, sections_in, stands_on}
use Rattle.game.specs.Setting.{Setting, heads_for, held, free, signal_open, may_move}
use Rattle.game.specs.Moves.{occupied, move_of}
use Rattle.railway.specs.Yards.{yard_h, line_p, line_j, line_g, line_t, line_tw, sec, port, yard_a, head_on}
use Rattle.game_tables.specs.SolverAnswer.{Refused, Unsolvable, Figure}
use Rattle.game_tables.specs.Entries.{setting_at, entry_from, entry_of}
use Rattle.game_tables.specs.Tables.{no_figure, figure_in, tables_short, case_refusal, open_signals, lowest_open, point_bits, no_later}
use Rattle.game_tables.specs.Find.{entry_keeps, ends_good, is_good, try_open, first_found, find}
use Rattle.game_tables.specs.Solver.{number_given, figure_given}
use Rattle.game_tables.specs.Rounds.{up_to}

-- REFUSALS. 1u joined with 2u: row 5 applies.
abbrev wrong_join : Railway
wrong_join = line_t 1 Up 1 2 (line_j (sec 1 Up) (sec 2 Up) (yard_h 2 0 1))

-- the number for a record with tables of so many entries
abbrev given : Railway → ℕ → ℕ → Option ℕ
given r m n = number_of (case_refusal r (replicate m 0) (replicate n 0))

refusals :
    (given yard_a 9 9 ≡ none)
    × (given yard_a 8 9 ≡ some 9)
    × (given yard_a 9 8 ≡ some 9)
    × (given yard_a 10 12 ≡ none)
    × (given wrong_join 2 2 ≡ some 5)
    × (given wrong_join 0 0 ≡ some 5)
    × (number_given (Refused Space) ≡ some 9)
    × (number_given Unsolvable ≡ none)
    × (figure_given (Figure 2) ≡ some 2)
    × (figure_given Unsolvable ≡ none)
unfolding case_refusal tables_short first weight_row weight_of unknown_row join_row loose_row chain_row longer place_row end_at
    joined_by joined has_signal legs_of train_of with_join with_signal with_legs with_train any_below is_closed
refusals = (refl, refl, refl, refl, refl, refl, refl, refl, refl, refl)

-- ENTRIES AND FIGURES. In Yard A's placement of code 1 train 1 is held and train 2 parked, in that of code 7 train 2 is free; head on, in
-- that of code 2, both are held.
abbrev at : ℕ → ℕ → Setting
at p v = setting_at yard_a p v

-- every signal open, at minus
abbrev all_open : Setting
all_open = record { plus = λ n. false; is_open = λ i. true }

-- the signal at 1d open alone
abbrev first_open : Setting
first_open = record { plus = λ n. false; is_open = λ i. eqb i 0 }

entries :
    (entry_from yard_a (λ n. true) (eqb 1) ≡ 131073)
    × (entry_of yard_a 1 (at 1 65536) ≡ 65536)
    × (entry_of yard_a 1 (at 1 131073) ≡ 1)
    × (entry_of head_on 2 (setting_at head_on 2 131072) ≡ 131072)
    × (entry_of yard_a 1 all_open ≡ 65536)
    × (entry_of head_on 2 all_open ≡ 196608)
    × (entry_of yard_a 7 first_open ≡ 0)
    × (open_signals yard_a all_open ≡ 2)
    × (open_signals yard_a first_open ≡ 1)
    × (open_signals yard_a (at 1 1) ≡ 0)
    × (lowest_open yard_a 1 all_open ≡ 0)
    × (lowest_open yard_a 1 first_open ≡ 2)
    × (lowest_open yard_a 7 first_open ≡ 2)
    × (figure_in (0 ∷ []) 0 ≡ some 0)
    × (figure_in (0 ∷ []) 1 ≡ none)
    × (figure_in (4294967295 ∷ []) 0 ≡ none)
    × (up_to 2 (some 3) ≡ none)
    × (up_to 3 (some 3) ≡ some 3)
unfolding setting_at entry_from open_signals lowest_open signal_open held has_signal heads_for stands_on sections_in train_of with_join with_signal with_legs with_train any_below count_below lowest from_bits
entries = (refl, refl, refl, refl, refl, refl, refl, refl, refl, refl, refl, refl, refl, refl, refl, refl, refl, refl)

-- THE PLAN'S ORDER in the placement of code 1: fewer signals before all else, the lowest train before point bits, then the smallest of these
abbrev before : ℕ → ℕ → Bool
before v w = no_later yard_a 1 (at 1 v) (at 1 w)

order :
    (before 1 65536 ≡ true)
    × (before 65536 1 ≡ false)
    × (before 131073 196608 ≡ true)
    × (before 196608 131073 ≡ false)
    × (before 65537 131072 ≡ true)
    × (before 131072 65537 ≡ false)
    × (before 65536 65537 ≡ true)
    × (before 65537 65536 ≡ false)
    × (before 65536 65536 ≡ true)
unfolding no_later setting_at entry_from open_signals lowest_open signal_open held has_signal heads_for stands_on sections_in train_of with_join with_signal with_legs with_train any_below count_below lowest from_bits
order = (refl, refl, refl, refl, refl, refl, refl, refl, refl)

-- SEVERAL POINTS. A ladder of three, all with their legs up: section 1 leads to point 1, whose legs are followed by 2 and 3; section 2
-- leads to point 2 with 4 and 5 behind it, section 3 to point 3 with 6 and 7. Train 1 heads up from 1 to 4 and train 2 down from 7 to 3,
-- with signals at 1u, 4u and 7d; the start has code 42.
abbrev pub ladder : Railway
ladder =
    line_t 2 Down 7 3
    (line_t 1 Up 1 4
    (line_g (sec 7 Down)
    (line_g (sec 4 Up)
    (line_g (sec 1 Up)
    (line_j (sec 7 Down) (port 3 Minus)
    (line_j (sec 6 Down) (port 3 Plus)
    (line_j (sec 5 Down) (port 2 Minus)
    (line_j (sec 4 Down) (port 2 Plus)
    (line_j (sec 3 Down) (port 1 Minus)
    (line_j (sec 3 Up) (port 3 Stem)
    (line_j (sec 2 Down) (port 1 Plus)
    (line_j (sec 2 Up) (port 2 Stem)
    (line_j (sec 1 Up) (port 1 Stem)
    (line_p 3 Up (line_p 2 Up (line_p 1 Up (yard_h 7 3 2)))))))))))))))))

-- the points at plus, point 1 first, and the open trains that an entry has at the start
abbrev plus_in : ℕ → List Bool
plus_in v = list_below (setting_at ladder 42 v).plus 3

abbrev open_in : ℕ → List Bool
open_in v = list_below (signal_open ladder 42 (setting_at ladder 42 v)) 2

-- what moving train t at the start ends in
abbrev moved : ℕ → ℕ → Outcome
moved v t = move_of ladder 42 (setting_at ladder 42 v) t

several-points :
    (given ladder 49 49 ≡ none)
    × (plus_in 1 ≡ true ∷ false ∷ false ∷ [])
    × (plus_in 4 ≡ false ∷ false ∷ true ∷ [])
    × (plus_in 196611 ≡ true ∷ true ∷ false ∷ [])
    × (open_in 65540 ≡ true ∷ false ∷ [])
    × (open_in 131073 ≡ false ∷ true ∷ [])
    × (entry_from ladder (eqb 0) (λ t. false) ≡ 1)
    × (entry_from ladder (eqb 2) (eqb 0) ≡ 65540)
    × (entry_from ladder (λ n. true) (eqb 1) ≡ 131079)
    × (entry_of ladder 42 (setting_at ladder 42 196611) ≡ 196611)
    × (point_bits ladder (setting_at ladder 42 6) ≡ 6)
    -- point 1 sends train 1 on to section 2 or 3; point 3 lets train 2 through at minus
    × (moved 1 0 ≡ reaches 43)
    × (moved 6 0 ≡ reaches 44)
    × (moved 3 1 ≡ reaches 14)
    × (moved 4 1 ≡ lost derailment)
unfolding setting_at entry_from signal_open held heads_for stands_on sections_in code_of move_of passes follow occupied entered
    is_closed case_refusal tables_short first weight_row weight_of unknown_row join_row loose_row chain_row longer place_row end_at
    joined_by joined has_signal legs_of train_of with_join with_signal with_legs with_train any_below sum_below list_below from_bits
several-points = (refl, refl, refl, refl, refl, refl, refl, refl, refl, refl, refl, refl, refl, refl, refl)

abbrev N : ℕ
N = no_figure

-- POINTS JOINED TO POINTS. A single line with a loop: sections 1 and 2 lead to point 1, which is joined to point 2; from there the line goes to
-- point 3 and on to section 4, and the loop by section 3. Train 1 is to go up from 1 to 4 and train 2 down from 4 to 2; signals at both ends of 3 hold
-- whoever is there. The start has code 12. LoopYard has the proof that these are its tables.
abbrev pub loop_yard : Railway
loop_yard =
    line_t 2 Down 4 2
    (line_t 1 Up 1 4
    (line_g (sec 3 Up)
    (line_g (sec 3 Down)
    (line_j (port 2 Minus) (port 3 Minus)
    (line_j (port 1 Stem) (port 2 Stem)
    (line_j (sec 4 Down) (port 3 Stem)
    (line_j (sec 3 Up) (port 3 Plus)
    (line_j (sec 3 Down) (port 2 Plus)
    (line_j (sec 2 Up) (port 1 Minus)
    (line_j (sec 1 Up) (port 1 Plus)
    (line_p 3 Down (line_p 2 Up (line_p 1 Down (yard_h 4 3 2))))))))))))))

abbrev pub figs_loop : List ℕ
figs_loop = N ∷ N ∷ N ∷ N ∷ 1 ∷ N ∷ 1 ∷ 0 ∷ 2 ∷ 2 ∷ N ∷ 1 ∷ 3 ∷ 3 ∷ 2 ∷ N ∷ []

abbrev pub sets_loop : List ℕ
sets_loop = 0 ∷ 0 ∷ 0 ∷ 0 ∷ 1 ∷ 0 ∷ 65540 ∷ 0 ∷ 1 ∷ 0 ∷ 0 ∷ 131074 ∷ 7 ∷ 6 ∷ 0 ∷ 0 ∷ []

-- the smallest point bits that are good for train t at the start, whatever the other train does
abbrev alone : ℕ → Option ℕ
alone t = lowest (λ b. is_good (ends_good loop_yard (figure_in figs_loop) 12 3 t) (entered loop_yard (bit b) (heads_for loop_yard 12 t))) 8

together :
    (given loop_yard 16 16 ≡ none)
    -- alone, train 1 wants points 1 and 2 at plus, for the loop, and train 2 none, for section 2; but with points 1 and 2 at plus train 2 derails
    × (alone 0 ≡ some 3)
    × (alone 1 ≡ some 0)
    × (entry_keeps loop_yard (figure_in figs_loop) 12 3 3 ≡ false)
    -- together, they want point 3 at plus too: then train 2 goes into the loop
    × (find loop_yard (figure_in figs_loop) 12 3 ≡ some 7)
    × (find loop_yard (figure_in figs_loop) 12 2 ≡ none)
unfolding find first_found try_open keeps_test setting_at entry_from may_move free held signal_open heads_for stands_on
    sections_in code_of move_of passes follow occupied entered is_closed case_refusal tables_short first weight_row weight_of
    unknown_row join_row loose_row chain_row longer place_row end_at joined_by joined has_signal legs_of train_of with_join
    with_signal with_legs with_train all_below any_below sum_below lowest from_bits
together = (refl, refl, refl, refl, refl, refl)

-- WEIGHTS. Yard A with 5 for train 1 and 2 for train 2: the figures are 0, 5 and 7, and the settings are those of Yard A. WeighedYards has the proof that these are
-- its tables.
abbrev pub weighed : Railway
weighed = line_tw 2 Down 3 1 2 (line_tw 1 Up 2 3 5 yard_a)

abbrev pub figs_w : List ℕ
figs_w = N ∷ 5 ∷ 0 ∷ N ∷ N ∷ N ∷ N ∷ 7 ∷ N ∷ []

abbrev pub sets_w : List ℕ
sets_w = 0 ∷ 65536 ∷ 0 ∷ 0 ∷ 0 ∷ 0 ∷ 0 ∷ 1 ∷ 0 ∷ []

weights :
    -- from (2, 3) train 2 comes to 5 in section 1, and 2 more make 7; from (2, 1) train 1 comes to 0 in section 3, and 5 more make 5
    (ends_good weighed (figure_in figs_w) 7 7 1 0 ≡ true)
    × (ends_good weighed (figure_in figs_w) 7 6 1 0 ≡ false)
    × (ends_good weighed (figure_in figs_w) 1 5 0 2 ≡ true)
    × (ends_good weighed (figure_in figs_w) 1 4 0 2 ≡ false)
    -- and so a setting is found, and is not
    × (find weighed (figure_in figs_w) 7 7 ≡ some 1)
    × (find weighed (figure_in figs_w) 7 6 ≡ none)
    × (find weighed (figure_in figs_w) 1 5 ≡ some 65536)
    × (find weighed (figure_in figs_w) 1 4 ≡ none)
unfolding find first_found try_open keeps_test setting_at entry_from may_move free held signal_open heads_for stands_on
    sections_in code_of move_of passes follow occupied entered is_closed weight_of end_at joined_by joined has_signal legs_of
    train_of with_join with_signal with_legs with_train all_below any_below sum_below lowest from_bits
weights = (refl, refl, refl, refl, refl, refl, refl, refl)
