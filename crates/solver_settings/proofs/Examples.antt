-- First settings by computation, one table with one statement: no signal open where some train is free, else the lowest train's; a point at
-- minus unless it is needed at plus; trains that meet one point agree on it, also where each by itself would have it otherwise; nothing where no setting
-- works, and at a lost placement. Assumes nothing.
use mathlib.Core.Path.{◌≡◌, refl}
use mathlib.Core.List.{List, [], ◌∷◌, map}
use mathlib.Core.Option.{Option, none, some}
use Prim.Native.Nat.{ℕ}
use Rattle.railway.specs.declared.Side.TheVariants.{Up, Down}
use Rattle.railway.specs.declared.Leg.TheVariants.{Stem, Plus, Minus}
use Rattle.railway.specs.declared.Railway.{Railway}
use Rattle.railway.specs.Yards.{yard_h, line_p, line_j, line_g, line_t, line_tw, sec, port, yard_aless, yard_a, up_two_one}
use Rattle.laws.specs.Below.{all_below, any_below, sum_below, lowest}
use Rattle.laws.specs.Bits.{from_bits}
use Rattle.railway.specs.Ends.{end_at}
use Rattle.railway.specs.Record.{is_closed, joined_by, joined, has_signal, train_of, weight_of, with_join, with_signal, with_legs, with_train}
use Rattle.railway.specs.Passing.{entered, passes, follow}
use Rattle.game.specs.Local.{keeps_test}
use Rattle.game.specs.Placement.{code_of, sections_in, stands_on, shared}
use Rattle.game.specs.Setting.{heads_for, held, may_move, free, signal_open}
use Rattle.game.specs.Moves.{occupied, move_of}
use Rattle.game_tables.specs.Entries.{setting_at, entry_from}
use Rattle.game_tables.specs.Find.{try_open, first_found, find}
use Rattle.game_tables.specs.Tables.{no_figure, figure_in}
use Rattle.game_tables.proofs.Examples.{loop_yard, figs_loop}
use Rattle.solver_settings.specs.Answers.{first_keeping}

-- Yard A's point for k trains.
abbrev fork : ℕ → Railway
fork k = line_j (sec 3 Down) (port 1 Stem) (line_j (sec 2 Up) (port 1 Minus) (line_j (sec 1 Up) (port 1 Plus) (line_p 1 Down (yard_h 3 1 k))))

-- Two trains towards its legs, both free; the second held; the first held; both held. And one train towards the stem.
abbrev both_free : Railway
both_free = line_t 2 Up 2 1 (line_t 1 Up 1 3 (fork 2))

abbrev second_held : Railway
second_held = line_g (sec 2 Up) both_free

abbrev first_held : Railway
first_held = line_g (sec 1 Up) both_free

abbrev both_held : Railway
both_held = line_g (sec 1 Up) second_held

abbrev to_stem : Railway
to_stem = line_t 1 Down 3 1 (fork 1)

-- Yard A with weights: 5 for train 1, 2 for train 2.
abbrev weighed : Railway
weighed = line_tw 2 Down 3 1 2 (line_tw 1 Up 2 3 5 yard_a)

-- A question: a yard, its figures by code, the placement's code and the figure; and the entry that is first.
pub record First : Type 0 where
  pub yard : Railway
  pub figures : List ℕ
  pub code : ℕ
  pub figure : ℕ
  pub entry : Option ℕ

abbrev first : Railway → List ℕ → ℕ → ℕ → Option ℕ → First
first r fs p n e = record { yard = r; figures = fs; code = p; figure = n; entry = e }

-- Figures: Yard A's before its start has one; all zero; zero but at one code.
abbrev of_a : List ℕ
of_a = no_figure ∷ 1 ∷ 0 ∷ no_figure ∷ no_figure ∷ no_figure ∷ no_figure ∷ no_figure ∷ no_figure ∷ []

-- Those of the yard with weights before its start has one.
abbrev of_weighed : List ℕ
of_weighed = no_figure ∷ 5 ∷ 0 ∷ no_figure ∷ no_figure ∷ no_figure ∷ no_figure ∷ no_figure ∷ no_figure ∷ []

abbrev zeros : List ℕ
zeros = 0 ∷ 0 ∷ 0 ∷ 0 ∷ 0 ∷ 0 ∷ 0 ∷ 0 ∷ 0 ∷ []

abbrev not_five : List ℕ
not_five = 0 ∷ 0 ∷ 0 ∷ 0 ∷ 0 ∷ no_figure ∷ 0 ∷ 0 ∷ 0 ∷ []

abbrev not_one : List ℕ
not_one = 0 ∷ no_figure ∷ 0 ∷ []

-- Codes count from 0: (2,3) is 7, (2,1) is 1, (1,3) is 6, (1,2) is 3 and (1,1) is 0 with three sections. Bit 0 is point 1 at plus, bits 16
-- and 17 are the trains' signals. The last six are of a yard whose points are joined to each other (`game_tables/proofs/Examples`). At its start, (1,4), train 1 by
-- itself would have points 1 and 2 at plus and train 2 none; with those of train 1 train 2 derails, and together they have all three at plus.
abbrev pub firsts : List First
firsts =
    first yard_a of_a 7 2 (some 1)
    ∷ first yard_a of_a 7 1 none
    ∷ first yard_a of_a 1 1 (some 65536)
    ∷ first yard_aless of_a 1 1 (some 65536)
    ∷ first yard_a zeros 6 1 none
    ∷ first yard_a zeros 0 1 none
    ∷ first both_free zeros 3 1 none
    ∷ first second_held zeros 3 1 (some 1)
    ∷ first first_held zeros 3 1 (some 0)
    ∷ first both_held zeros 3 1 (some 65537)
    ∷ first both_held not_five 3 1 (some 131072)
    ∷ first both_held zeros 3 0 none
    ∷ first to_stem zeros 2 1 (some 0)
    ∷ first to_stem not_one 2 1 (some 1)
    ∷ first up_two_one zeros 1 1 none
    ∷ first weighed of_weighed 7 7 (some 1)
    ∷ first weighed of_weighed 7 6 none
    ∷ first weighed of_weighed 1 5 (some 65536)
    ∷ first weighed of_weighed 1 4 none
    ∷ first loop_yard figs_loop 12 3 (some 7)
    ∷ first loop_yard figs_loop 12 2 none
    ∷ first loop_yard figs_loop 13 3 (some 6)
    ∷ first loop_yard figs_loop 8 2 (some 1)
    ∷ first loop_yard figs_loop 6 1 (some 65540)
    ∷ first loop_yard figs_loop 11 1 (some 131074)
    ∷ []

abbrev given : First → Option ℕ
given x = first_keeping x.yard (figure_in x.figures) x.code x.figure

pub firsts-hold : map given firsts ≡ map (λ x. x.entry) firsts
unfolding first_keeping find try_open first_found keeps_test setting_at entry_from from_bits lowest move_of passes follow occupied may_move free
    held signal_open heads_for stands_on sections_in code_of sum_below train_of weight_of end_at joined_by joined has_signal
    all_below any_below shared with_join with_signal with_legs with_train entered is_closed
firsts-hold = refl
