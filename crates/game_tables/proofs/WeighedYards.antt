-- Weights in tables (document 02, Q-12): the tables of two yards, written out, pass the test of Certify by computation. In Yard A with weights, which Examples has, figures are
-- totals, and the plan's settings those without. In the other yard a short dear way stands against a long cheap one: with weights the plan takes the long one. Assumes nothing.
use mathlib.Core.Path.{◌≡◌, refl}
use mathlib.Core.Bool.{true}
use mathlib.Core.List.{List, [], ◌∷◌}
use mathlib.Core.Option.{none, some}
use Prim.Native.Nat.{ℕ}
use native.Mathlib.Omega.{arith}
use Rattle.laws.specs.Below.{all_below, any_below, sum_below, list_below, lowest}
use Rattle.laws.specs.Bits.{from_bits}
use Rattle.railway.specs.declared.Side.TheVariants.{Up, Down}
use Rattle.railway.specs.declared.Leg.TheVariants.{Stem, Plus, Minus}
use Rattle.railway.specs.declared.Railway.{Railway}
use Rattle.railway.specs.Ends.{end_at}
use Rattle.railway.specs.Refusals.{first}
use Rattle.railway.specs.Record.{is_closed, joined_by, joined, has_signal, legs_of, train_of, weight_of, with_join, with_signal, with_legs, with_train}
use Rattle.railway.specs.Passing.{follow, passes, entered}
use Rattle.railway.specs.Rows.{weight_row, unknown_row, join_row, loose_row, longer, chain_row, place_row, record_refusal}
use Rattle.railway.specs.Yards.{yard_h, line_p, line_j, line_g, line_tw, sec, port}
use Rattle.game.specs.Game.{IsFigure}
use Rattle.game.specs.Local.{keeps_test}
use Rattle.game.specs.Placement.{code_of, sections_in, stands_on, start_code, at_home, shared}
use Rattle.game.specs.Setting.{heads_for, held, free, signal_open, may_move}
use Rattle.game.specs.Moves.{occupied, move_of, game_of}
use Rattle.game_tables.specs.Entries.{setting_at, entry_from}
use Rattle.game_tables.specs.Tables.{no_figure, figure_in, Planned, Filled}
use Rattle.game_tables.specs.Find.{try_open, first_found, find}
use Rattle.game_tables.proofs.Examples.{weighed, figs_w, sets_w}
use Rattle.game_tables.proofs.Certify.{certified, certify}

abbrev N : ℕ
N = no_figure

-- A SINGLE LINE between sections 1 and 3, with two sidings on the way: section 2 from 1 on, and sections 4 and 5 behind it. Train 1, of weight w, is to go up from 1
-- to 3, train 2 down from 3 to 1; train 1 can be held in 2, and train 2 in 5. The start has code 10.
abbrev pub sidings : ℕ → Railway
sidings w =
    line_tw 2 Down 3 1 1
    (line_tw 1 Up 1 3 w
    (line_g (sec 5 Down)
    (line_g (sec 2 Up)
    (line_g (sec 3 Down)
    (line_g (sec 1 Up)
    (line_j (sec 3 Down) (port 4 Stem)
    (line_j (sec 5 Up) (port 4 Plus)
    (line_j (sec 4 Up) (sec 5 Down)
    (line_j (sec 4 Down) (port 3 Plus)
    (line_j (port 3 Minus) (port 4 Minus)
    (line_j (port 2 Stem) (port 3 Stem)
    (line_j (sec 2 Up) (port 2 Plus)
    (line_j (sec 2 Down) (port 1 Plus)
    (line_j (port 1 Minus) (port 2 Minus)
    (line_j (sec 1 Up) (port 1 Stem)
    (line_p 4 Down (line_p 3 Up (line_p 2 Down (line_p 1 Up (yard_h 5 4 2))))))))))))))))))))

-- With weight 5 train 1 goes by the straight line, 5, while train 2 waits in the long siding, 3.
abbrev pub figs_dear : List ℕ
figs_dear = N ∷ 5 ∷ 0 ∷ 10 ∷ 5 ∷ N ∷ N ∷ 1 ∷ 11 ∷ 6 ∷ 8 ∷ 6 ∷ N ∷ N ∷ N ∷ N ∷ 6 ∷ 1 ∷ N ∷ 6 ∷ 7 ∷ 7 ∷ 2 ∷ N ∷ N ∷ []

abbrev pub sets_dear : List ℕ
sets_dear = 0 ∷ 65538 ∷ 0 ∷ 0 ∷ 8 ∷ 0 ∷ 0 ∷ 1 ∷ 1 ∷ 9 ∷ 131080 ∷ 131072 ∷ 0 ∷ 0 ∷ 0 ∷ 0 ∷ 4 ∷ 4 ∷ 0 ∷ 12 ∷ 65536 ∷ 65538 ∷ 131072 ∷ 0 ∷ 0 ∷ []

-- With weight 1 it waits in the short one, 2, while train 2 goes by the straight line, 1.
abbrev pub figs_even : List ℕ
figs_even = N ∷ 1 ∷ 0 ∷ 2 ∷ 1 ∷ N ∷ N ∷ 1 ∷ 3 ∷ 2 ∷ 3 ∷ 2 ∷ N ∷ N ∷ N ∷ N ∷ 2 ∷ 1 ∷ N ∷ 2 ∷ 3 ∷ 3 ∷ 2 ∷ N ∷ N ∷ []

abbrev pub sets_even : List ℕ
sets_even = 0 ∷ 65538 ∷ 0 ∷ 0 ∷ 8 ∷ 0 ∷ 0 ∷ 1 ∷ 1 ∷ 9 ∷ 65537 ∷ 131072 ∷ 0 ∷ 0 ∷ 0 ∷ 0 ∷ 4 ∷ 4 ∷ 0 ∷ 12 ∷ 65536 ∷ 65538 ∷ 131072 ∷ 0 ∷ 0 ∷ []

computed :
    (record_refusal weighed ≡ none) × (certified weighed figs_w sets_w ≡ true)
    × (record_refusal (sidings 5) ≡ none) × (certified (sidings 5) figs_dear sets_dear ≡ true) × (start_code (sidings 5) ≡ 10)
    × (record_refusal (sidings 1) ≡ none) × (certified (sidings 1) figs_even sets_even ≡ true)
unfolding certified find first_found try_open keeps_test setting_at entry_from may_move free held signal_open heads_for stands_on
    sections_in start_code code_of at_home shared move_of passes follow occupied entered is_closed record_refusal first
    weight_row weight_of unknown_row join_row loose_row chain_row longer place_row end_at joined_by joined has_signal legs_of
    train_of with_join with_signal with_legs with_train all_below any_below sum_below list_below lowest from_bits
computed = (refl, refl, refl, refl, refl, refl, refl)

-- These are the tables.
pub weighed-accepted : record_refusal weighed ≡ none
weighed-accepted = computed.0

pub weighed-filled : Filled weighed figs_w sets_w
weighed-filled = certify weighed weighed-accepted figs_w sets_w computed.1

dear-filled : Filled (sidings 5) figs_dear sets_dear
dear-filled = certify (sidings 5) computed.2 figs_dear sets_dear computed.3

even-filled : Filled (sidings 1) figs_even sets_even
even-filled = certify (sidings 1) computed.5 figs_even sets_even computed.6

-- So the figures of the weighed Yard A at (2, 3), (2, 1) and (3, 1) are 7, 5 and 0, and (1, 3) has none,
weighed-figures : IsFigure (game_of weighed) 7 (some 7) × IsFigure (game_of weighed) 1 (some 5) × IsFigure (game_of weighed) 2 (some 0) × IsFigure (game_of weighed) 6 none
unfolding with_join with_signal with_legs with_train
weighed-figures = (weighed-filled.figures 7 (omega arith), weighed-filled.figures 1 (omega arith), weighed-filled.figures 2 (omega arith), weighed-filled.figures 6 (omega arith))

-- and from the start of the single line the plan opens train 2, for the long siding, where train 1 weighs 5, and train 1, for the short one, where it weighs 1.
dear-start : IsFigure (game_of (sidings 5)) 10 (some 8) × Planned (sidings 5) (figure_in figs_dear) 10 8 131080
unfolding with_join with_signal with_legs with_train
dear-start = (dear-filled.figures 10 (omega arith), dear-filled.settings 10 (omega arith))

even-start : IsFigure (game_of (sidings 1)) 10 (some 3) × Planned (sidings 1) (figure_in figs_even) 10 3 65537
unfolding with_join with_signal with_legs with_train
even-start = (even-filled.figures 10 (omega arith), even-filled.settings 10 (omega arith))
