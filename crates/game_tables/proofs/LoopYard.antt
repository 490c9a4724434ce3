-- The tables of a yard whose points are joined to each other, that of Examples: written out there, they pass the test of Certify by computation. So home can be
-- forced from its start within three turns and not within two, and the plan's setting there is none that the trains would have by themselves. Assumes nothing.
use mathlib.Core.Path.{◌≡◌, refl}
use mathlib.Core.Bool.{true}
use mathlib.Core.Option.{none, some}
use native.Mathlib.Omega.{arith}
use Rattle.laws.specs.Below.{all_below, any_below, sum_below, list_below, lowest}
use Rattle.laws.specs.Bits.{from_bits}
use Rattle.railway.specs.Ends.{end_at}
use Rattle.railway.specs.Refusals.{first}
use Rattle.railway.specs.Record.{is_closed, joined_by, joined, has_signal, legs_of, train_of, weight_of, with_join, with_signal, with_legs, with_train}
use Rattle.railway.specs.Passing.{follow, passes, entered}
use Rattle.railway.specs.Rows.{weight_row, unknown_row, join_row, loose_row, longer, chain_row, place_row, record_refusal}
use Rattle.game.specs.Game.{IsFigure}
use Rattle.game.specs.Local.{keeps_test}
use Rattle.game.specs.Placement.{code_of, sections_in, stands_on, start_code, at_home, shared}
use Rattle.game.specs.Setting.{heads_for, held, free, signal_open, may_move}
use Rattle.game.specs.Moves.{occupied, move_of, game_of}
use Rattle.game_tables.specs.Entries.{setting_at, entry_from}
use Rattle.game_tables.specs.Tables.{figure_in, Planned, Filled}
use Rattle.game_tables.specs.Find.{try_open, first_found, find}
use Rattle.game_tables.proofs.Examples.{loop_yard, figs_loop, sets_loop}
use Rattle.game_tables.proofs.Certify.{certified, certify}

computed : (record_refusal loop_yard ≡ none) × (certified loop_yard figs_loop sets_loop ≡ true) × (start_code loop_yard ≡ 12)
unfolding certified find first_found try_open keeps_test setting_at entry_from may_move free held signal_open heads_for stands_on
    sections_in start_code code_of at_home shared move_of passes follow occupied entered is_closed record_refusal first
    weight_row weight_of unknown_row join_row loose_row chain_row longer place_row end_at joined_by joined has_signal legs_of
    train_of with_join with_signal with_legs with_train all_below any_below sum_below list_below lowest from_bits
computed = (refl, refl, refl)

pub loop-accepted : record_refusal loop_yard ≡ none
loop-accepted = computed.0

pub loop-filled : Filled loop_yard figs_loop sets_loop
loop-filled = certify loop_yard loop-accepted figs_loop sets_loop computed.1

-- the start's figure, and the plan's entry there
loop-start : IsFigure (game_of loop_yard) 12 (some 3) × Planned loop_yard (figure_in figs_loop) 12 3 7
unfolding with_join with_signal with_legs with_train
loop-start = (loop-filled.figures 12 (omega arith), loop-filled.settings 12 (omega arith))
