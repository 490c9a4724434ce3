-- Five yards, with the tables of every case that is tried in them, by computation: they pass the test of
-- game_tables/Certify. In Yard A no signal is needed. In `following` the first end that helps is 1u. In `passing_loop`
-- 2d is, and 3d helps too.
-- In `closed_ring` none helps, and the last end without a signal is 2u, on the closed section: with a signal there other figures stand in the table. In `all_held` every end has one. Assumes nothing.
use mathlib.Core.Path.{◌≡◌, refl}
use mathlib.Core.Bool.{true}
use mathlib.Core.List.{List, [], ◌∷◌}
use mathlib.Core.Option.{none}
use Prim.Native.Nat.{ℕ}
use Rattle.laws.specs.Below.{all_below, any_below, sum_below, list_below, lowest}
use Rattle.laws.specs.Bits.{from_bits}
use Rattle.railway.specs.declared.Side.TheVariants.{Up, Down}
use Rattle.railway.specs.declared.SectionNo.{SectionNo}
use Rattle.railway.specs.declared.Railway.{Railway}
use Rattle.railway.specs.Ends.{end_at}
use Rattle.railway.specs.Refusals.{first}
use Rattle.railway.specs.Record.{is_closed, joined_by, joined, has_signal, legs_of, train_of, weight_of, with_join, with_signal, with_closed, with_legs, with_train}
use Rattle.railway.specs.Passing.{follow, passes, entered}
use Rattle.railway.specs.Rows.{weight_row, unknown_row, join_row, loose_row, longer, chain_row, place_row, record_refusal}
use Rattle.game.specs.Local.{keeps_test}
use Rattle.game.specs.Placement.{code_of, sections_in, stands_on, start_code, at_home, shared}
use Rattle.game.specs.Setting.{heads_for, held, may_move, free, signal_open}
use Rattle.game.specs.Moves.{occupied, move_of}
use Rattle.game_tables.specs.Entries.{setting_at, entry_from}
use Rattle.game_tables.specs.Tables.{no_figure, Filled}
use Rattle.game_tables.specs.Find.{try_open, first_found, find}
use Rattle.game_tables.proofs.Certify.{certified, certify}
use Rattle.advice.specs.Advising.{signalled}
use Rattle.advice.proofs.Examples.{following, passing_loop, closed_ring, all_held}

-- sections by the document's numbers
abbrev pub one : SectionNo
one = record { 0 = 0 }

abbrev pub two : SectionNo
two = record { 0 = 1 }

abbrev pub three : SectionNo
three = record { 0 = 2 }

abbrev N : ℕ
N = no_figure

abbrev zeros : List ℕ
zeros = 0 ∷ 0 ∷ 0 ∷ 0 ∷ 0 ∷ 0 ∷ 0 ∷ 0 ∷ 0 ∷ []

-- train 1 may follow only where train 2 is home, or is held at 1u until then
abbrev pub freely : List ℕ
freely = N ∷ N ∷ N ∷ N ∷ N ∷ N ∷ 1 ∷ 0 ∷ N ∷ []

abbrev pub held_back : List ℕ
held_back = N ∷ N ∷ N ∷ 2 ∷ N ∷ N ∷ 1 ∷ 0 ∷ N ∷ []

-- train 2, that stands on the closed section, waits for train 1 only if it is held there
abbrev pub ring : List ℕ
ring = N ∷ N ∷ N ∷ 1 ∷ N ∷ N ∷ 0 ∷ N ∷ N ∷ []

abbrev pub ring_held : List ℕ
ring_held = N ∷ N ∷ N ∷ 1 ∷ N ∷ 2 ∷ 0 ∷ N ∷ N ∷ []

abbrev pub heads_on : List ℕ
heads_on = N ∷ 0 ∷ N ∷ N ∷ []

-- one train has to wait in the loop, on section 2 or 3
abbrev pub meeting : List ℕ
meeting = N ∷ 1 ∷ 1 ∷ 0 ∷ N ∷ N ∷ 2 ∷ 1 ∷ N ∷ 2 ∷ N ∷ 1 ∷ N ∷ N ∷ N ∷ N ∷ []

abbrev pub met_on_two : List ℕ
met_on_two = N ∷ 1 ∷ 1 ∷ 0 ∷ 3 ∷ N ∷ 2 ∷ 1 ∷ N ∷ 2 ∷ N ∷ 1 ∷ 4 ∷ N ∷ N ∷ N ∷ []

abbrev pub met_on_three : List ℕ
met_on_three = N ∷ 1 ∷ 1 ∷ 0 ∷ N ∷ N ∷ 2 ∷ 1 ∷ 3 ∷ 2 ∷ N ∷ 1 ∷ 4 ∷ N ∷ N ∷ N ∷ []

abbrev pub meeting_sets : List ℕ
meeting_sets = 0 ∷ 2 ∷ 0 ∷ 0 ∷ 0 ∷ 0 ∷ 1 ∷ 1 ∷ 0 ∷ 2 ∷ 0 ∷ 0 ∷ 0 ∷ 0 ∷ 0 ∷ 0 ∷ []

abbrev pub two_sets : List ℕ
two_sets = 0 ∷ 2 ∷ 0 ∷ 0 ∷ 65536 ∷ 0 ∷ 0 ∷ 131073 ∷ 0 ∷ 2 ∷ 0 ∷ 0 ∷ 2 ∷ 0 ∷ 0 ∷ 0 ∷ []

abbrev pub three_sets : List ℕ
three_sets = 0 ∷ 2 ∷ 0 ∷ 0 ∷ 0 ∷ 0 ∷ 1 ∷ 1 ∷ 65537 ∷ 2 ∷ 0 ∷ 131072 ∷ 0 ∷ 0 ∷ 0 ∷ 0 ∷ []

-- what is computed of a case: it is accepted, has its start at this code, and its tables pass
record Sure (r : Railway) (start : ℕ) (figs sets : List ℕ) : Type 0 where
  accepted : record_refusal r ≡ none
  starts : start_code r ≡ start
  passes : certified r figs sets ≡ true

pub record Solution (r : Railway) (start : ℕ) (figs sets : List ℕ) : Type 0 where
  pub accepted : record_refusal r ≡ none
  pub starts : start_code r ≡ start
  pub filled : Filled r figs sets

solution : {r : Railway} {start : ℕ} {figs sets : List ℕ} → Sure r start figs sets → Solution r start figs sets
solution {r} {start} {figs} {sets} s = record { accepted = s.accepted; starts = s.starts; filled = certify r s.accepted figs sets s.passes }

sure : Sure following 3 freely zeros
    × Sure (signalled following one Down) 3 freely zeros
    × Sure (signalled following one Up) 3 held_back (0 ∷ 0 ∷ 0 ∷ 0 ∷ 0 ∷ 0 ∷ 65536 ∷ 0 ∷ 0 ∷ [])
    × Sure closed_ring 2 ring zeros
    × Sure (signalled closed_ring one Down) 2 ring zeros
    × Sure (signalled closed_ring one Up) 2 ring zeros
    × Sure (signalled closed_ring two Down) 2 ring zeros
    × Sure (signalled closed_ring two Up) 2 ring_held (0 ∷ 0 ∷ 0 ∷ 131072 ∷ 0 ∷ 65536 ∷ 0 ∷ 0 ∷ 0 ∷ [])
    × Sure all_held 2 heads_on zeros
    × Sure passing_loop 12 meeting meeting_sets
    × Sure (signalled passing_loop one Down) 12 meeting meeting_sets
    × Sure (signalled passing_loop two Down) 12 met_on_two two_sets
    × Sure (signalled passing_loop three Down) 12 met_on_three three_sets
unfolding record_refusal first weight_row weight_of unknown_row join_row loose_row chain_row longer place_row end_at joined_by
    joined has_signal legs_of train_of with_join with_signal with_closed with_legs with_train all_below any_below sum_below
    list_below lowest from_bits certified keeps_test sections_in stands_on code_of start_code at_home shared heads_for may_move
    free held signal_open passes follow occupied move_of entered is_closed setting_at entry_from try_open first_found find
sure = (
  record { accepted = refl; starts = refl; passes = refl },
  record { accepted = refl; starts = refl; passes = refl },
  record { accepted = refl; starts = refl; passes = refl },
  record { accepted = refl; starts = refl; passes = refl },
  record { accepted = refl; starts = refl; passes = refl },
  record { accepted = refl; starts = refl; passes = refl },
  record { accepted = refl; starts = refl; passes = refl },
  record { accepted = refl; starts = refl; passes = refl },
  record { accepted = refl; starts = refl; passes = refl },
  record { accepted = refl; starts = refl; passes = refl },
  record { accepted = refl; starts = refl; passes = refl },
  record { accepted = refl; starts = refl; passes = refl },
  record { accepted = refl; starts = refl; passes = refl },
)

pub following-alone : Solution following 3 freely zeros
following-alone = solution sure.0

pub following-1d : Solution (signalled following one Down) 3 freely zeros
following-1d = solution sure.1

pub following-1u : Solution (signalled following one Up) 3 held_back (0 ∷ 0 ∷ 0 ∷ 0 ∷ 0 ∷ 0 ∷ 65536 ∷ 0 ∷ 0 ∷ [])
following-1u = solution sure.2

pub ring-alone : Solution closed_ring 2 ring zeros
ring-alone = solution sure.3

pub ring-1d : Solution (signalled closed_ring one Down) 2 ring zeros
ring-1d = solution sure.4

pub ring-1u : Solution (signalled closed_ring one Up) 2 ring zeros
ring-1u = solution sure.5

pub ring-2d : Solution (signalled closed_ring two Down) 2 ring zeros
ring-2d = solution sure.6

pub ring-2u : Solution (signalled closed_ring two Up) 2 ring_held (0 ∷ 0 ∷ 0 ∷ 131072 ∷ 0 ∷ 65536 ∷ 0 ∷ 0 ∷ 0 ∷ [])
ring-2u = solution sure.7

pub all-held : Solution all_held 2 heads_on zeros
all-held = solution sure.8

pub loop-alone : Solution passing_loop 12 meeting meeting_sets
loop-alone = solution sure.9

pub loop-1d : Solution (signalled passing_loop one Down) 12 meeting meeting_sets
loop-1d = solution sure.10

pub loop-2d : Solution (signalled passing_loop two Down) 12 met_on_two two_sets
loop-2d = solution sure.11

pub loop-3d : Solution (signalled passing_loop three Down) 12 met_on_three three_sets
loop-3d = solution sure.12
