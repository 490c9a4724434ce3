-- The known figures, proved from the rules for whole plays: the tables of each yard are written out, pass the test of Certify by
-- computation, and so have the figures. Assumes nothing.
use mathlib.Core.Path.{◌≡◌, refl}
use mathlib.Core.Bool.{Bool, true, ◌&&◌}
use mathlib.Core.List.{List, [], ◌∷◌}
use mathlib.Core.Option.{none}
use Prim.Native.Nat.{ℕ, ◌<◌}
use lib.ListN.{length}
use lib.Dec.{eqb, ltb, leb}
use borrow.Author.Tests.{eqb-true, ltb-true}
use Rattle.laws.specs.Below.{all_below, any_below, sum_below, list_below, lowest}
use Rattle.laws.specs.Bits.{from_bits}
use Rattle.laws.specs.Lists.{all}
use Rattle.laws.proofs.Bools.{clash, and-true}
use Rattle.railway.specs.declared.Railway.{Railway}
use Rattle.railway.specs.Ends.{end_at}
use Rattle.railway.specs.Refusals.{first}
use Rattle.railway.specs.Record.{is_closed, joined_by, joined, has_signal, legs_of, train_of, weight_of, with_join, with_signal, with_legs, with_train}
use Rattle.railway.specs.Passing.{follow, passes, entered}
use Rattle.railway.specs.Rows.{weight_row, unknown_row, join_row, loose_row, longer, chain_row, place_row, record_refusal}
use Rattle.game.specs.Local.{keeps_test}
use Rattle.game.specs.Placement.{code_of, sections_in, placements, stands_on, start_code, at_home, shared}
use Rattle.game.specs.Setting.{heads_for, held, may_move, free, signal_open}
use Rattle.game.specs.Moves.{occupied, move_of}
use Rattle.railway.specs.Yards.{yard_a, yard_aless, yard_one, yard_one_down, up_one_two, up_two_one, up_two_one_held, head_on}
use Rattle.game_tables.specs.Entries.{setting_at, entry_from}
use Rattle.game_tables.specs.Tables.{no_figure, figure_in, Filled}
use Rattle.game_tables.specs.Find.{try_open, first_found, find}
use Rattle.game_tables.specs.KnownYards.{KnownFigure, known_code, Holds, KnownFiguresHold}
use Rattle.game_tables.proofs.Certify.{certified, certify}

-- what is computed of a yard: it is accepted, and its tables pass
record Sure (r : Railway) (figs sets : List ℕ) : Type 0 where
  accepted : record_refusal r ≡ none
  passes : certified r figs sets ≡ true

filled : {r : Railway} {figs sets : List ℕ} → Sure r figs sets → Filled r figs sets
filled {r} {figs} {sets} s = certify r s.accepted figs sets s.passes

abbrev N : ℕ
N = no_figure

-- the tables of Yard A, by code; without its signal at 1d they are the same, for that signal stands ahead of a parked train alone
abbrev pub figs_a : List ℕ
figs_a = N ∷ 1 ∷ 0 ∷ N ∷ N ∷ N ∷ N ∷ 2 ∷ N ∷ []

abbrev pub sets_a : List ℕ
sets_a = 0 ∷ 65536 ∷ 0 ∷ 0 ∷ 0 ∷ 0 ∷ 0 ∷ 1 ∷ 0 ∷ []

-- in the order of the yards in specs/; where no setting is needed, zeros
abbrev pub zeros : List ℕ
zeros = 0 ∷ 0 ∷ 0 ∷ 0 ∷ 0 ∷ 0 ∷ 0 ∷ 0 ∷ 0 ∷ []

sure : Sure yard_a figs_a sets_a
    × Sure yard_aless figs_a sets_a
    × Sure yard_one (0 ∷ []) zeros
    × Sure yard_one_down (0 ∷ []) zeros
    × Sure up_one_two (1 ∷ 0 ∷ []) zeros
    × Sure up_two_one (0 ∷ N ∷ []) zeros
    × Sure up_two_one_held (0 ∷ N ∷ []) zeros
    × Sure head_on (N ∷ 0 ∷ N ∷ N ∷ []) zeros
unfolding record_refusal first weight_row weight_of unknown_row join_row loose_row chain_row longer place_row end_at joined_by
    joined has_signal legs_of train_of with_join with_signal with_legs with_train all_below any_below sum_below lowest from_bits
    certified keeps_test sections_in stands_on code_of at_home shared heads_for may_move free held signal_open passes follow
    occupied move_of entered is_closed setting_at entry_from try_open first_found find
sure = (
  record { accepted = refl; passes = refl },
  record { accepted = refl; passes = refl },
  record { accepted = refl; passes = refl },
  record { accepted = refl; passes = refl },
  record { accepted = refl; passes = refl },
  record { accepted = refl; passes = refl },
  record { accepted = refl; passes = refl },
  record { accepted = refl; passes = refl },
)

-- Yard A is accepted, and these are its tables
pub yard_a-accepted : record_refusal yard_a ≡ none
yard_a-accepted = sure.0.accepted

pub yard_a-filled : Filled yard_a figs_a sets_a
yard_a-filled = filled sure.0

-- so is it without its signal at 1d, with the same tables; so are those of one section, and of the yard with trains head on
pub yard_aless-filled : (record_refusal yard_aless ≡ none) × Filled yard_aless figs_a sets_a
yard_aless-filled = (sure.1.accepted, filled sure.1)

pub one-filled : (record_refusal yard_one ≡ none) × Filled yard_one (0 ∷ []) zeros
one-filled = (sure.2.accepted, filled sure.2)

pub one-down-filled : (record_refusal yard_one_down ≡ none) × Filled yard_one_down (0 ∷ []) zeros
one-down-filled = (sure.3.accepted, filled sure.3)

pub head_on-filled : (record_refusal head_on ≡ none) × Filled head_on (N ∷ 0 ∷ N ∷ N ∷ []) zeros
head_on-filled = (sure.7.accepted, filled sure.7)

-- a known figure, from the tables of its yard and what is computed of its placement
abbrev there : KnownFigure → Bool
there x = eqb (length x.sections) x.yard.trains && (all (λ n. leb 1 n && leb n x.yard.sections) x.sections && ltb (known_code x) (placements x.yard))

known-figure : {x : KnownFigure} {figs sets : List ℕ} → Sure x.yard figs sets
    → (x.of_start ≡ true → start_code x.yard ≡ known_code x) → there x ≡ true
    → figure_in figs (known_code x) ≡ x.figure → Holds x
known-figure {x} {figs} s start t e =
    let h = and-true (eqb (length x.sections) x.yard.trains) (all (λ n. leb 1 n && leb n x.yard.sections) x.sections && ltb (known_code x) (placements x.yard)) t in
    let k = and-true (all (λ n. leb 1 n && leb n x.yard.sections) x.sections) (ltb (known_code x) (placements x.yard)) h.1 in
    let l : known_code x < placements x.yard = ltb-true (known_code x) (placements x.yard) k.1 in
    record {
      accepted = s.accepted;
      each-train = eqb-true (length x.sections) x.yard.trains h.0;
      there = k.0;
      start = start;
      figure = rw (← e) ((filled s).figures (known_code x) l);
    }

infixr 4 ◌also◌
◌also◌ : {A B : Type 0} → A → B → A × B
h also hs = (h, hs)

-- THE KNOWN FIGURES HOLD
pub known-figures : KnownFiguresHold
unfolding all code_of start_code sum_below list_below train_of with_join with_signal with_legs with_train
known-figures =
    known-figure sure.0 (λ e. refl) refl refl
    also known-figure sure.0 (λ e. clash e refl) refl refl
    also known-figure sure.0 (λ e. clash e refl) refl refl
    also known-figure sure.0 (λ e. clash e refl) refl refl
    also known-figure sure.0 (λ e. clash e refl) refl refl
    also known-figure sure.0 (λ e. clash e refl) refl refl
    also known-figure sure.1 (λ e. refl) refl refl
    also known-figure sure.2 (λ e. refl) refl refl
    also known-figure sure.3 (λ e. refl) refl refl
    also known-figure sure.4 (λ e. refl) refl refl
    also known-figure sure.5 (λ e. refl) refl refl
    also known-figure sure.6 (λ e. refl) refl refl
    also known-figure sure.7 (λ e. refl) refl refl
    also tt
