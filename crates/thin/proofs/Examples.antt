-- Thinning by computation: entries, and whole calls; and the yard in which the second half of the law fails. Assumes nothing.
use mathlib.Core.Path.{◌≡◌, refl}
use mathlib.Core.Bool.{Bool, true}
use mathlib.Core.List.{List, [], ◌∷◌}
use Prim.Native.Nat.{ℕ}
use lib.Dec.{eqb}
use lib.ListN.{drop}
use Rattle.laws.specs.Below.{all_below, any_below, sum_below, list_below, lowest}
use Rattle.laws.specs.Lists.{all}
use Rattle.railway.specs.declared.Side.TheVariants.{Up, Down}
use Rattle.railway.specs.declared.Railway.{Railway}
use Rattle.railway.specs.declared.Refusal.TheVariants.{Count, Space, PlanForm, PlanFault}
use Rattle.railway.specs.Ends.{end_at}
use Rattle.railway.specs.Refusals.{first}
use Rattle.railway.specs.Record.{is_closed, joined_by, joined, has_signal, legs_of, train_of, weight_of, with_join, with_signal, with_legs, with_train}
use Rattle.railway.specs.Passing.{follow, passes, entered}
use Rattle.railway.specs.Rows.{weight_row, unknown_row, join_row, loose_row, longer, chain_row, place_row, record_refusal}
use Rattle.railway.specs.Yards.{yard_h, line_j, line_g, line_t, sec, yard_a}
use Rattle.game.specs.Local.{keeps_test}
use Rattle.game.specs.Placement.{code_of, sections_in, stands_on, start_code, at_home, shared}
use Rattle.game.specs.Setting.{heads_for, held, may_move, free, signal_open}
use Rattle.game.specs.Moves.{occupied, move_of}
use Rattle.game_tables.specs.Entries.{setting_at}
use Rattle.game_tables.specs.Tables.{no_figure, tables_short}
use Rattle.plan.specs.declared.CheckerState.{CheckerState}
use Rattle.plan.specs.declared.CheckerState.TheVariants.{Fresh, Begun}
use Rattle.plan.specs.Checker.{Checking, left}
use Rattle.plan.specs.Test.{listed_setting}
use Rattle.plan.specs.Computed.{placement_passes, test_holds}
use Rattle.thin.specs.ThinAnswer.{Thinned, Refused}
use Rattle.thin.specs.Law.{CommonFails}
use Rattle.thin.specs.Thinning.{some_free, stays, thinned_entry, thin_plan}

abbrev N : ℕ
N = no_figure

-- Two sidings, 1u joined to 2d and 3u to 4d, with a signal at 3u: train 1 goes from 1 to 2 and is free there, train 2 from 3 to 4. The same with a signal at 1u too.
abbrev pub sidings_free : Railway
sidings_free = line_t 2 Up 3 4 (line_t 1 Up 1 2 (line_g (sec 3 Up) (line_j (sec 3 Up) (sec 4 Down) (line_j (sec 1 Up) (sec 2 Down) (yard_h 4 0 2)))))

abbrev pub sidings : Railway
sidings = line_g (sec 1 Up) sidings_free

-- The tables of a plan for either: (1, 3), the start, has code 8, (2, 3) has 9, (1, 4) has 12 and (2, 4), home, has 13.
abbrev table : ℕ → ℕ → ℕ → ℕ → ℕ → List ℕ
table other a b c d = other ∷ other ∷ other ∷ other ∷ other ∷ other ∷ other ∷ other ∷ a ∷ b ∷ other ∷ other ∷ c ∷ d ∷ other ∷ other ∷ []

abbrev pub figs_s : List ℕ
figs_s = table N 2 1 1 0

-- Everybody open that has a signal; the same thinned, and thinned where train 1 is free.
abbrev pub generous : List ℕ
generous = table 0 196608 131072 65536 0

abbrev pub lean_s : List ℕ
lean_s = table 0 65536 131072 65536 0

abbrev pub generous_free : List ℕ
generous_free = table 0 131072 131072 0 0

abbrev pub lean_free : List ℕ
lean_free = table 0 0 131072 0 0

abbrev pub handed : CheckerState → List ℕ → List ℕ → Checking
handed s figs sets = record { state = s; figs = figs; sets = sets }

-- AN ENTRY: in a yard, at a code, listed with this figure or not, and what becomes of it.
record Entry : Type 0 where
  yard : Railway
  code : ℕ
  figure : ℕ
  was : ℕ
  is : ℕ

abbrev entry : Railway → ℕ → ℕ → ℕ → ℕ → Entry
entry r p n v w = record { yard = r; code = p; figure = n; was = v; is = w }

-- a table with this at every code
unfoldable pub at : ℕ → ℕ → List ℕ
at v n = list_below (λ p. v) n

abbrev holds : Entry → Bool
holds e = eqb (thinned_entry e.yard (at e.figure 16) (at e.was 16) e.code) e.is

abbrev entries : List Entry
entries =
    -- both may move: the lowest stays; one of them may; none may
    entry sidings 8 2 196608 65536
    ∷ entry sidings 8 2 131072 131072
    ∷ entry sidings 8 2 0 0
    -- train 1 parked, and open as if it were not: train 2 stays
    ∷ entry sidings 9 1 196608 131072
    -- train 1 free: nobody stays
    ∷ entry sidings_free 8 2 131072 0
    ∷ entry sidings_free 12 1 65536 0
    -- at home, and not listed: as it was
    ∷ entry sidings 13 0 196608 196608
    ∷ entry sidings 8 N 196608 196608
    -- Yard A: its point stays as it lies, train 2 being free, and train 2 being parked; bits of no point and of no train
    ∷ entry yard_a 7 2 65537 1
    ∷ entry yard_a 1 1 196609 65537
    ∷ entry yard_a 1 1 1048578 2
    ∷ []

as_said : all holds entries ≡ true
unfolding all at thinned_entry stays some_free setting_at list_below all_below any_below lowest sections_in stands_on at_home
    heads_for may_move free held signal_open has_signal train_of with_join with_signal with_legs with_train
as_said = refl

-- WHOLE CALLS: thinned, also where train 1 is free; thinned already; no line taken; another figure in the first line; a plan in which nobody may move; tables
-- too short; a record that is refused.
pub calls :
    (thin_plan sidings (handed (Begun 2 14) figs_s generous) ≡ left Thinned (handed (Begun 2 14) figs_s lean_s))
    × (thin_plan sidings_free (handed (Begun 2 14) figs_s generous_free) ≡ left Thinned (handed (Begun 2 14) figs_s lean_free))
    × (thin_plan sidings (handed (Begun 2 14) figs_s lean_s) ≡ left Thinned (handed (Begun 2 14) figs_s lean_s))
    × (thin_plan sidings (handed Fresh figs_s generous) ≡ left (Refused PlanForm) (handed Fresh figs_s generous))
    × (thin_plan sidings (handed (Begun 3 14) figs_s generous) ≡ left (Refused PlanFault) (handed (Begun 3 14) figs_s generous))
    × (thin_plan sidings (handed (Begun 2 14) figs_s (table 0 196608 0 65536 0)) ≡ left (Refused PlanFault) (handed (Begun 2 14) figs_s (table 0 196608 0 65536 0)))
    × (thin_plan sidings (handed (Begun 2 14) figs_s (drop 1 generous)) ≡ left (Refused Space) (handed (Begun 2 14) figs_s (drop 1 generous)))
    × (thin_plan (yard_h 0 0 2) (handed (Begun 2 14) [] []) ≡ left (Refused Count) (handed (Begun 2 14) [] []))
unfolding thin_plan thinned_entry stays some_free setting_at tables_short first weight_row weight_of unknown_row join_row
    loose_row chain_row longer place_row end_at joined_by joined has_signal legs_of train_of with_join with_signal with_legs
    with_train all_below any_below sum_below list_below lowest code_of test_holds placement_passes listed_setting keeps_test
    sections_in stands_on start_code at_home shared heads_for may_move free held signal_open passes follow occupied
    move_of entered is_closed
calls = (refl, refl, refl, refl, refl, refl, refl, refl)

-- BOTH TRAINS BEFORE ONE SIGNAL
pub common-fails : CommonFails
unfolding record_refusal first weight_row weight_of unknown_row join_row loose_row chain_row longer place_row end_at joined_by
    joined has_signal legs_of train_of with_join with_signal with_legs with_train any_below sections_in stands_on shared heads_for
    may_move free held signal_open is_closed
common-fails = record { accepted = refl; together = refl; either_way = refl; not-in-common = refl }
