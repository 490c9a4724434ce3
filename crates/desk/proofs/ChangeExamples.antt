-- Answers to a change of case, by computation: a line for each reason for which it is refused, and which number comes first of several; what the desk is then. The old case is
-- Yard A with weights, its trains at (2, 3), (2, 1) or elsewhere; the new one is Yard A with a section closed, or with another destination. No theorem rests on these; they show
-- what the definitions say. Assumes nothing.
use mathlib.Core.Path.{◌≡◌, refl}
use mathlib.Core.Bool.{true}
use mathlib.Core.List.{List, [], ◌∷◌}
use mathlib.Core.Option.{none, some}
use Prim.Native.Nat.{ℕ}
use lib.ListN.{replicate}
use Rattle.laws.specs.Below.{all_below, any_below, count_below, sum_below, list_below}
use Rattle.railway.specs.declared.Side.TheVariants.{Up, Down}
use Rattle.railway.specs.declared.Railway.{Railway}
use Rattle.railway.specs.declared.Refusal.TheVariants.{Length, Form, Count, Weight, Unknown, Join, Loose, Chain, Double, Place, Mismatch, Space, Report, Stranded}
use Rattle.railway.specs.Ends.{end_at}
use Rattle.railway.specs.Refusals.{first}
use Rattle.railway.specs.Record.{is_closed, joined_by, joined, has_signal, legs_of, train_of, weight_of, with_join, with_signal, with_closed, with_legs, with_train}
use Rattle.railway.specs.Passing.{follow, passes}
use Rattle.railway.specs.Rows.{weight_row, unknown_row, join_row, loose_row, longer, chain_row, place_row, record_refusal}
use Rattle.railway.specs.Yards.{yard_a, yard_h, line_j, line_t, line_x, sec}
use Rattle.game.specs.Placement.{code_of, sections_in, stands_on, names_none, at_home, shared}
use Rattle.game.specs.Setting.{heads_for, held, free, signal_open, may_move}
use Rattle.game.specs.Moves.{occupied}
use Rattle.game_tables.specs.Entries.{setting_at}
use Rattle.game_tables.specs.Tables.{no_figure, tables_short}
use Rattle.game_tables.proofs.Examples.{weighed}
use Rattle.game_tables.proofs.KnownYards.{figs_a, sets_a}
use Rattle.desk.specs.ReportAnswer.{Counted}
use Rattle.desk.specs.ChangeAnswer.{ChangeAnswer, Changed, Refused}
use Rattle.desk.specs.Desk.{Desk, misplaced, arrivals, miscarries, allows, report_row, report}
use Rattle.desk.specs.Change.{mismatch, stranded, sooner, Changing, change_to}
use Rattle.desk.proofs.Examples.{on_in, on, others}

-- Section 2 is closed, and so train 1 starts on 1 there; else it is Yard A, and its tables are Yard A's.
abbrev pub shut : Railway
shut = line_t 1 Up 1 3 (line_x 2 yard_a)

-- Train 1 is bound for 2; so (2, 1), code 1, is home, from (2, 3) train 2 comes there, and there is no other figure.
abbrev pub stay : Railway
stay = line_t 1 Up 2 2 yard_a

abbrev N : ℕ
N = no_figure

abbrev pub figs_stay : List ℕ
figs_stay = N ∷ 0 ∷ N ∷ N ∷ N ∷ N ∷ N ∷ 1 ∷ N ∷ []

abbrev pub sets_stay : List ℕ
sets_stay = 0 ∷ 0 ∷ 0 ∷ 0 ∷ 0 ∷ 0 ∷ 0 ∷ 1 ∷ 0 ∷ []

-- A section more; a train less; train 1 about.
abbrev four : Railway
four = line_t 2 Down 3 1 (line_t 1 Up 2 3 (yard_h 4 0 2))

abbrev alone : Railway
alone = line_t 1 Up 2 3 (yard_h 3 0 1)

abbrev pub about : Railway
about = line_t 1 Down 2 3 yard_a

-- Yard A with 1u joined to 3u: row 5 applies.
abbrev pub wrong : Railway
wrong = line_j (sec 1 Up) (sec 3 Up) yard_a

-- Tables that are long enough for each of them, and some that are not.
abbrev long : List ℕ
long = replicate 16 0

abbrev short : List ℕ
short = replicate 8 0

-- What a change hands back: an answer and a desk.
abbrev gives : ChangeAnswer → Desk → Changing
gives a d = record { answer = a; desk = d }

-- From Yard A with weights.
abbrev changed : Railway → Desk → List ℕ → List ℕ → Changing
changed = change_to weighed

-- A desk at (2, 3) that carries another count.
abbrev miscounted : Desk
miscounted = record { at = (on 2 3).at; code = 7; arrived = 1 }

-- the new ones are cases
cases : (record_refusal shut ≡ none) × (record_refusal stay ≡ none) × (record_refusal four ≡ none) × (record_refusal alone ≡ none) × (record_refusal about ≡ none)
unfolding record_refusal first weight_row weight_of unknown_row join_row loose_row chain_row longer place_row end_at joined_by
    joined has_signal legs_of train_of with_join with_signal with_closed with_legs with_train any_below is_closed
cases = (refl, refl, refl, refl, refl)

refusals :
    -- 14: sections, trains, a heading; before 9, and behind the numbers of the old record
    (changed four (on 2 3) long long ≡ gives (Refused Mismatch) (on 2 3)) × (changed alone (on 2 3) long long ≡ gives (Refused Mismatch) (on 2 3))
    × (changed about (on 2 3) long long ≡ gives (Refused Mismatch) (on 2 3)) × (changed about (on 2 2) [] [] ≡ gives (Refused Mismatch) (on 2 2))
    × (change_to wrong about (on 2 2) [] [] ≡ gives (Refused Join) (on 2 2))
    -- 9, by either table; before 12
    × (changed shut (on 2 3) short sets_a ≡ gives (Refused Space) (on 2 3)) × (changed shut (on 2 3) figs_a short ≡ gives (Refused Space) (on 2 3))
    × (changed shut (on 2 2) short sets_a ≡ gives (Refused Space) (on 2 2)) × (changed shut miscounted [] [] ≡ gives (Refused Space) miscounted)
    -- 12, by the placement and by what is carried; before 15
    × (changed shut (on 2 2) figs_a sets_a ≡ gives (Refused Report) (on 2 2)) × (changed shut (on 2 4) figs_a sets_a ≡ gives (Refused Report) (on 2 4))
    × (changed shut miscounted figs_a sets_a ≡ gives (Refused Report) miscounted)
    -- the count that 12 asks for is the old case's
    × (changed stay (on_in stay 2 3) figs_stay sets_stay ≡ gives (Refused Report) (on_in stay 2 3))
    -- 15
    × (changed shut (on 1 3) figs_a sets_a ≡ gives (Refused Stranded) (on 1 3)) × (changed stay (on 3 1) figs_stay sets_stay ≡ gives (Refused Stranded) (on 3 1))
unfolding change_to mismatch stranded misplaced miscarries arrivals count_below names_none shared stands_on sections_in
    code_of list_below sum_below tables_short first weight_row weight_of unknown_row join_row loose_row chain_row longer place_row
    end_at joined_by joined has_signal legs_of train_of with_join with_signal with_closed with_legs with_train any_below is_closed
refusals = (refl, refl, refl, refl, refl, refl, refl, refl, refl, refl, refl, refl, refl, refl, refl)

-- MADE. The code stays and the count is the new case's: at (2, 3) none had come to its destination, and now train 1 has. At home too a change is made.
made :
    (changed stay (on 2 3) figs_stay sets_stay ≡ gives Changed (record { at = (on 2 3).at; code = 7; arrived = 1 })) × ((on 2 3).arrived ≡ 0)
    × (changed stay (on 2 1) figs_stay sets_stay ≡ gives Changed (record { at = (on 2 1).at; code = 1; arrived = 2 })) × ((on 2 1).arrived ≡ 1)
    × (changed shut (on 3 1) figs_a sets_a ≡ gives Changed (on 3 1)) × (changed shut (others 2 3) figs_a sets_a ≡ gives Changed (others 2 3))
    -- train 1 stands on 2, which is closed now, and leaves it
    × (changed shut (on 2 1) figs_a sets_a ≡ gives Changed (on_in shut 2 1)) × (is_closed shut 1 ≡ true)
    × (report shut (on_in shut 2 1) figs_a sets_a 0 2 ≡ record { answer = Counted; desk = on_in shut 3 1 }) × ((on_in shut 3 1).arrived ≡ 2)
unfolding change_to mismatch stranded report report_row allows misplaced miscarries arrivals count_below names_none shared
    at_home occupied passes follow setting_at may_move free held signal_open heads_for stands_on sections_in code_of list_below
    sum_below tables_short first weight_row weight_of unknown_row join_row loose_row chain_row longer place_row end_at joined_by
    joined has_signal legs_of train_of with_join with_signal with_closed with_legs with_train any_below all_below is_closed
made = (refl, refl, refl, refl, refl, refl, refl, refl, refl, refl)

-- WHERE THE TEXT IS NOT READ: the old record's number or the text's, by their order, in which 16 is behind 3 and 13 behind 6.
sooner-of : (sooner none Place ≡ Place) × (sooner (some Count) Length ≡ Length) × (sooner (some Count) Form ≡ Form)
    × (sooner (some Join) Place ≡ Join) × (sooner (some Join) Unknown ≡ Unknown)
    × (sooner (some Weight) Unknown ≡ Weight) × (sooner (some Unknown) Weight ≡ Weight) × (sooner (some Weight) Count ≡ Count)
    × (sooner (some Chain) Double ≡ Chain) × (sooner (some Place) Chain ≡ Chain) × (sooner (some Chain) Loose ≡ Loose) × (sooner (some Join) Join ≡ Join)
sooner-of = (refl, refl, refl, refl, refl, refl, refl, refl, refl, refl, refl, refl)
