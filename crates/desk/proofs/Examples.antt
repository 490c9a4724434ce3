-- Answers of the three calls, by computation: one line for each reason for which a call is refused, and which number comes first of several; what the desk is then. In Yard A with
-- weights placement (a, b) has code (a - 1) + 3 (b - 1): the start (2, 3) is 7, then train 2 goes to 1, which is (2, 1), code 1, then train 1 to 3, which is home, (3, 1), code 2.
-- No theorem rests on these; they show what the definitions say. Assumes nothing.
use mathlib.Core.Path.{◌≡◌, refl}
use mathlib.Core.Bool.{true, false}
use mathlib.Core.List.{List, [], ◌∷◌}
use Prim.Native.Nat.{ℕ, ◌-◌}
use lib.ListN.{replicate}
use Rattle.laws.specs.Below.{all_below, any_below, count_below, sum_below, list_below}
use Rattle.railway.specs.declared.Side.TheVariants.{Up, Down}
use Rattle.railway.specs.declared.Leg.TheVariants.{Stem, Plus, Minus}
use Rattle.railway.specs.declared.Railway.{Railway}
use Rattle.railway.specs.declared.Refusal.TheVariants.{Join, Space, Report}
use Rattle.railway.specs.Ends.{end_at}
use Rattle.railway.specs.Refusals.{first}
use Rattle.railway.specs.Record.{is_closed, joined_by, joined, has_signal, legs_of, train_of, weight_of, with_join, with_signal, with_closed, with_legs, with_train}
use Rattle.railway.specs.Passing.{follow, passes}
use Rattle.railway.specs.Rows.{weight_row, unknown_row, join_row, loose_row, longer, chain_row, place_row}
use Rattle.railway.specs.Yards.{yard_h, line_p, line_j, line_g, line_t, sec, port, yard_one, up_one_two}
use Rattle.game.specs.Placement.{code_of, sections_in, stands_on, names_none, start_code, at_home, shared}
use Rattle.game.specs.Setting.{heads_for, held, free, signal_open, may_move}
use Rattle.game.specs.Moves.{occupied}
use Rattle.game.proofs.Examples.{shut_line}
use Rattle.game_tables.specs.Entries.{setting_at}
use Rattle.game_tables.specs.Tables.{no_figure, tables_short}
use Rattle.game_tables.proofs.Examples.{weighed, figs_w, sets_w}
use Rattle.desk.specs.OpenAnswer.{OpenAnswer, Opened, NoFigure, Refused as OpenRefused}
use Rattle.desk.specs.SettingAnswer.{Given, Refused as SettingRefused}
use Rattle.desk.specs.ReportAnswer.{ReportAnswer, Counted, Refused}
use Rattle.desk.specs.Desk.{Desk, desk_code, misplaced, arrivals, miscarries, desk_row, desk_on, no_desk, Opening, open_desk, give_setting, allows, report_row, Reply, report}

-- A desk, by the document's numbers of the sections of two trains, which carries what is right; the other two places are not looked at.
abbrev pub on_in : Railway → ℕ → ℕ → Desk
on_in r a b = desk_on r (record { sections = (a - 1) ∷ (b - 1) ∷ 0 ∷ 0 ∷ [] })

abbrev pub on : ℕ → ℕ → Desk
on = on_in weighed

abbrev pub others : ℕ → ℕ → Desk
others a b = desk_on weighed (record { sections = (a - 1) ∷ (b - 1) ∷ 77 ∷ 255 ∷ [] })

-- One that carries a code and a count of trains, whatever they are.
abbrev with : ℕ → ℕ → ℕ → ℕ → Desk
with a b code count = record { at = record { sections = (a - 1) ∷ (b - 1) ∷ 0 ∷ 0 ∷ [] }; code = code; arrived = count }

-- What a report hands back: an answer and a desk.
abbrev says : ReportAnswer → Desk → Reply
says a d = record { answer = a; desk = d }

abbrev opens : OpenAnswer → Desk → Opening
opens a d = record { answer = a; desk = d }

-- The report, by the document's numbers, that train t has come to section x, with the solver's tables.
abbrev told : Desk → ℕ → ℕ → Reply
told d t x = report weighed d figs_w sets_w (t - 1) (x - 1)

abbrev twelve : ReportAnswer
twelve = Refused Report

-- A figure table that has none at the start, tables that are too short, and a setting table that has the point at minus everywhere: at (2, 3) it sends train 2 onto train 1.
abbrev N : ℕ
N = no_figure

abbrev figs_n : List ℕ
figs_n = N ∷ 5 ∷ 0 ∷ N ∷ N ∷ N ∷ N ∷ N ∷ N ∷ []

abbrev short : List ℕ
short = replicate 8 0

abbrev minus : List ℕ
minus = replicate 9 0

-- Row 5 applies to this one: 1u joined with 2u.
abbrev wrong_join : Railway
wrong_join = line_t 1 Up 1 2 (line_j (sec 1 Up) (sec 2 Up) (yard_h 2 0 1))

placements : (desk_code weighed (on 2 3) ≡ 7) × (desk_code weighed (others 2 3) ≡ 7) × (desk_code weighed (on 3 1) ≡ 2)
    × (desk_row weighed (on 2 3) ≡ false) × (desk_row weighed (others 2 3) ≡ false)
    -- two trains on one section; a section that is not there; none, of two trains and of one
    × (desk_row weighed (on 2 2) ≡ true) × (desk_row weighed (on 2 4) ≡ true) × (desk_row weighed no_desk ≡ true) × (desk_row up_one_two no_desk ≡ true)
unfolding misplaced miscarries arrivals count_below names_none shared stands_on sections_in code_of list_below sum_below any_below train_of with_join with_signal with_legs with_train
placements = (refl, refl, refl, refl, refl, refl, refl, refl, refl)

-- WHAT A DESK CARRIES: the code, and how many trains stand on their destinations, which are 3 and 1, wherever they started; so does the one train of the last yard, at its start
carried : (on 2 3 ≡ with 2 3 7 0) × (on 2 1 ≡ with 2 1 1 1) × (on 3 1 ≡ with 3 1 2 2) × (on 3 2 ≡ with 3 2 5 1) × (arrivals yard_one 0 ≡ 1)
    -- another code stops a desk, one more or less, or that of another placement; so does another count
    × (desk_row weighed (with 2 3 7 0) ≡ false) × (desk_row weighed (with 2 3 8 0) ≡ true) × (desk_row weighed (with 2 3 6 0) ≡ true) × (desk_row weighed (with 2 3 1 1) ≡ true)
    × (desk_row weighed (with 2 3 7 1) ≡ true) × (desk_row weighed (with 3 1 2 1) ≡ true) × (desk_row weighed (with 3 1 2 3) ≡ true)
    -- a code that fits does not help where a section is not there, or two trains are on one
    × (on 4 1 ≡ with 4 1 3 0) × (desk_row weighed (with 4 1 3 0) ≡ true) × (on 2 2 ≡ with 2 2 4 0) × (desk_row weighed (with 2 2 4 0) ≡ true)
unfolding misplaced miscarries arrivals count_below names_none shared stands_on sections_in code_of list_below sum_below any_below train_of with_join with_signal with_legs with_train
carried = (refl, refl, refl, refl, refl, refl, refl, refl, refl, refl, refl, refl, refl, refl, refl, refl)

opening : (open_desk weighed figs_w sets_w ≡ opens Opened (with 2 3 7 0))
    -- the start has no figure: no desk; tables too short; a wrong record, first
    × (open_desk weighed figs_n sets_w ≡ opens NoFigure no_desk)
    × (open_desk weighed short sets_w ≡ opens (OpenRefused Space) no_desk)
    × (open_desk wrong_join [] [] ≡ opens (OpenRefused Join) no_desk)
unfolding open_desk arrivals count_below stands_on sections_in start_code code_of list_below sum_below tables_short first
    weight_row weight_of unknown_row join_row loose_row chain_row longer place_row end_at joined_by joined has_signal legs_of
    train_of with_join with_signal with_legs with_train any_below is_closed
opening = (refl, refl, refl, refl)

setting : (give_setting weighed (on 2 3) figs_w sets_w ≡ Given 1) × (give_setting weighed (on 2 1) figs_w sets_w ≡ Given 65536)
    -- at home too, and without a figure
    × (give_setting weighed (on 3 1) figs_w sets_w ≡ Given 0) × (give_setting weighed (on 1 3) figs_w sets_w ≡ Given 0)
    -- another code, another count; a section that is not there, and a code that fits
    × (give_setting weighed (with 2 3 8 0) figs_w sets_w ≡ SettingRefused Report) × (give_setting weighed (with 2 3 7 1) figs_w sets_w ≡ SettingRefused Report)
    × (give_setting weighed (with 4 1 3 0) figs_w sets_w ≡ SettingRefused Report)
    -- no such placement; no desk
    × (give_setting weighed (on 2 2) figs_w sets_w ≡ SettingRefused Report) × (give_setting weighed no_desk figs_w sets_w ≡ SettingRefused Report)
    -- 9 before 12, and 5
    × (give_setting weighed (on 2 2) figs_w short ≡ SettingRefused Space) × (give_setting weighed (with 2 3 8 0) figs_w short ≡ SettingRefused Space)
    × (give_setting wrong_join (on 9 9) [] [] ≡ SettingRefused Join)
unfolding give_setting misplaced miscarries arrivals count_below names_none shared stands_on sections_in code_of list_below
    sum_below tables_short first weight_row weight_of unknown_row join_row loose_row chain_row longer place_row end_at joined_by
    joined has_signal legs_of train_of with_join with_signal with_legs with_train any_below is_closed
setting = (refl, refl, refl, refl, refl, refl, refl, refl, refl, refl, refl, refl)

reports : (told (with 2 3 7 0) 2 1 ≡ says Counted (with 2 1 1 1)) × (told (with 2 1 1 1) 1 3 ≡ says Counted (with 3 1 2 2)) × (told (others 2 3) 2 1 ≡ says Counted (others 2 1))
    -- a train that is held; one that is free, on another section than the setting sends it to; one that is not there
    × (told (on 2 3) 1 3 ≡ says twelve (on 2 3)) × (told (on 2 3) 2 2 ≡ says twelve (on 2 3)) × (told (on 2 3) 3 1 ≡ says twelve (on 2 3))
    -- a parked train; at home; a placement that cannot be
    × (told (on 2 1) 2 1 ≡ says twelve (on 2 1)) × (told (on 3 1) 1 3 ≡ says twelve (on 3 1))
    × (told (on 3 3) 2 1 ≡ says twelve (on 3 3)) × (told (on 4 3) 2 1 ≡ says twelve (on 4 3))
    × (told no_desk 2 1 ≡ says twelve no_desk)
    -- another code, another count; a section that is not there, and a code that fits; what is carried is not put right
    × (told (with 2 3 8 0) 2 1 ≡ says twelve (with 2 3 8 0)) × (told (with 2 3 7 1) 2 1 ≡ says twelve (with 2 3 7 1)) × (told (with 4 1 3 0) 2 1 ≡ says twelve (with 4 1 3 0))
    -- where another setting is lent: onto another train, though that setting sends it there; and so the move by the point at plus is none
    × (allows weighed (on 2 3) minus 1 1 ≡ true) × (report weighed (on 2 3) figs_w minus 1 1 ≡ says twelve (on 2 3))
    × (report weighed (on 2 3) figs_w minus 1 0 ≡ says twelve (on 2 3))
    -- at (1, 2) train 1 is free, and derails at the point; train 2 is, too, and the track ends before it: no section is come to
    × (report weighed (on 1 2) figs_w minus 0 2 ≡ says twelve (on 1 2)) × (report weighed (on 1 2) figs_w minus 1 0 ≡ says twelve (on 1 2))
    -- 9 before 12, and 5
    × (report weighed (on 2 2) figs_w short 1 0 ≡ says (Refused Space) (on 2 2)) × (report weighed (on 2 3) short sets_w 1 0 ≡ says (Refused Space) (on 2 3))
    × (report weighed (with 2 3 7 1) figs_w short 1 0 ≡ says (Refused Space) (with 2 3 7 1)) × (report wrong_join (on 9 9) [] [] 7 7 ≡ says (Refused Join) (on 9 9))
unfolding report report_row allows misplaced miscarries arrivals count_below names_none shared at_home occupied passes
    follow setting_at may_move free held signal_open heads_for stands_on sections_in code_of list_below sum_below tables_short
    first weight_row weight_of unknown_row join_row loose_row chain_row longer place_row end_at joined_by joined has_signal legs_of
    train_of with_join with_signal with_legs with_train any_below all_below is_closed
reports = (refl, refl, refl, refl, refl, refl, refl, refl, refl, refl, refl, refl, refl, refl, refl, refl, refl, refl, refl, refl, refl, refl, refl)

-- INTO A CLOSED SECTION: on the line of three sections with the middle one closed train 1 is free and would come there, and the report of that gives 12; one of coming out counts.
closed : (allows shut_line (on_in shut_line 1 3) minus 0 1 ≡ true) × (report shut_line (on_in shut_line 1 3) minus minus 0 1 ≡ says twelve (on_in shut_line 1 3))
    × (report shut_line (on_in shut_line 2 1) minus minus 0 2 ≡ says Counted (on_in shut_line 3 1))
unfolding report report_row allows misplaced miscarries arrivals count_below names_none shared at_home occupied passes
    follow setting_at may_move free held signal_open heads_for stands_on sections_in code_of list_below sum_below tables_short
    first weight_row weight_of unknown_row join_row loose_row chain_row longer place_row end_at joined_by joined has_signal legs_of
    train_of with_join with_signal with_closed with_legs with_train any_below all_below is_closed
closed = (refl, refl, refl)

-- ROUND INTO ITS OWN SECTION. A loop: up from 1 a train gets back to 1 over the plus leg, and to 2 over the minus leg. With a table that has the point at plus, which no solver fills
-- in, the report that train 1 has come to 1 counts, and the desk is as it was.
abbrev loop : Railway
loop = line_t 2 Up 2 1 (line_t 1 Up 1 2 (line_j (sec 2 Down) (port 1 Minus) (line_j (sec 1 Down) (port 1 Plus) (line_j (sec 1 Up) (port 1 Stem) (line_p 1 Up (yard_h 2 1 2))))))

-- A PARKED TRAIN. On a line of four sections, with a signal at 2u, train 1 is to go up from 1 to b, and train 2 from 2 to 4. At (2, 1) a table that has train 1 open lets it go on
-- to 3, unless it is parked there, b being 2.
abbrev line : ℕ → Railway
line b =
    line_t 2 Up 2 4
    (line_t 1 Up 1 b
    (line_g (sec 2 Up)
    (line_j (sec 3 Up) (sec 4 Down)
    (line_j (sec 2 Up) (sec 3 Down)
    (line_j (sec 1 Up) (sec 2 Down) (yard_h 4 0 2))))))

abbrev opened : List ℕ
opened = replicate 16 65536

own-ways : (report loop (on_in loop 1 2) (replicate 4 0) (replicate 4 1) 0 0 ≡ says Counted (on_in loop 1 2))
    × (report (line 3) (on_in (line 3) 2 1) opened opened 0 2 ≡ says Counted (on_in (line 3) 3 1))
    × (report (line 2) (on_in (line 2) 2 1) opened opened 0 2 ≡ says twelve (on_in (line 2) 2 1))
unfolding report report_row allows misplaced miscarries arrivals count_below names_none shared at_home occupied passes
    follow setting_at may_move free held signal_open heads_for stands_on sections_in code_of list_below sum_below tables_short
    first weight_row weight_of unknown_row join_row loose_row chain_row longer place_row end_at joined_by joined has_signal legs_of
    train_of with_join with_signal with_legs with_train any_below all_below is_closed
own-ways = (refl, refl, refl)
