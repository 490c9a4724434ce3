-- The yards are what their case texts say: each text's answer is computed, and a text that is answered as accepted is one. Assumes nothing.
use mathlib.Core.Path.{◌≡◌, refl}
use mathlib.Core.List.{List, [], ◌∷◌}
use Rattle.laws.specs.Below.{any_below, list_below}
use Rattle.laws.specs.Lists.{any, repeats}
use Rattle.text.specs.Text.{digits, line, bytes}
use Rattle.text.specs.Reading.{is_digit, byte_at, digits_at, number_at}
use Rattle.railway.specs.Ends.{end_at}
use Rattle.railway.specs.Refusals.{first}
use Rattle.railway.specs.Record.{is_closed, joined_by, joined, with_join, with_signal, with_legs, with_train}
use Rattle.railway.specs.Rows.{longer, chain_row}
use Rattle.case_file.specs.Rows.{join_ends, weight_row, unknown_row, join_row, loose_row, double_row, place_row}
use Rattle.case_file.specs.Recording.{partner, railway_of}
use Rattle.case_file.specs.Given.{accepted}
use Rattle.case_file.specs.Reading.{counted, while, side_field_at, leg_field_at, end_field_at, header_at, point_line_at}
use Rattle.case_file.specs.Reading.{join_line_at, signal_line_at, closed_line_at, weight_field_at, train_line_at, walk, read}
use Rattle.case_file.specs.Reading.{case_answer}
use Rattle.case_file.specs.YardTexts.{YardText, yard_texts, AllAccepted, YardsAccepted}
use Rattle.case_file.proofs.Given.{accepted-exactly}

-- each text answered as accepted, with its yard
abbrev AllAnswered : List YardText → Type 0
AllAnswered [] = Unit {0}
AllAnswered (x ∷ xs) = (case_answer (bytes x.text) ≡ accepted x.yard) × AllAnswered xs

all-answered : AllAnswered yard_texts
unfolding yard_texts bytes first digits line is_digit byte_at digits_at number_at counted while side_field_at leg_field_at
    end_field_at header_at point_line_at join_line_at signal_line_at closed_line_at weight_field_at train_line_at walk read case_answer
    any_below list_below any repeats join_ends weight_row unknown_row join_row loose_row double_row place_row partner railway_of
    end_at with_join with_signal with_legs with_train is_closed joined_by joined longer chain_row
all-answered = (refl, (refl, (refl, (refl, (refl, (refl, (refl, (refl, tt))))))))

each-accepted : (xs : List YardText) → AllAnswered xs → AllAccepted xs
each-accepted [] h = tt
each-accepted (x ∷ xs) h = ((accepted-exactly (bytes x.text) x.yard).0 h.0, each-accepted xs h.1)

pub yards-accepted : YardsAccepted
yards-accepted = each-accepted yard_texts all-answered
