-- Case texts and what comes of them, by computation: Yard A looked up entry by entry, one table of texts with their answers, and the
-- writer with its buffer.
-- Assumes nothing.
use mathlib.Core.Path.{◌≡◌, refl}
use mathlib.Core.Bool.{true, false}
use mathlib.Core.List.{List, [], ◌∷◌, ◌++◌, map, flat_map}
use mathlib.Core.Option.{none}
use Prim.Native.Nat.{ℕ}
use Prim.Native.String.{String}
use lib.ListN.{replicate}
use Rattle.laws.specs.Below.{any_below, list_below, gather_below}
use Rattle.laws.specs.Lists.{any, repeats}
use Rattle.text.specs.Text.{digits, line, bytes}
use Rattle.text.specs.Reading.{is_digit, byte_at, digits_at, number_at}
use Rattle.railway.specs.declared.Side.TheVariants.{Up, Down}
use Rattle.railway.specs.declared.Leg.TheVariants.{Stem, Plus, Minus}
use Rattle.railway.specs.declared.End.{End}
use Rattle.railway.specs.declared.End.TheVariants.{Section, Port}
use Rattle.railway.specs.Joined.{Nothing, With}
use Rattle.railway.specs.declared.Railway.{Railway}
use Rattle.railway.specs.declared.Refusal.TheVariants.{Count, Space}
use Rattle.railway.specs.Ends.{end_at}
use Rattle.railway.specs.Refusals.{number, first}
use Rattle.railway.specs.Record.{is_closed, empty_railway, joined_by, joined, has_signal, legs_of, train_of, weight_of}
use Rattle.railway.specs.Rows as R
use Rattle.railway.specs.Rows.{record_refusal}
use Rattle.railway.specs.CaseAnswer.{CaseAnswer, Accepted, Refused}
use Rattle.case_file.specs.Written as W
use Rattle.case_file.specs.Form.{rising, spell}
use Rattle.case_file.specs.Rows.{join_ends, weight_row, unknown_row, join_row, loose_row, double_row, place_row}
use Rattle.case_file.specs.Recording.{partner, railway_of}
use Rattle.case_file.specs.Writing.{description_of, written_text, writer_refusal, written, buffer_after}
use Rattle.case_file.specs.YardTexts.{text_a}
use Rattle.case_file.specs.Reading.{counted, while, side_field_at, leg_field_at, end_field_at, header_at, point_line_at}
use Rattle.case_file.specs.Reading.{join_line_at, signal_line_at, closed_line_at, weight_field_at, train_line_at, walk, read}
use Rattle.case_file.specs.Reading.{case_answer}

-- The number that a text is refused with; 0: it is accepted.
given : CaseAnswer → ℕ
given Accepted = 0
given (Refused f) = number f

-- YARD A, and the record that it is read into, with every value written out.
record_a : Railway
unfolding bytes
record_a = (case_answer (bytes text_a)).railway

abbrev up : ℕ → End
up n = Section (record { 0 = n }) Up

abbrev down : ℕ → End
down n = Section (record { 0 = n }) Down

yard-a : (given (case_answer (bytes text_a)).answer ≡ 0) × (record_refusal record_a ≡ none)
    × ((record_a.sections ≡ 3) × (record_a.points ≡ 1) × (record_a.trains ≡ 2) × (legs_of record_a 0 ≡ Down))
    × (map (joined record_a) (down 0 ∷ up 0 ∷ down 1 ∷ up 1 ∷ down 2 ∷ up 2 ∷ Port (record { 0 = 0 }) Stem ∷ Port (record { 0 = 0 }) Plus ∷ Port (record { 0 = 0 }) Minus ∷ [])
    ≡ Nothing ∷ With (Port (record { 0 = 0 }) Plus) ∷ Nothing ∷ With (Port (record { 0 = 0 }) Minus) ∷ With (Port (record { 0 = 0 }) Stem) ∷ Nothing ∷ With (down 2) ∷ With (up 0) ∷ With (up 1) ∷ [])
    × (map (has_signal record_a) (down 0 ∷ up 0 ∷ down 1 ∷ up 1 ∷ down 2 ∷ up 2 ∷ []) ≡ true ∷ false ∷ false ∷ true ∷ false ∷ false ∷ [])
    × (train_of record_a 0 ≡ record { heading = Up; start = record { 0 = 1 }; destination = record { 0 = 2 }; weight = 1 })
    × (train_of record_a 1 ≡ record { heading = Down; start = record { 0 = 2 }; destination = record { 0 = 0 }; weight = 1 })
unfolding bytes record_a given first digits line is_digit byte_at digits_at number_at counted while side_field_at leg_field_at
    end_field_at header_at point_line_at join_line_at signal_line_at closed_line_at weight_field_at train_line_at walk read case_answer
    any_below list_below any repeats join_ends weight_row weight_of unknown_row join_row loose_row double_row place_row partner
    railway_of end_at joined_by joined has_signal legs_of train_of R.weight_row R.unknown_row R.join_row R.loose_row R.place_row
    record_refusal is_closed R.chain_row R.longer
yard-a = (refl, refl, (refl, refl, refl, refl), refl, refl, refl, refl)

-- THE TABLE of texts, each with the number that it is refused with; 0: it is accepted.
record Case : Type 0 where
  number : ℕ
  text : String

cases : List Case
cases =
    -- Yard A; and with J and G lines in another order, J lines turned round
    record { number = 0; text = "H\t3\t1\t2\nP\t1\td\nJ\t1u\t1+\nJ\t2u\t1-\nJ\t3d\t1s\nG\t1d\nG\t2u\nT\t1\tu\t2\t3\nT\t2\td\t3\t1\n" }
    ∷
    record { number = 0; text = "H\t3\t1\t2\nP\t1\td\nJ\t1s\t3d\nJ\t1-\t2u\nJ\t1u\t1+\nG\t2u\nG\t1d\nT\t1\tu\t2\t3\nT\t2\td\t3\t1\n" }
    ∷
    -- the empty text, a last line without its end, an empty line
    record { number = 2; text = "" }
    ∷
    record { number = 2; text = "H\t3\t1\t2\nP\t1\td\nJ\t1u\t1+\nJ\t2u\t1-\nJ\t3d\t1s\nG\t1d\nG\t2u\nT\t1\tu\t2\t3\nT\t2\td\t3\t1" }
    ∷
    record { number = 2; text = "H\t3\t1\t2\nP\t1\td\nJ\t1u\t1+\nJ\t2u\t1-\nJ\t3d\t1s\nG\t1d\nG\t2u\nT\t1\tu\t2\t3\nT\t2\td\t3\t1\n\n" }
    ∷
    -- a leading zero, four digits, a sign, a blank for a tab, two tabs, a tab behind the last field, byte 13
    record { number = 2; text = "H\t01\t0\t1\nT\t1\tu\t1\t1\n" }
    ∷
    record { number = 2; text = "H\t1000\t0\t1\nT\t1\tu\t1\t1\n" }
    ∷
    record { number = 2; text = "H\t+1\t0\t1\nT\t1\tu\t1\t1\n" }
    ∷
    record { number = 2; text = "H 1 0 1\nT\t1\tu\t1\t1\n" }
    ∷
    record { number = 2; text = "H\t1\t\t0\t1\nT\t1\tu\t1\t1\n" }
    ∷
    record { number = 2; text = "H\t1\t0\t1\t\nT\t1\tu\t1\t1\n" }
    ∷
    record { number = 2; text = "H\t1\t0\t1\r\nT\t1\tu\t1\t1\n" }
    ∷
    -- numbers that do not rise by one from 1
    record { number = 2; text = "H\t1\t1\t1\nP\t2\tu\nT\t1\tu\t1\t1\n" }
    ∷
    record { number = 2; text = "H\t1\t0\t1\nT\t0\tu\t1\t1\n" }
    ∷
    record { number = 2; text = "H\t2\t0\t2\nT\t1\tu\t1\t1\nT\t1\tu\t2\t2\n" }
    ∷
    -- fewer P lines than points, and more; fewer T lines than trains, and more
    record { number = 2; text = "H\t1\t1\t1\nT\t1\tu\t1\t1\n" }
    ∷
    record { number = 2; text = "H\t1\t0\t1\nP\t1\tu\nT\t1\tu\t1\t1\n" }
    ∷
    record { number = 2; text = "H\t1\t0\t1\n" }
    ∷
    record { number = 2; text = "H\t1\t0\t1\nT\t1\tu\t1\t1\nT\t2\tu\t1\t1\n" }
    ∷
    -- a signal at a port; a letter that is none; G before J; a second H line
    record { number = 2; text = "H\t1\t1\t1\nP\t1\tu\nG\t1+\nT\t1\tu\t1\t1\n" }
    ∷
    record { number = 2; text = "H\t1\t0\t1\nG\t1x\nT\t1\tu\t1\t1\n" }
    ∷
    record { number = 2; text = "H\t2\t0\t1\nG\t1u\nJ\t1u\t2d\nT\t1\tu\t1\t1\n" }
    ∷
    record { number = 2; text = "H\t1\t0\t1\nH\t1\t0\t1\nT\t1\tu\t1\t1\n" }
    ∷
    -- counts out of bounds are no fault of form, and one that is comes first
    record { number = 3; text = "H\t0\t0\t0\n" }
    ∷
    record { number = 2; text = "H\t0\t0\t0\nX\n" }
    ∷
    record { number = 3; text = "H\t1\t0\t0\n" }
    ∷
    -- 48 sections and 49, 16 points and 17 (with 16 P lines it is form), 4 trains and 5
    record { number = 0; text = "H\t48\t0\t1\nT\t1\tu\t48\t48\n" }
    ∷
    record { number = 3; text = "H\t49\t0\t1\nT\t1\tu\t1\t1\n" }
    ∷
    record { number = 0; text = "H\t48\t16\t1\nP\t1\tu\nP\t2\tu\nP\t3\tu\nP\t4\tu\nP\t5\tu\nP\t6\tu\nP\t7\tu\nP\t8\tu\nP\t9\tu\nP\t10\tu\nP\t11\tu\nP\t12\tu\nP\t13\tu\nP\t14\tu\nP\t15\tu\nP\t16\tu\nJ\t1u\t1s\nJ\t2u\t2s\nJ\t3u\t3s\nJ\t4u\t4s\nJ\t5u\t5s\nJ\t6u\t6s\nJ\t7u\t7s\nJ\t8u\t8s\nJ\t9u\t9s\nJ\t10u\t10s\nJ\t11u\t11s\nJ\t12u\t12s\nJ\t13u\t13s\nJ\t14u\t14s\nJ\t15u\t15s\nJ\t16u\t16s\nJ\t17d\t1+\nJ\t18d\t2+\nJ\t19d\t3+\nJ\t20d\t4+\nJ\t21d\t5+\nJ\t22d\t6+\nJ\t23d\t7+\nJ\t24d\t8+\nJ\t25d\t9+\nJ\t26d\t10+\nJ\t27d\t11+\nJ\t28d\t12+\nJ\t29d\t13+\nJ\t30d\t14+\nJ\t31d\t15+\nJ\t32d\t16+\nJ\t33d\t1-\nJ\t34d\t2-\nJ\t35d\t3-\nJ\t36d\t4-\nJ\t37d\t5-\nJ\t38d\t6-\nJ\t39d\t7-\nJ\t40d\t8-\nJ\t41d\t9-\nJ\t42d\t10-\nJ\t43d\t11-\nJ\t44d\t12-\nJ\t45d\t13-\nJ\t46d\t14-\nJ\t47d\t15-\nJ\t48d\t16-\nT\t1\tu\t1\t1\n" }
    ∷
    record { number = 3; text = "H\t1\t17\t1\nP\t1\tu\nP\t2\tu\nP\t3\tu\nP\t4\tu\nP\t5\tu\nP\t6\tu\nP\t7\tu\nP\t8\tu\nP\t9\tu\nP\t10\tu\nP\t11\tu\nP\t12\tu\nP\t13\tu\nP\t14\tu\nP\t15\tu\nP\t16\tu\nP\t17\tu\nT\t1\tu\t1\t1\n" }
    ∷
    record { number = 2; text = "H\t1\t17\t1\nP\t1\tu\nP\t2\tu\nP\t3\tu\nP\t4\tu\nP\t5\tu\nP\t6\tu\nP\t7\tu\nP\t8\tu\nP\t9\tu\nP\t10\tu\nP\t11\tu\nP\t12\tu\nP\t13\tu\nP\t14\tu\nP\t15\tu\nP\t16\tu\nT\t1\tu\t1\t1\n" }
    ∷
    record { number = 0; text = "H\t4\t0\t4\nT\t1\tu\t1\t1\nT\t2\tu\t2\t2\nT\t3\tu\t3\t3\nT\t4\tu\t4\t4\n" }
    ∷
    record { number = 3; text = "H\t5\t0\t5\nT\t1\tu\t1\t1\nT\t2\tu\t2\t2\nT\t3\tu\t3\t3\nT\t4\tu\t4\t4\nT\t5\tu\t5\t5\n" }
    ∷
    -- unknown sections and points: beyond the count, and 0, in each kind of line
    record { number = 4; text = "H\t1\t0\t1\nG\t2u\nT\t1\tu\t1\t1\n" }
    ∷
    record { number = 4; text = "H\t1\t0\t1\nG\t0d\nT\t1\tu\t1\t1\n" }
    ∷
    record { number = 4; text = "H\t2\t0\t1\nJ\t1u\t3d\nT\t1\tu\t1\t1\n" }
    ∷
    record { number = 4; text = "H\t2\t0\t1\nJ\t0u\t2d\nT\t1\tu\t1\t1\n" }
    ∷
    record { number = 4; text = "H\t1\t1\t1\nP\t1\tu\nJ\t1u\t0+\nT\t1\tu\t1\t1\n" }
    ∷
    record { number = 4; text = "H\t1\t0\t1\nT\t1\tu\t0\t1\n" }
    ∷
    record { number = 4; text = "H\t1\t0\t1\nT\t1\tu\t1\t0\n" }
    ∷
    record { number = 4; text = "H\t1\t0\t1\nT\t1\tu\t1\t2\n" }
    ∷
    -- with no points, 1+ is unknown, and no wrong or loose join
    record { number = 4; text = "H\t1\t0\t1\nJ\t1u\t1+\nT\t1\tu\t1\t1\n" }
    ∷
    -- 1u with 1d, 1u with 2u, an end with itself; ports of one point, a port with itself, two ports of the same side
    record { number = 5; text = "H\t2\t0\t1\nJ\t1u\t1d\nT\t1\tu\t1\t1\n" }
    ∷
    record { number = 5; text = "H\t2\t0\t1\nJ\t1u\t2u\nT\t1\tu\t1\t1\n" }
    ∷
    record { number = 5; text = "H\t2\t0\t1\nJ\t1u\t1u\nT\t1\tu\t1\t1\n" }
    ∷
    record { number = 5; text = "H\t1\t1\t1\nP\t1\tu\nJ\t1s\t1+\nT\t1\tu\t1\t1\n" }
    ∷
    record { number = 5; text = "H\t1\t1\t1\nP\t1\tu\nJ\t1-\t1-\nT\t1\tu\t1\t1\n" }
    ∷
    record { number = 5; text = "H\t1\t2\t1\nP\t1\tu\nP\t2\tu\nJ\t1+\t2+\nT\t1\tu\t1\t1\n" }
    ∷
    record { number = 5; text = "H\t1\t2\t1\nP\t1\tu\nP\t2\td\nJ\t2+\t1s\nT\t1\tu\t1\t1\n" }
    ∷
    -- ports of two points, side against side: no fault of theirs, where other ports are loose; two points in a row; a crossover
    record { number = 6; text = "H\t1\t2\t1\nP\t1\tu\nP\t2\tu\nJ\t1s\t2+\nT\t1\tu\t1\t1\n" }
    ∷
    record { number = 0; text = "H\t4\t2\t1\nP\t1\tu\nP\t2\tu\nJ\t1u\t2s\nJ\t2d\t2-\nJ\t3d\t1+\nJ\t4d\t1-\nJ\t1s\t2+\nT\t1\tu\t1\t1\n" }
    ∷
    record { number = 0; text = "H\t4\t2\t1\nP\t1\tu\nP\t2\td\nJ\t1u\t1s\nJ\t2d\t1+\nJ\t3u\t2+\nJ\t4d\t2s\nJ\t2-\t1-\nT\t1\tu\t1\t4\n" }
    ∷
    -- four points in a row, and five
    record { number = 0; text = "H\t6\t4\t1\nP\t1\tu\nP\t2\tu\nP\t3\tu\nP\t4\tu\nJ\t1u\t1s\nJ\t2d\t1-\nJ\t3d\t2-\nJ\t4d\t3-\nJ\t5d\t4-\nJ\t6d\t4+\nJ\t1+\t2s\nJ\t2+\t3s\nJ\t3+\t4s\nT\t1\tu\t1\t1\n" }
    ∷
    record { number = 13; text = "H\t7\t5\t1\nP\t1\tu\nP\t2\tu\nP\t3\tu\nP\t4\tu\nP\t5\tu\nJ\t1u\t1s\nJ\t2d\t1-\nJ\t3d\t2-\nJ\t4d\t3-\nJ\t5d\t4-\nJ\t6d\t5-\nJ\t7d\t5+\nJ\t1+\t2s\nJ\t2+\t3s\nJ\t3+\t4s\nJ\t4+\t5s\nT\t1\tu\t1\t1\n" }
    ∷
    -- a round of two points
    record { number = 13; text = "H\t2\t2\t1\nP\t1\tu\nP\t2\tu\nJ\t1d\t1-\nJ\t2d\t2-\nJ\t1s\t2+\nJ\t1+\t2s\nT\t1\tu\t1\t1\n" }
    ∷
    -- an end in two joins; a join said twice, and turned round
    record { number = 5; text = "H\t3\t0\t1\nJ\t1u\t2d\nJ\t3d\t1u\nT\t1\tu\t1\t1\n" }
    ∷
    record { number = 5; text = "H\t2\t0\t1\nJ\t1u\t2d\nJ\t1u\t2d\nT\t1\tu\t1\t1\n" }
    ∷
    record { number = 5; text = "H\t2\t0\t1\nJ\t1u\t2d\nJ\t2d\t1u\nT\t1\tu\t1\t1\n" }
    ∷
    -- joins at a stem and at legs, by the side that each lies on
    record { number = 0; text = "H\t3\t1\t1\nP\t1\tu\nJ\t1u\t1s\nJ\t2d\t1+\nJ\t3d\t1-\nT\t1\tu\t1\t1\n" }
    ∷
    record { number = 5; text = "H\t3\t1\t1\nP\t1\tu\nJ\t1d\t1s\nJ\t2d\t1+\nJ\t3d\t1-\nT\t1\tu\t1\t1\n" }
    ∷
    record { number = 5; text = "H\t3\t1\t1\nP\t1\tu\nJ\t1u\t1s\nJ\t2u\t1+\nJ\t3d\t1-\nT\t1\tu\t1\t1\n" }
    ∷
    record { number = 5; text = "H\t3\t1\t1\nP\t1\tu\nJ\t1u\t1s\nJ\t2d\t1+\nJ\t3u\t1-\nT\t1\tu\t1\t1\n" }
    ∷
    record { number = 0; text = "H\t3\t1\t1\nP\t1\td\nJ\t1d\t1s\nJ\t2u\t1+\nJ\t3u\t1-\nT\t1\tu\t1\t1\n" }
    ∷
    record { number = 5; text = "H\t3\t1\t1\nP\t1\td\nJ\t1u\t1s\nJ\t2u\t1+\nJ\t3u\t1-\nT\t1\tu\t1\t1\n" }
    ∷
    record { number = 5; text = "H\t3\t1\t1\nP\t1\td\nJ\t1d\t1s\nJ\t2d\t1+\nJ\t3u\t1-\nT\t1\tu\t1\t1\n" }
    ∷
    record { number = 5; text = "H\t3\t1\t1\nP\t1\td\nJ\t1d\t1s\nJ\t2u\t1+\nJ\t3d\t1-\nT\t1\tu\t1\t1\n" }
    ∷
    -- a port in no join, each of the three
    record { number = 6; text = "H\t3\t1\t1\nP\t1\td\nJ\t1u\t1+\nJ\t2u\t1-\nT\t1\tu\t1\t1\n" }
    ∷
    record { number = 6; text = "H\t3\t1\t1\nP\t1\td\nJ\t1u\t1+\nJ\t3d\t1s\nT\t1\tu\t1\t1\n" }
    ∷
    record { number = 6; text = "H\t3\t1\t1\nP\t1\td\nJ\t2u\t1-\nJ\t3d\t1s\nT\t1\tu\t1\t1\n" }
    ∷
    -- a signal named twice
    record { number = 7; text = "H\t1\t0\t1\nG\t1u\nG\t1d\nG\t1u\nT\t1\tu\t1\t1\n" }
    ∷
    -- two trains share a start; two share a destination; to start where somebody shall end is no fault
    record { number = 8; text = "H\t2\t0\t2\nT\t1\tu\t1\t1\nT\t2\tu\t1\t2\n" }
    ∷
    record { number = 8; text = "H\t2\t0\t2\nT\t1\tu\t1\t2\nT\t2\tu\t2\t2\n" }
    ∷
    record { number = 0; text = "H\t2\t0\t2\nT\t1\tu\t1\t2\nT\t2\td\t2\t1\n" }
    ∷
    -- closed sections, in any order; X behind T, X before G; a side, a zero in front, no number, four digits, a second number
    record { number = 0; text = "H\t3\t0\t1\nG\t2u\nX\t3\nX\t2\nT\t1\tu\t1\t1\n" }
    ∷
    record { number = 2; text = "H\t3\t0\t1\nT\t1\tu\t1\t1\nX\t2\n" }
    ∷
    record { number = 2; text = "H\t3\t0\t1\nX\t2\nG\t1u\nT\t1\tu\t1\t1\n" }
    ∷
    record { number = 2; text = "H\t3\t0\t1\nX\t3u\nT\t1\tu\t1\t1\n" }
    ∷
    record { number = 2; text = "H\t3\t0\t1\nX\t03\nT\t1\tu\t1\t1\n" }
    ∷
    record { number = 2; text = "H\t3\t0\t1\nX\t\nT\t1\tu\t1\t1\n" }
    ∷
    record { number = 2; text = "H\t3\t0\t1\nX\t1000\nT\t1\tu\t1\t1\n" }
    ∷
    record { number = 2; text = "H\t3\t0\t1\nX\t2\t3\nT\t1\tu\t1\t1\n" }
    ∷
    -- one that is not there, one named twice, one under a start, one under a destination
    record { number = 4; text = "H\t3\t0\t1\nX\t0\nT\t1\tu\t1\t1\n" }
    ∷
    record { number = 4; text = "H\t3\t0\t1\nX\t4\nT\t1\tu\t1\t1\n" }
    ∷
    record { number = 7; text = "H\t3\t0\t1\nX\t2\nX\t3\nX\t2\nT\t1\tu\t1\t1\n" }
    ∷
    record { number = 8; text = "H\t3\t0\t1\nX\t2\nT\t1\tu\t2\t1\n" }
    ∷
    record { number = 8; text = "H\t3\t0\t1\nX\t2\nT\t1\tu\t1\t2\n" }
    ∷
    -- named twice and not there is 4, named twice under a start is 7
    record { number = 4; text = "H\t3\t0\t1\nX\t4\nX\t4\nT\t1\tu\t1\t1\n" }
    ∷
    record { number = 7; text = "H\t3\t0\t1\nX\t1\nX\t1\nT\t1\tu\t1\t1\n" }
    ∷
    -- a weight: none, 1 and 255; 0, 256 and 999; a zero in front, four digits, no number, a second one, a tab behind it; of the second train
    record { number = 0; text = "H\t1\t0\t1\nT\t1\tu\t1\t1\n" }
    ∷
    record { number = 0; text = "H\t1\t0\t1\nT\t1\tu\t1\t1\t1\n" }
    ∷
    record { number = 0; text = "H\t1\t0\t1\nT\t1\tu\t1\t1\t255\n" }
    ∷
    record { number = 16; text = "H\t1\t0\t1\nT\t1\tu\t1\t1\t0\n" }
    ∷
    record { number = 16; text = "H\t1\t0\t1\nT\t1\tu\t1\t1\t256\n" }
    ∷
    record { number = 16; text = "H\t1\t0\t1\nT\t1\tu\t1\t1\t999\n" }
    ∷
    record { number = 2; text = "H\t1\t0\t1\nT\t1\tu\t1\t1\t01\n" }
    ∷
    record { number = 2; text = "H\t1\t0\t1\nT\t1\tu\t1\t1\t1000\n" }
    ∷
    record { number = 2; text = "H\t1\t0\t1\nT\t1\tu\t1\t1\t\n" }
    ∷
    record { number = 2; text = "H\t1\t0\t1\nT\t1\tu\t1\t1\t1\t1\n" }
    ∷
    record { number = 2; text = "H\t1\t0\t1\nT\t1\tu\t1\t1\t7\t\n" }
    ∷
    record { number = 16; text = "H\t2\t0\t2\nT\t1\tu\t1\t1\t7\nT\t2\tu\t2\t2\t0\n" }
    ∷
    -- with a count out of bounds it is 3, with a section that is not there 16: in the same line, and where a line before it names that section
    record { number = 3; text = "H\t49\t0\t1\nT\t1\tu\t1\t1\t0\n" }
    ∷
    record { number = 16; text = "H\t1\t0\t1\nT\t1\tu\t2\t1\t256\n" }
    ∷
    record { number = 16; text = "H\t2\t0\t2\nG\t3u\nT\t1\tu\t3\t1\nT\t2\tu\t2\t2\t0\n" }
    ∷
    -- of two rows that apply the first is given: 3 and 4, 4 and 5, 5 and 6, 6 and 7, 7 and 8; 13 with a loose port elsewhere, and with a signal named twice
    record { number = 3; text = "H\t49\t0\t1\nG\t50u\nT\t1\tu\t1\t1\n" }
    ∷
    record { number = 4; text = "H\t2\t0\t1\nJ\t1u\t1d\nG\t3u\nT\t1\tu\t1\t1\n" }
    ∷
    record { number = 5; text = "H\t3\t1\t1\nP\t1\td\nJ\t1d\t1+\nT\t1\tu\t1\t1\n" }
    ∷
    record { number = 6; text = "H\t3\t1\t1\nP\t1\td\nG\t1u\nG\t1u\nT\t1\tu\t1\t1\n" }
    ∷
    record { number = 7; text = "H\t2\t0\t2\nG\t1u\nG\t1u\nT\t1\tu\t1\t2\nT\t2\tu\t1\t2\n" }
    ∷
    record { number = 6; text = "H\t2\t2\t1\nP\t1\tu\nP\t2\tu\nJ\t1d\t1-\nJ\t1s\t2+\nJ\t1+\t2s\nT\t1\tu\t1\t1\n" }
    ∷
    record { number = 13; text = "H\t2\t2\t1\nP\t1\tu\nP\t2\tu\nJ\t1d\t1-\nJ\t2d\t2-\nJ\t1s\t2+\nJ\t1+\t2s\nG\t1u\nG\t1u\nT\t1\tu\t1\t1\n" }
    ∷
    []

numbers : map (λ c. given (case_answer (bytes c.text)).answer) cases ≡ map (λ c. c.number) cases
unfolding bytes given cases first digits line is_digit byte_at digits_at number_at counted while side_field_at leg_field_at
    end_field_at header_at point_line_at join_line_at signal_line_at closed_line_at weight_field_at train_line_at walk read case_answer
    any_below list_below any repeats join_ends weight_row unknown_row join_row loose_row double_row place_row is_closed partner
    railway_of end_at joined_by joined R.chain_row R.longer
numbers = refl

-- byte 13 is what stands in the table above as such
return : bytes "\r" ≡ 13 ∷ []
unfolding bytes
return = refl

-- THE WRITER. Yard A's text has 68 bytes: a buffer of 68 takes it, the end of one of 70 is kept, and 67 bytes are too few. A record that is refused
-- is so for its own fault, however short the buffer.
writes : (written record_a (replicate 68 7) ≡ W.Bytes 68) × (buffer_after record_a (replicate 68 7) ≡ bytes text_a)
    × (written record_a (replicate 70 7) ≡ W.Bytes 68) × (buffer_after record_a (replicate 70 7) ≡ bytes text_a ++ (7 ∷ 7 ∷ []))
    × (written record_a (replicate 67 7) ≡ W.Refused Space) × (buffer_after record_a (replicate 67 7) ≡ replicate 67 7)
    × (written empty_railway [] ≡ W.Refused Count) × (buffer_after empty_railway (1 ∷ 2 ∷ []) ≡ 1 ∷ 2 ∷ [])
unfolding bytes record_a first digits line is_digit byte_at digits_at number_at counted while side_field_at leg_field_at
    end_field_at header_at point_line_at join_line_at signal_line_at closed_line_at weight_field_at train_line_at walk read case_answer
    any_below list_below gather_below any repeats join_ends weight_row weight_of unknown_row join_row loose_row double_row
    place_row partner railway_of end_at joined_by joined has_signal legs_of train_of R.weight_row R.unknown_row R.join_row
    R.loose_row R.place_row record_refusal flat_map rising spell description_of written_text writer_refusal written buffer_after
    is_closed R.chain_row R.longer
writes = (refl, refl, refl, refl, refl, refl, refl, refl)

-- WEIGHTS. Without one the train has 1, as with 1 written; 7 and 255 are read as they stand.
weighed : map (λ t. weight_of (case_answer (bytes t)).railway 0) ("H\t1\t0\t1\nT\t1\tu\t1\t1\n"
    ∷ "H\t1\t0\t1\nT\t1\tu\t1\t1\t1\n" ∷ "H\t1\t0\t1\nT\t1\tu\t1\t1\t7\n" ∷ "H\t1\t0\t1\nT\t1\tu\t1\t1\t255\n" ∷ [])
    ≡ 1 ∷ 1 ∷ 7 ∷ 255 ∷ []
unfolding bytes first digits line is_digit byte_at digits_at number_at counted while side_field_at leg_field_at end_field_at
    header_at point_line_at join_line_at signal_line_at closed_line_at weight_field_at train_line_at walk read case_answer any_below
    list_below any repeats join_ends weight_row unknown_row join_row loose_row double_row place_row is_closed partner railway_of
    end_at joined_by joined R.chain_row R.longer train_of weight_of
weighed = refl

-- A weight of 1 is not written, any other is.
weights-written : map (λ t. written_text (case_answer (bytes t)).railway)
    ("H\t1\t0\t1\nT\t1\tu\t1\t1\t1\n" ∷ "H\t1\t0\t1\nT\t1\tu\t1\t1\t7\n" ∷ "H\t1\t0\t1\nT\t1\tu\t1\t1\t255\n" ∷ [])
    ≡ map bytes
    ("H\t1\t0\t1\nT\t1\tu\t1\t1\n" ∷ "H\t1\t0\t1\nT\t1\tu\t1\t1\t7\n" ∷ "H\t1\t0\t1\nT\t1\tu\t1\t1\t255\n" ∷ [])
unfolding bytes first digits line is_digit byte_at digits_at number_at counted while side_field_at leg_field_at end_field_at
    header_at point_line_at join_line_at signal_line_at closed_line_at weight_field_at train_line_at walk read case_answer any_below
    list_below any repeats join_ends weight_row unknown_row join_row loose_row double_row place_row is_closed partner railway_of
    end_at joined_by joined R.chain_row R.longer gather_below has_signal legs_of train_of flat_map rising spell
    description_of written_text
weights-written = refl

-- Lines that come in disorder and turned round are written in the one order that the writer knows.
sorts : written_text (case_answer (bytes "H\t5\t1\t1\nP\t1\tu\nJ\t1s\t3u\nJ\t1-\t1d\nJ\t2d\t1u\nJ\t3d\t1+\nG\t2u\nG\t1u\nG\t1d\nX\t5\nX\t1\nX\t4\nT\t1\td\t3\t2\n")).railway
    ≡ bytes "H\t5\t1\t1\nP\t1\tu\nJ\t1d\t1-\nJ\t1u\t2d\nJ\t3d\t1+\nJ\t3u\t1s\nG\t1d\nG\t1u\nG\t2u\nX\t1\nX\t4\nX\t5\nT\t1\td\t3\t2\n"
unfolding bytes first digits line is_digit byte_at digits_at number_at counted while side_field_at leg_field_at end_field_at
    header_at point_line_at join_line_at signal_line_at closed_line_at weight_field_at train_line_at walk read case_answer any_below
    list_below gather_below any repeats join_ends weight_row weight_of unknown_row join_row loose_row double_row place_row partner
    railway_of end_at joined_by joined has_signal legs_of train_of flat_map rising spell description_of written_text
    is_closed R.chain_row R.longer
sorts = refl

-- Joins between points come last, each with its lower point in front; they rise by that point, and of one point by stem, plus and minus.
sorts-points : written_text (case_answer (bytes "H\t7\t5\t1\nP\t1\tu\nP\t2\tu\nP\t3\tu\nP\t4\tu\nP\t5\tu\nJ\t5s\t2+\nJ\t2s\t1-\nJ\t3s\t1+\nJ\t4+\t1s\nJ\t5-\t7d\nJ\t6d\t5+\nJ\t5d\t2-\nJ\t4d\t3-\nJ\t3d\t3+\nJ\t2d\t4-\nJ\t1u\t4s\nT\t1\tu\t1\t2\n")).railway
    ≡ bytes "H\t7\t5\t1\nP\t1\tu\nP\t2\tu\nP\t3\tu\nP\t4\tu\nP\t5\tu\nJ\t1u\t4s\nJ\t2d\t4-\nJ\t3d\t3+\nJ\t4d\t3-\nJ\t5d\t2-\nJ\t6d\t5+\nJ\t7d\t5-\nJ\t1s\t4+\nJ\t1+\t3s\nJ\t1-\t2s\nJ\t2+\t5s\nT\t1\tu\t1\t2\n"
unfolding bytes first digits line is_digit byte_at digits_at number_at counted while side_field_at leg_field_at end_field_at
    header_at point_line_at join_line_at signal_line_at closed_line_at weight_field_at train_line_at walk read case_answer any_below
    list_below gather_below any repeats join_ends weight_row weight_of unknown_row join_row loose_row double_row place_row partner
    railway_of end_at joined_by joined has_signal legs_of train_of flat_map rising spell description_of written_text
    is_closed R.chain_row R.longer
sorts-points = refl
