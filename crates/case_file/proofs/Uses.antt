-- What the statements on the case file are for: facts of yards and byte texts, drawn from them alone. Nothing rests on these; they hold the
-- statements fast, for without one, or with a weaker one in its place, its fact is lost.
-- Assumes nothing.
use mathlib.Core.Path.{◌≡◌, refl, sym, ◌∙◌, ap}
use mathlib.Core.Bool.{true, false}
use mathlib.Core.Logic.{◌↔◌, ◌⊎◌, inr}
use mathlib.Core.List.{List, [], ◌∷◌, ◌++◌, flat_map, Memᴰ}
use mathlib.Core.Option.{Option, none, some}
use Prim.Native.Nat.{ℕ, zero, suc, ◌<◌, ◌≤◌}
use Prim.Native.String.{String}
use native.Mathlib.Omega.{arith}
use lib.ListN.{length, get_or, take, replicate, length-replicate}
use lib.Seq.{take-append_seam}
use Rattle.laws.specs.Below.{any_below, list_below, gather_below}
use Rattle.laws.specs.Lists.{any, repeats, rises}
use Rattle.laws.proofs.Bools.{clash}
use Rattle.text.specs.Text.{digits, line, bytes}
use Rattle.text.specs.Reading.{is_digit, byte_at, digits_at, number_at}
use Rattle.railway.specs.declared.Side.TheVariants.{Up, Down}
use Rattle.railway.specs.declared.Leg.TheVariants.{Stem, Plus, Minus}
use Rattle.railway.specs.declared.End.TheVariants.{Section}
use Rattle.railway.specs.Joined.{With}
use Rattle.railway.specs.declared.Train.{Train}
use Rattle.railway.specs.declared.Railway.{Railway}
use Rattle.railway.specs.declared.Refusal.TheVariants.{Length, Weight, Chain, Place}
use Rattle.railway.specs.Ends.{end_at}
use Rattle.railway.specs.Refusals.{first}
use Rattle.railway.specs.Record.{is_closed, link_at, flag_at, closed_at, joined_by, joined, has_signal, legs_of, train_of, weight_of, with_join, with_signal, with_closed, with_legs, with_train}
use Rattle.railway.specs.Rows.{wrong_weight, weight_row, unknown_row, join_row, loose_row, longer, chain_row, place_row, record_refusal}
use Rattle.railway.specs.Chains.{left_by, LongWay, Round}
use Rattle.railway.specs.Same.{SameRailway}
use Rattle.railway.specs.Yards.{yard_a, yard_h, line_p, line_j, line_t, line_tw, sec, port as portOf}
use Rattle.railway.proofs.Same.{same-sym}
use Rattle.case_file.specs.Form.{section, port, JoinLine, SignalLine, Description, said_weight, rising, spell, Describes}
use Rattle.case_file.specs.Rows.{FormRow, join_ends}
use Rattle.case_file.specs.Rows as D
use Rattle.case_file.specs.Recording.{no_train_line, partner, railway_of}
use Rattle.case_file.specs.Given.{accepted, refused, RefusedWith, AcceptedWith}
use Rattle.case_file.specs.Writing.{description_of, written_text}
use Rattle.case_file.specs.YardTexts.{text_a}
use Rattle.case_file.specs.Reading.{counted, while, side_field_at, leg_field_at, end_field_at, header_at, point_line_at}
use Rattle.case_file.specs.Reading.{join_line_at, signal_line_at, closed_line_at, weight_field_at, train_line_at, walk, read}
use Rattle.case_file.specs.Reading.{case_answer}
use Rattle.case_file.specs.Claims.{JoinableLines, Joins, Signals, AsDescribed, Sorted}
use Rattle.case_file.proofs.Reading.{read-is-spelling, describes-one, form-decided}
use Rattle.case_file.proofs.Given.{refused-exactly, accepted-exactly}
use Rattle.case_file.proofs.Longest.{long, long-described, lengths}
use Rattle.case_file.proofs.Cut.{cut-decides}
use Rattle.case_file.proofs.Recording.{read-as-described}
use Rattle.case_file.proofs.Claims.{written-as-described, same-refusal, same-text, text_same}
use Rattle.case_file.proofs.Order.{writer-sorts}
use Rattle.case_file.proofs.Chained.{chain-given}

-- WHAT YARD A'S TEXT SAYS, but for the order of its J and G lines
abbrev pub saying_a : List JoinLine → List SignalLine → List ℕ → Description
saying_a joins signals closed =
    record {
      sections = 3;
      points = 1;
      trains = 2;
      legs = Down ∷ [];
      joins = joins;
      signals = signals;
      closed = closed;
      roster = record { heading = Up; start = 2; destination = 3; weight = none } ∷ record { heading = Down; start = 3; destination = 1; weight = none } ∷ [];
    }

abbrev join_plus : JoinLine
join_plus = record { one = section 1 Up; other = port 1 Plus }

abbrev join_minus : JoinLine
join_minus = record { one = section 2 Up; other = port 1 Minus }

abbrev join_stem : JoinLine
join_stem = record { one = section 3 Down; other = port 1 Stem }

abbrev signal1d : SignalLine
signal1d = record { number = 1; side = Down }

abbrev signal2u : SignalLine
signal2u = record { number = 2; side = Up }

abbrev pub description_a : Description
description_a = saying_a (join_plus ∷ join_minus ∷ join_stem ∷ []) (signal1d ∷ signal2u ∷ []) []

-- What is read is what is spelled: so Yard A's text says this,
pub says-a : Describes (bytes text_a) description_a
unfolding bytes digits line is_digit byte_at digits_at number_at counted while side_field_at leg_field_at end_field_at header_at
    point_line_at join_line_at signal_line_at closed_line_at weight_field_at train_line_at walk read
says-a = (read-is-spelling (bytes text_a) description_a).0 refl

-- and nothing else;
pub says-a-only : (d : Description) → Describes (bytes text_a) d → d ≡ description_a
says-a-only d w = describes-one (bytes text_a) d description_a w says-a

-- and what is spelled is read, as in a text of 4,096 bytes, line for line.
longest-read : read (spell (long 813 2)) ≡ some (long 813 2)
longest-read = (read-is-spelling (spell (long 813 2)) (long 813 2)).1 (long-described 813 2)

-- A text whose last byte is missing says nothing; and where nothing is said, as in the empty text, nothing is read.
end-missing : FormRow (bytes "H\t1\t0\t1\nT\t1\tu\t1\t1")
unfolding bytes digits line is_digit byte_at digits_at number_at counted while side_field_at header_at point_line_at join_line_at signal_line_at closed_line_at weight_field_at train_line_at walk read
end-missing = (form-decided (bytes "H\t1\t0\t1\nT\t1\tu\t1\t1")).0 refl

not-empty : (x : ℕ) (xs : List ℕ) → x ∷ xs ≡ [] → ⊥
not-empty x xs e = let z : suc (length xs) ≡ 0 = ap length e in omega (arith, z)

pub nothing_said : FormRow []
unfolding spell line
nothing_said d w = not-empty _ _ w.spelling

nothing_read : read [] ≡ none
nothing_read = (form-decided []).1 nothing_said

-- TOO LONG. What follows 4,097 bytes changes nothing: it is 1.
cut-front : (x rest : List ℕ) (n : ℕ) → length x ≡ n → take n (x ++ rest) ≡ x
cut-front x rest n e = rw (← e) (take-append_seam x rest)

refused-anyway : (rest : List ℕ) → case_answer (replicate 4097 0 ++ rest) ≡ refused Length
refused-anyway rest =
    sym (cut-decides (replicate 4097 0 ++ rest) 4097 (omega arith))
    ∙ ap case_answer (cut-front (replicate 4097 0) rest 4097 (length-replicate {A = ℕ} 4097 0))
    ∙ lengths.5

-- WRITTEN. Yard A's record is written as its text,
pub written-a : (written_text yard_a ≡ bytes text_a) × (record_refusal yard_a ≡ none)
unfolding bytes first digits line any_below list_below gather_below end_at joined_by joined legs_of train_of with_join
    with_signal with_legs with_train weight_row weight_of unknown_row join_row loose_row longer chain_row place_row record_refusal
    flat_map rising spell description_of written_text is_closed
written-a = (refl, refl)

-- in which a G line names 1d, where it has a signal.
signal-written : (d : Description) → Describes (written_text yard_a) d → Signals d.signals (Section (record { 0 = 0 }) Down)
unfolding has_signal with_join with_signal with_legs with_train
signal-written d w =
    let t = written-as-described yard_a written-a.1 in
    rw (describes-one (written_text yard_a) d t.0 w t.1) ((t.2.signals (Section (record { 0 = 0 }) Down)).0 refl)

-- SORTED. No record is written with the signal at 2u before that at 1d, with the join at 2u before that at 1u, or with a port in front.
unsorted : (text : List ℕ) (d : Description) → Describes text d → (Sorted d → ⊥) → (r : Railway) → record_refusal r ≡ none → written_text r ≡ text → ⊥
unsorted text d w h r accepted e = h (writer-sorts r accepted d (rw e w))

signals-turned : (r : Railway) → record_refusal r ≡ none
    → written_text r ≡ bytes "H\t3\t1\t2\nP\t1\td\nJ\t1u\t1+\nJ\t2u\t1-\nJ\t3d\t1s\nG\t2u\nG\t1d\nT\t1\tu\t2\t3\nT\t2\td\t3\t1\n" → ⊥
unfolding bytes digits line is_digit byte_at digits_at number_at counted while side_field_at leg_field_at end_field_at header_at
    point_line_at join_line_at signal_line_at closed_line_at weight_field_at train_line_at walk read rises
signals-turned =
    let d = saying_a (join_plus ∷ join_minus ∷ join_stem ∷ []) (signal2u ∷ signal1d ∷ []) [] in
    unsorted _ d ((read-is-spelling _ d).0 refl) (λ s. clash s.signals refl)

joins-turned : (r : Railway) → record_refusal r ≡ none
    → written_text r ≡ bytes "H\t3\t1\t2\nP\t1\td\nJ\t2u\t1-\nJ\t1u\t1+\nJ\t3d\t1s\nG\t1d\nG\t2u\nT\t1\tu\t2\t3\nT\t2\td\t3\t1\n" → ⊥
unfolding bytes digits line is_digit byte_at digits_at number_at counted while side_field_at leg_field_at end_field_at header_at
    point_line_at join_line_at signal_line_at closed_line_at weight_field_at train_line_at walk read rises
joins-turned =
    let d = saying_a (join_minus ∷ join_plus ∷ join_stem ∷ []) (signal1d ∷ signal2u ∷ []) [] in
    unsorted _ d ((read-is-spelling _ d).0 refl) (λ s. clash s.joins refl)

port-in-front : (r : Railway) → record_refusal r ≡ none
    → written_text r ≡ bytes "H\t3\t1\t2\nP\t1\td\nJ\t1+\t1u\nJ\t2u\t1-\nJ\t3d\t1s\nG\t1d\nG\t2u\nT\t1\tu\t2\t3\nT\t2\td\t3\t1\n" → ⊥
unfolding bytes digits line is_digit byte_at digits_at number_at counted while side_field_at leg_field_at end_field_at header_at
    point_line_at join_line_at signal_line_at closed_line_at weight_field_at train_line_at walk read
port-in-front =
    let d = saying_a (record { one = port 1 Plus; other = section 1 Up } ∷ join_minus ∷ join_stem ∷ []) (signal1d ∷ signal2u ∷ []) [] in
    unsorted _ d ((read-is-spelling _ d).0 refl) (λ s. let e : 2004 < 3 = s.first _ (Memᴰ.head refl) in omega (arith, e))

-- CLOSED SECTIONS. Four sections, 1u joined to 2d and a train from 1 up to 2, while 3 and 4 are closed. The record is written as its text,
abbrev pub shut : Railway
shut = with_closed (with_closed (line_t 1 Up 1 2 (line_j (sec 1 Up) (sec 2 Down) (yard_h 4 0 1))) 2) 3

abbrev pub text_shut : String
text_shut = "H\t4\t0\t1\nJ\t1u\t2d\nX\t3\nX\t4\nT\t1\tu\t1\t2\n"

-- what its text says, but for the order of its X lines;
abbrev pub saying_shut : List ℕ → Description
saying_shut closed =
    record {
      sections = 4;
      points = 0;
      trains = 1;
      legs = [];
      joins = record { one = section 1 Up; other = section 2 Down } ∷ [];
      signals = [];
      closed = closed;
      roster = record { heading = Up; start = 1; destination = 2; weight = none } ∷ [];
    }

pub says-shut-only : (d : Description) → Describes (bytes text_shut) d → d ≡ saying_shut (3 ∷ 4 ∷ [])
unfolding bytes digits line is_digit byte_at digits_at number_at counted while side_field_at leg_field_at end_field_at header_at
    point_line_at join_line_at signal_line_at closed_line_at weight_field_at train_line_at walk read
says-shut-only d w = let e = saying_shut (3 ∷ 4 ∷ []) in describes-one (bytes text_shut) d e w ((read-is-spelling (bytes text_shut) e).0 refl)

pub written-shut : (written_text shut ≡ bytes text_shut) × (record_refusal shut ≡ none)
unfolding bytes first digits line any_below list_below gather_below end_at joined_by joined legs_of train_of with_join
    with_closed with_train weight_row weight_of unknown_row join_row loose_row longer chain_row place_row record_refusal flat_map
    rising spell description_of written_text is_closed
written-shut = (refl, refl)

-- an X line of what is written names 3, and none names 1;
closed-written : (d : Description) → Describes (written_text shut) d → Memᴰ 3 d.closed × (Memᴰ 1 d.closed → ⊥)
unfolding is_closed with_join with_closed with_train
closed-written d w =
    let t = written-as-described shut written-shut.1 in
    rw (describes-one (written_text shut) d t.0 w t.1) ((t.2.closed 2).0 refl, λ m. clash ((t.2.closed 0).1 m) refl)

-- and no record is written with 4 before 3.
closed-turned : (r : Railway) → record_refusal r ≡ none → written_text r ≡ bytes "H\t4\t0\t1\nJ\t1u\t2d\nX\t4\nX\t3\nT\t1\tu\t1\t2\n" → ⊥
unfolding bytes digits line is_digit byte_at digits_at number_at counted while side_field_at leg_field_at end_field_at header_at
    point_line_at join_line_at signal_line_at closed_line_at weight_field_at train_line_at walk read rises
closed-turned =
    let d = saying_shut (4 ∷ 3 ∷ []) in
    unsorted _ d ((read-is-spelling _ d).0 refl) (λ s. clash s.closed refl)

-- Whatever accepted record is written so has 3 closed, and 2 not.
closed-there : (r : Railway) → record_refusal r ≡ none → written_text r ≡ bytes text_shut → (closed_at r 2 ≡ true) × (closed_at r 1 ≡ false)
unfolding with_join with_closed with_train
closed-there r h e =
    let t = text_same r shut h written-shut.1 (e ∙ sym written-shut.0) in
    (t.closed 2 (omega arith), t.closed 1 (omega arith))

-- A text whose train starts on a closed section is refused with the row for places, and with no other.
abbrev pub text_shut_out : String
text_shut_out = "H\t2\t0\t1\nX\t1\nT\t1\tu\t1\t2\n"

pub shut-out : RefusedWith (bytes text_shut_out) Place
unfolding bytes first digits line is_digit byte_at digits_at number_at counted while side_field_at leg_field_at end_field_at
    header_at point_line_at join_line_at signal_line_at closed_line_at weight_field_at train_line_at walk read case_answer any_below
    any repeats join_ends D.weight_row D.unknown_row D.join_row D.loose_row chain_row railway_of D.double_row D.place_row
shut-out = (refused-exactly (bytes text_shut_out) Place).0 refl

-- POINTS JOINED TO POINTS. Two tracks and a crossover: 1 leads over point 1 to 2, and 3 over point 2 to 4; the minus ports of the points are joined. The
-- record is written as its text,
abbrev pub crossing : Railway
crossing =
    line_t 1 Up 1 4
    (line_j (portOf 1 Minus) (portOf 2 Minus)
    (line_j (sec 4 Down) (portOf 2 Stem)
    (line_j (sec 3 Up) (portOf 2 Plus)
    (line_j (sec 2 Down) (portOf 1 Plus)
    (line_j (sec 1 Up) (portOf 1 Stem)
    (line_p 2 Down (line_p 1 Up (yard_h 4 2 1))))))))

abbrev pub text_crossing : String
text_crossing = "H\t4\t2\t1\nP\t1\tu\nP\t2\td\nJ\t1u\t1s\nJ\t2d\t1+\nJ\t3u\t2+\nJ\t4d\t2s\nJ\t1-\t2-\nT\t1\tu\t1\t4\n"

-- what its text says, but for its last two J lines;
abbrev pub saying_crossing : List JoinLine → Description
saying_crossing last =
    record {
      sections = 4;
      points = 2;
      trains = 1;
      legs = Up ∷ Down ∷ [];
      joins =
          record { one = section 1 Up; other = port 1 Stem }
          ∷ record { one = section 2 Down; other = port 1 Plus }
          ∷ record { one = section 3 Up; other = port 2 Plus }
          ∷ last;
      signals = [];
      closed = [];
      roster = record { heading = Up; start = 1; destination = 4; weight = none } ∷ [];
    }

abbrev join_outer : JoinLine
join_outer = record { one = section 4 Down; other = port 2 Stem }

abbrev join_inner : JoinLine
join_inner = record { one = port 1 Minus; other = port 2 Minus }

abbrev pub description_crossing : Description
description_crossing = saying_crossing (join_outer ∷ join_inner ∷ [])

pub says-crossing-only : (d : Description) → Describes (bytes text_crossing) d → d ≡ description_crossing
unfolding bytes digits line is_digit byte_at digits_at number_at counted while side_field_at leg_field_at end_field_at header_at
    point_line_at join_line_at signal_line_at closed_line_at weight_field_at train_line_at walk read
says-crossing-only d w = describes-one (bytes text_crossing) d description_crossing w ((read-is-spelling (bytes text_crossing) description_crossing).0 refl)

pub written-crossing : (written_text crossing ≡ bytes text_crossing) × (record_refusal crossing ≡ none)
unfolding bytes first digits line any_below list_below gather_below end_at joined_by joined legs_of train_of with_join with_legs
    with_train weight_row weight_of unknown_row join_row loose_row longer chain_row place_row record_refusal flat_map rising spell
    description_of written_text is_closed
written-crossing = (refl, refl)

-- in which a J line ties 1- to 2-.
inner-written : (d : Description) → Describes (written_text crossing) d → Joins d.joins (portOf 1 Minus) (portOf 2 Minus)
unfolding joined joined_by end_at with_join with_legs with_train
inner-written d w =
    let t = written-as-described crossing written-crossing.1 in
    rw (describes-one (written_text crossing) d t.0 w t.1) ((t.2.joins (portOf 1 Minus) (portOf 2 Minus)).0 refl)

-- No record is written with the higher point first, or with such a join before one with a section end,
points-turned : (r : Railway) → record_refusal r ≡ none
    → written_text r ≡ bytes "H\t4\t2\t1\nP\t1\tu\nP\t2\td\nJ\t1u\t1s\nJ\t2d\t1+\nJ\t3u\t2+\nJ\t4d\t2s\nJ\t2-\t1-\nT\t1\tu\t1\t4\n" → ⊥
unfolding bytes digits line is_digit byte_at digits_at number_at counted while side_field_at leg_field_at end_field_at header_at
    point_line_at join_line_at signal_line_at closed_line_at weight_field_at train_line_at walk read
points-turned =
    let d = saying_crossing (join_outer ∷ record { one = port 2 Minus; other = port 1 Minus } ∷ []) in
    unsorted _ d ((read-is-spelling _ d).0 refl)
    (λ s. let e : 2008 < 2005 = s.first _ (Memᴰ.tail (Memᴰ.tail (Memᴰ.tail (Memᴰ.tail (Memᴰ.head refl))))) in omega (arith, e))

points-in-front : (r : Railway) → record_refusal r ≡ none
    → written_text r ≡ bytes "H\t4\t2\t1\nP\t1\tu\nP\t2\td\nJ\t1u\t1s\nJ\t2d\t1+\nJ\t3u\t2+\nJ\t1-\t2-\nJ\t4d\t2s\nT\t1\tu\t1\t4\n" → ⊥
unfolding bytes digits line is_digit byte_at digits_at number_at counted while side_field_at leg_field_at end_field_at header_at
    point_line_at join_line_at signal_line_at closed_line_at weight_field_at train_line_at walk read rises
points-in-front =
    let d = saying_crossing (join_inner ∷ join_outer ∷ []) in
    unsorted _ d ((read-is-spelling _ d).0 refl) (λ s. clash s.joins refl)

-- nor, of two such joins, with that of 1- before that of 1+.
legs-turned : (r : Railway) → record_refusal r ≡ none
    → written_text r ≡ bytes "H\t1\t3\t1\nP\t1\tu\nP\t2\tu\nP\t3\tu\nJ\t1-\t2s\nJ\t1+\t3s\nT\t1\tu\t1\t1\n" → ⊥
unfolding bytes digits line is_digit byte_at digits_at number_at counted while side_field_at leg_field_at end_field_at header_at
    point_line_at join_line_at signal_line_at closed_line_at weight_field_at train_line_at walk read rises
legs-turned =
    let d : Description =
    record {
      sections = 1;
      points = 3;
      trains = 1;
      legs = Up ∷ Up ∷ Up ∷ [];
      joins = record { one = port 1 Minus; other = port 2 Stem } ∷ record { one = port 1 Plus; other = port 3 Stem } ∷ [];
      signals = [];
      closed = [];
      roster = record { heading = Up; start = 1; destination = 1; weight = none } ∷ [];
    } in
    unsorted _ d ((read-is-spelling _ d).0 refl) (λ s. clash s.joins refl)

-- Whatever accepted record is written so has 1- joined to 2-.
inner-there : (r : Railway) → record_refusal r ≡ none → written_text r ≡ bytes text_crossing → link_at r 98 ≡ With (portOf 2 Minus)
unfolding joined_by end_at with_join with_legs with_train
inner-there r h e = (text_same r crossing h written-crossing.1 (e ∙ sym written-crossing.0)).joins 98 (omega arith)

-- CHAINS. A text with a round of two points is refused with the row for chains, and with no other, though its signal is named twice;
abbrev pub text_round : String
text_round = "H\t2\t2\t1\nP\t1\tu\nP\t2\tu\nJ\t1d\t1-\nJ\t2d\t2-\nJ\t1s\t2+\nJ\t1+\t2s\nG\t1u\nG\t1u\nT\t1\tu\t1\t1\n"

pub round-chain : RefusedWith (bytes text_round) Chain
unfolding bytes first digits line is_digit byte_at digits_at number_at counted while side_field_at leg_field_at end_field_at
    header_at point_line_at join_line_at signal_line_at closed_line_at weight_field_at train_line_at walk read case_answer any_below
    list_below any repeats join_ends D.weight_row D.unknown_row D.join_row D.loose_row longer chain_row partner railway_of
    end_at joined_by joined
round-chain = (refused-exactly (bytes text_round) Chain).0 refl

-- for there is a round in the railway of what it says: who leaves point 1 by its plus port comes over point 2 to leave it so again;
abbrev saying_round : Description
saying_round =
    record {
      sections = 2;
      points = 2;
      trains = 1;
      legs = Up ∷ Up ∷ [];
      joins =
          record { one = section 1 Down; other = port 1 Minus }
          ∷ record { one = section 2 Down; other = port 2 Minus }
          ∷ record { one = port 1 Stem; other = port 2 Plus }
          ∷ record { one = port 1 Plus; other = port 2 Stem }
          ∷ [];
      signals = record { number = 1; side = Up } ∷ record { number = 1; side = Up } ∷ [];
      closed = [];
      roster = record { heading = Up; start = 1; destination = 1; weight = none } ∷ [];
    }

goes-round : Round (railway_of saying_round)
unfolding left_by joined joined_by end_at list_below partner railway_of
goes-round = record { plus = λ n. true; point = record { 0 = 0 }; leg = Plus; further = 1; again = refl }

ports-joined : JoinableLines saying_round
unfolding any_below any repeats join_ends D.weight_row D.unknown_row D.join_row D.loose_row
ports-joined = record { count = refl; weight = refl; unknown = refl; join = refl; loose = refl }

round-given : case_answer (bytes text_round) ≡ refused Chain
unfolding bytes digits line is_digit byte_at digits_at number_at counted while side_field_at leg_field_at end_field_at header_at
    point_line_at join_line_at signal_line_at closed_line_at weight_field_at train_line_at walk read
round-given = (chain-given (bytes text_round) saying_round (omega arith) ((read-is-spelling (bytes text_round) saying_round).0 refl) ports-joined).1 (inr goes-round)

-- and where rows 3 to 6 and 16 do not apply to what a text says and it is refused so, there is a way with more than four points, or a round.
chain-there : (text : List ℕ) (d : Description) → length text ≤ 4096 → Describes text d → JoinableLines d → case_answer text ≡ refused Chain
    → LongWay (railway_of d) ⊎ Round (railway_of d)
chain-there text d short w h e = (chain-given text d short w h).0 e

-- WEIGHTS (document 02, Q-12). One section and a train there, at home: what its text says, but for the weight.
abbrev pub saying_weight : Option ℕ → Description
saying_weight weight =
    record {
      sections = 1;
      points = 0;
      trains = 1;
      legs = [];
      joins = [];
      signals = [];
      closed = [];
      roster = record { heading = Up; start = 1; destination = 1; weight = weight } ∷ [];
    }

abbrev pub text_seven : String
text_seven = "H\t1\t0\t1\nT\t1\tu\t1\t1\t7\n"

abbrev pub text_with_one : String
text_with_one = "H\t1\t0\t1\nT\t1\tu\t1\t1\t1\n"

abbrev pub text_without : String
text_without = "H\t1\t0\t1\nT\t1\tu\t1\t1\n"

pub says-seven-only : (d : Description) → Describes (bytes text_seven) d → d ≡ saying_weight (some 7)
unfolding bytes digits line is_digit byte_at digits_at number_at counted while side_field_at leg_field_at end_field_at header_at
    point_line_at join_line_at signal_line_at closed_line_at weight_field_at train_line_at walk read
says-seven-only d w = let e = saying_weight (some 7) in describes-one (bytes text_seven) d e w ((read-is-spelling (bytes text_seven) e).0 refl)

pub says-without-only : (d : Description) → Describes (bytes text_without) d → d ≡ saying_weight none
unfolding bytes digits line is_digit byte_at digits_at number_at counted while side_field_at leg_field_at end_field_at header_at
    point_line_at join_line_at signal_line_at closed_line_at weight_field_at train_line_at walk read
says-without-only d w = let e = saying_weight none in describes-one (bytes text_without) d e w ((read-is-spelling (bytes text_without) e).0 refl)

-- With 7 in its T line a text is read with that weight, and without a weight there with 1;
weight-seven : (r : Railway) → case_answer (bytes text_seven) ≡ accepted r → weight_of r 0 ≡ 7
unfolding weight_of
weight-seven r e =
    let t = read-as-described (bytes text_seven) r e in
    let s : AsDescribed (saying_weight (some 7)) r = rw (says-seven-only t.0 t.1) at t.2 in
    (s.roster 0 (omega arith)).weight

weight-unsaid : (r : Railway) → case_answer (bytes text_without) ≡ accepted r → weight_of r 0 ≡ 1
unfolding weight_of
weight-unsaid r e =
    let t = read-as-described (bytes text_without) r e in
    let s : AsDescribed (saying_weight none) r = rw (says-without-only t.0 t.1) at t.2 in
    (s.roster 0 (omega arith)).weight

-- with 1 written out the text is another, and its railway the same.
same_answer : case_answer (bytes text_with_one) ≡ case_answer (bytes text_without)
unfolding bytes first digits line is_digit byte_at digits_at number_at counted while side_field_at leg_field_at end_field_at
    header_at point_line_at join_line_at signal_line_at closed_line_at weight_field_at train_line_at walk read case_answer any_below
    list_below any repeats join_ends D.weight_row D.unknown_row D.join_row D.loose_row longer chain_row D.double_row D.place_row
    partner railway_of end_at joined_by joined
same_answer = refl

one_written : (r : Railway) → AcceptedWith (bytes text_with_one) r ↔ AcceptedWith (bytes text_without) r
one_written r = (
  λ a. (accepted-exactly (bytes text_without) r).0 (sym same_answer ∙ (accepted-exactly (bytes text_with_one) r).1 a),
  λ a. (accepted-exactly (bytes text_with_one) r).0 (same_answer ∙ (accepted-exactly (bytes text_without) r).1 a),
)

-- The record of that yard, with a weight: such texts are read as it; with 7 it is written as its text, with 1 as that without,
abbrev pub weighing : ℕ → Railway
weighing w = line_tw 1 Up 1 1 w (yard_h 1 0 1)

pub read-seven : AcceptedWith (bytes text_seven) (weighing 7)
unfolding bytes first digits line is_digit byte_at digits_at number_at counted while side_field_at leg_field_at end_field_at
    header_at point_line_at join_line_at signal_line_at closed_line_at weight_field_at train_line_at walk read case_answer any_below
    list_below any repeats join_ends D.weight_row D.unknown_row D.join_row D.loose_row longer chain_row D.double_row D.place_row
    partner railway_of end_at joined_by joined with_train
read-seven = (accepted-exactly (bytes text_seven) (weighing 7)).0 refl

pub read-with-one : AcceptedWith (bytes text_with_one) (weighing 1)
unfolding bytes first digits line is_digit byte_at digits_at number_at counted while side_field_at leg_field_at end_field_at
    header_at point_line_at join_line_at signal_line_at closed_line_at weight_field_at train_line_at walk read case_answer any_below
    list_below any repeats join_ends D.weight_row D.unknown_row D.join_row D.loose_row longer chain_row D.double_row D.place_row
    partner railway_of end_at joined_by joined with_train
read-with-one = (accepted-exactly (bytes text_with_one) (weighing 1)).0 refl

pub written-seven : (written_text (weighing 7) ≡ bytes text_seven) × (record_refusal (weighing 7) ≡ none)
unfolding bytes first digits line any_below list_below gather_below end_at joined_by joined legs_of train_of with_train
    weight_row weight_of unknown_row join_row loose_row longer chain_row place_row record_refusal flat_map rising spell
    description_of written_text is_closed
written-seven = (refl, refl)

pub written_one : (written_text (weighing 1) ≡ bytes text_without) × (record_refusal (weighing 1) ≡ none)
unfolding bytes first digits line any_below list_below gather_below end_at joined_by joined legs_of train_of with_train
    weight_row weight_of unknown_row join_row loose_row longer chain_row place_row record_refusal flat_map rising spell
    description_of written_text is_closed
written_one = (refl, refl)

-- and the first T line of what is written says 7.
seven-written : (d : Description) → Describes (written_text (weighing 7)) d → said_weight (get_or d.roster 0 no_train_line).weight ≡ 7
unfolding train_of with_train
seven-written d w =
    let t = written-as-described (weighing 7) written-seven.1 in
    let s : AsDescribed d (weighing 7) = rw (describes-one (written_text (weighing 7)) d t.0 w t.1) t.2 in
    sym (s.roster 0 (rw (← s.trains) (omega arith))).weight

-- Whatever accepted record is written so has 7, and one written without has 1.
seven-there : (r : Railway) → record_refusal r ≡ none → written_text r ≡ bytes text_seven → (train_of r 0).weight ≡ 7
unfolding train_of with_train
seven-there r h e =
    let t = same-sym (text_same r (weighing 7) h written-seven.1 (e ∙ sym written-seven.0)) in
    ap (λ (x : Train). x.weight) (sym (t.roster 0 (omega arith)))

one-there : (r : Railway) → record_refusal r ≡ none → written_text r ≡ bytes text_without → (train_of r 0).weight ≡ 1
unfolding train_of with_train
one-there r h e =
    let t = same-sym (text_same r (weighing 1) h written_one.1 (e ∙ sym written_one.0)) in
    ap (λ (x : Train). x.weight) (sym (t.roster 0 (omega arith)))

-- A weight of 0 and one of 256 are refused with the row for weights, and with no other, though the train starts on a section that is not there;
abbrev pub text_zero : String
text_zero = "H\t1\t0\t1\nT\t1\tu\t2\t1\t0\n"

abbrev pub text256 : String
text256 = "H\t1\t0\t1\nT\t1\tu\t2\t1\t256\n"

pub weight-zero : RefusedWith (bytes text_zero) Weight
unfolding bytes first digits line is_digit byte_at digits_at number_at counted while side_field_at leg_field_at end_field_at
    header_at point_line_at join_line_at signal_line_at closed_line_at weight_field_at train_line_at walk read case_answer any_below
    list_below any repeats join_ends D.weight_row D.unknown_row D.join_row D.loose_row longer chain_row D.double_row D.place_row
    partner railway_of end_at joined_by joined
weight-zero = (refused-exactly (bytes text_zero) Weight).0 refl

pub weight-256 : RefusedWith (bytes text256) Weight
unfolding bytes first digits line is_digit byte_at digits_at number_at counted while side_field_at leg_field_at end_field_at
    header_at point_line_at join_line_at signal_line_at closed_line_at weight_field_at train_line_at walk read case_answer any_below
    list_below any repeats join_ends D.weight_row D.unknown_row D.join_row D.loose_row longer chain_row D.double_row D.place_row
    partner railway_of end_at joined_by joined
weight-256 = (refused-exactly (bytes text256) Weight).0 refl

-- and where a text is refused so, one of its T lines says such a weight.
weight-said : (text : List ℕ) (d : Description) → Describes text d → RefusedWith text Weight → any (λ t. wrong_weight (said_weight t.weight)) d.roster ≡ true
unfolding D.weight_row
weight-said text d w h = let s = h.here in rw (describes-one text d s.description w s.described) s.passes

-- THE SAME RAILWAY. A fourth train in Yard A's record, which has two, is not looked at: the record is accepted, and written as Yard A.
abbrev fourth : Railway
fourth = line_t 4 Up 9 9 yard_a

roster-same : (t : ℕ) → t < 2 → train_of yard_a t ≡ train_of fourth t
unfolding train_of with_join with_signal with_legs with_train
roster-same zero h = refl
roster-same (suc zero) h = refl
roster-same (suc (suc t)) h = absurd (omega (arith, h))

fourth-same : SameRailway yard_a fourth
unfolding legs_of with_join with_signal with_legs with_train
fourth-same =
    record { sections = refl; points = refl; trains = refl; legs = λ n h. refl; joins = λ i h. refl; signals = λ i h. refl; closed = λ x h. refl; roster = roster-same }

fourth-accepted : record_refusal fourth ≡ none
fourth-accepted = sym (same-refusal yard_a fourth fourth-same) ∙ written-a.1

fourth-written : written_text fourth ≡ bytes text_a
fourth-written = sym (same-text yard_a fourth fourth-same) ∙ written-a.0

-- Whatever accepted record is written as Yard A has a signal at 1d.
signal-there : (r : Railway) → record_refusal r ≡ none → written_text r ≡ bytes text_a → flag_at r 0 ≡ true
unfolding with_join with_signal with_legs with_train
signal-there r h e = (text_same r yard_a h written-a.1 (e ∙ sym written-a.0)).signals 0 (omega arith)
