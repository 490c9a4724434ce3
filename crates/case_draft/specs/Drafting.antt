-- Reading a case text in one walk: the record is built line by line, beside four flags for what the record cannot show. Contracts cite these
-- definitions and proofs/ ties them to those of case_file; nothing of document 01 rests on this file. Assumes nothing.
use Rattle.std.specs.Prelude.{Bool, true, false, cond, not, ◌&&◌, ◌||◌, List, [], ◌∷◌, ℕ, zero, suc, ◌-◌, ◌%◌, ltb, leb, eqb, length, get_or}
use Rattle.std.proofs.Math.Option.{Option, none, some}
use Rattle.text.specs.Text.{byte}
use Rattle.text.specs.Reading.{Got, bad, got, then}
use Rattle.railway.specs.declared.Side.{Side}
use Rattle.railway.specs.declared.End.{End}
use Rattle.railway.specs.declared.Train.{Train}
use Rattle.railway.specs.declared.Railway.{Railway}
use Rattle.railway.specs.declared.Refusal.{Refusal}
use Rattle.railway.specs.Refusals.{Row, first}
use Rattle.railway.specs.Record.{bare_railway, empty_railway, joined, has_signal, is_closed, with_join, with_signal, with_closed, with_legs, with_train}
use Rattle.railway.specs.Rows.{outside, wrong_weight, tied, wrong_pair, unjoined, count_row, loose_row, chain_row, place_row, rows_by}
use Rattle.case_file.specs.CaseRead.{CaseRead}
use Rattle.case_file.specs.Form.{EndField, section, port, JoinLine, SignalLine, TrainLine, said_weight}
use Rattle.case_file.specs.Rows.{within}
use Rattle.case_file.specs.Recording.{end_of}
use Rattle.case_file.specs.Given.{accepted, refused}
use Rattle.case_file.specs.Reading.{Counts, header_at, point_line_at, join_line_at, signal_line_at, closed_line_at, train_line_at}
use Rattle.case_draft.specs.declared.Draft.{Draft}
use Rattle.case_draft.specs.declared.Kind.{Kind}
use Rattle.case_draft.specs.declared.Kind.TheVariants.{P, J, G, X, T}
use Rattle.case_draft.specs.KnownEnd.{KnownEnd, NotThere, There}
use Rattle.case_draft.specs.Lines.{Lines, NotInForm, InForm}

-- A number as far as a byte goes.
abbrev pub cap : ℕ → ℕ
cap n = cond (leb n 255) n 255

-- AN END that a line names is there, by the record's counts.
abbrev pub is_there : Railway → EndField → Bool
is_there r (section n s) = within n r.sections
is_there r (port n l) = within n r.points

-- The end of the record that a line names, if it is there.
abbrev pub end_in : Railway → EndField → KnownEnd
end_in r e = cond (is_there r e) (There (end_of e)) NotThere

-- THE DRAFT. A name that is not there is noted and changes nothing else.
abbrev pub unknown_in : Draft → Draft
unknown_in d = record { railway = d.railway; weight = d.weight; unknown = true; wrong = d.wrong; double = d.double }

-- The record goes on, the flags stay.
abbrev pub with_railway : Draft → Railway → Draft
with_railway d r = record { railway = r; weight = d.weight; unknown = d.unknown; wrong = d.wrong; double = d.double }

-- The H line: its counts where they are within their bounds; else the record stays empty, and row 3 applies to it.
unfoldable pub opened : ℕ → ℕ → ℕ → Draft
opened s p k = record { railway = cond (outside s p k) empty_railway (bare_railway s p k); weight = false; unknown = false; wrong = false; double = false }

-- A P line.
unfoldable pub put_point : Draft → ℕ → Side → Draft
put_point d n side = with_railway d (cond (within n d.railway.points) (with_legs d.railway (n - 1) side) d.railway)

-- The ends of a J line may not be tied, or one is in a join already.
abbrev pub faulty : Railway → End → End → Bool
faulty r e f = wrong_pair (tied r e) (tied r f) || not (unjoined (joined r e) && unjoined (joined r f))

-- A join of two ends that a line names.
abbrev pub put_ends : Draft → KnownEnd → KnownEnd → Draft
put_ends d (There e) (There f) =
    record { railway = with_join d.railway e f; weight = d.weight; unknown = d.unknown; wrong = d.wrong || faulty d.railway e f; double = d.double }
put_ends d (There e) NotThere = unknown_in d
put_ends d NotThere k = unknown_in d

-- A J line.
unfoldable pub put_join : Draft → JoinLine → Draft
put_join d j = put_ends d (end_in d.railway j.one) (end_in d.railway j.other)

-- A signal at an end that a line names; one may stand there already.
abbrev pub put_at : Draft → KnownEnd → Draft
put_at d (There e) = record { railway = with_signal d.railway e; weight = d.weight; unknown = d.unknown; wrong = d.wrong; double = d.double || has_signal d.railway e }
put_at d NotThere = unknown_in d

-- A G line.
unfoldable pub put_signal : Draft → SignalLine → Draft
put_signal d g = put_at d (end_in d.railway (section g.number g.side))

-- An X line; the section may have been named already.
unfoldable pub put_closed : Draft → ℕ → Draft
put_closed d n =
    cond (within n d.railway.sections)
    (record { railway = with_closed d.railway (n - 1); weight = d.weight; unknown = d.unknown; wrong = d.wrong; double = d.double || is_closed d.railway (n - 1) })
    (unknown_in d)

-- A weight that no train may have is noted and changes nothing else.
abbrev pub weighed_in : Draft → ℕ → Draft
weighed_in d w = record { railway = d.railway; weight = d.weight || wrong_weight w; unknown = d.unknown; wrong = d.wrong; double = d.double }

-- The train of a T line, its weight cut to a byte: one that a byte cannot have has been noted.
abbrev pub train_in_byte : TrainLine → Train
train_in_byte t = record { heading = t.heading; start = record { 0 = t.start - 1 }; destination = record { 0 = t.destination - 1 }; weight = said_weight t.weight % 256 }

-- A train at its place in a draft, if it and its two sections are there.
abbrev pub put_roster : Draft → ℕ → TrainLine → Draft
put_roster d n t =
    cond (within n d.railway.trains && (within t.start d.railway.sections && within t.destination d.railway.sections))
    (with_railway d (with_train d.railway (n - 1) (train_in_byte t)))
    (unknown_in d)

-- A T line.
unfoldable pub put_train : Draft → ℕ → TrainLine → Draft
put_train d n t = put_roster (weighed_in d (said_weight t.weight)) n t

-- A KIND OF LINE: the letter that a line of it begins with; whether the H line says how many there are, and then how many, their numbers rising from 1
-- (of the other kinds all come that there are); and what a line, read at a place and with a number, makes of a draft.
pub record Entry : Type 0 where
  pub letter : ℕ
  pub counted : Bool
  pub count : Counts → ℕ
  pub line : List ℕ → ℕ → ℕ → Draft → Got Draft

-- The kinds, an entry each.
abbrev pub entry : Kind → Entry
entry P = record { letter = byte "P"; counted = true; count = λ h. h.points; line = λ s n c d. then (point_line_at s n c) (λ x c. got (put_point d n x) c) }
entry J = record { letter = byte "J"; counted = false; count = λ h. 0; line = λ s n c d. then (join_line_at s c) (λ x c. got (put_join d x) c) }
entry G = record { letter = byte "G"; counted = false; count = λ h. 0; line = λ s n c d. then (signal_line_at s c) (λ x c. got (put_signal d x) c) }
entry X = record { letter = byte "X"; counted = false; count = λ h. 0; line = λ s n c d. then (closed_line_at s c) (λ x c. got (put_closed d x) c) }
entry T = record { letter = byte "T"; counted = true; count = λ h. h.trains; line = λ s n c d. then (train_line_at s n c) (λ x c. got (put_train d n x) c) }

-- Their order in a text.
abbrev pub kinds : List Kind
kinds = P ∷ J ∷ G ∷ X ∷ T ∷ []

-- A line of a kind, read where it begins.
abbrev pub line_into : List ℕ → Kind → ℕ → ℕ → Draft → Got Draft
line_into s kind n c d = (entry kind).line s n c d

-- The letter that a line of a kind begins with.
abbrev pub letter : Kind → ℕ
letter kind = (entry kind).letter

-- Whether the first line says how many lines of a kind there are.
abbrev pub counted : Kind → Bool
counted kind = (entry kind).counted

-- Lines one after the other; `line n c r` makes of r what the line that begins at c and has number n says.
module _ {R : Type 0} (line : ℕ → ℕ → R → Got R) where
  -- As many as the count says, numbered from n upwards.
  unfoldable pub fold_counted : ℕ → ℕ → ℕ → R → Got R
  fold_counted zero n c r = got r c
  fold_counted (suc k) n c r = then (line n c r) (λ r c. fold_counted k (suc n) c r)

-- `begins c` says whether such a line begins at c.
module _ {R : Type 0} (begins : ℕ → Bool) (line : ℕ → R → Got R) where
  -- As many as there are; `most` is a number that they cannot pass.
  unfoldable pub fold_while : ℕ → ℕ → R → Got R
  fold_while zero c r = got r c
  fold_while (suc most) c r = elim (begins c) [ true ↦ then (line c r) (λ r c. fold_while most c r) | false ↦ got r c ]

-- All lines of a kind with a count.
abbrev pub counted_into : List ℕ → Kind → ℕ → ℕ → Draft → Got Draft
counted_into s kind count c d = fold_counted (line_into s kind) count 1 c d

-- All lines of a kind without one.
abbrev pub many_into : List ℕ → Kind → ℕ → Draft → Got Draft
many_into s kind c d = fold_while (λ c. eqb (get_or s c 0) (letter kind)) (line_into s kind 0) (length s) c d

-- All lines of a kind; where it has no count, the number is of no use.
abbrev pub lines_into : List ℕ → Kind → ℕ → ℕ → Draft → Got Draft
lines_into s kind count c d = cond (counted kind) (counted_into s kind count c d) (many_into s kind c d)

-- Nothing stands behind the last line.
abbrev pub end_at : List ℕ → Draft → ℕ → Got Draft
end_at s d c = cond (ltb c (length s)) bad (got d c)

-- The lines of some kinds, one kind behind the other, and nothing behind them.
abbrev pub kinds_into : List ℕ → Counts → List Kind → ℕ → Draft → Got Draft
kinds_into s h [] c d = end_at s d c
kinds_into s h (kind ∷ rest) c d = then (lines_into s kind ((entry kind).count h) c d) (λ d c. kinds_into s h rest c d)

-- The whole text.
unfoldable pub draft_of : List ℕ → Got Draft
draft_of s = then (header_at s 0) (λ h c. kinds_into s h kinds c (opened h.sections h.points h.trains))

-- What lines that were read stand for.
abbrev pub lines_got : Lines → Got Draft
lines_got NotInForm = bad
lines_got (InForm d c) = got d c.at

-- THE ANSWER: rows 3 to 8, 13 and 16, by the record and the flags.
abbrev pub draft_rows : Draft → List Row
draft_rows d = rows_by (count_row d.railway) d.weight d.unknown d.wrong (loose_row d.railway) (chain_row d.railway) d.double (place_row d.railway)

-- Accepted with the record where no row applies, else refused.
abbrev pub answer_of : Railway → Option Refusal → CaseRead
answer_of r none = accepted r
answer_of r (some f) = refused f

-- What a text is answered whose draft this is.
unfoldable pub draft_answer : Draft → CaseRead
draft_answer d = answer_of d.railway (first (draft_rows d))
