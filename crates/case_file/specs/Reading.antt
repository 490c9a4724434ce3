-- Reading a case text, as a program does it: the walk over the text with a cursor, and the answer. Nothing of document 01 rests on this file:
-- `Form` and `Given` say what is to be answered, and `Claims` that this answers it. Assumes nothing.
use Rattle.std.specs.Prelude.{Bool, true, false, cond, List, [], ◌∷◌, ℕ, zero, suc, ◌+◌, ltb, eqb, length, get_or}
use Rattle.std.proofs.Math.Option.{Option, none, some}
use Rattle.text.specs.Text.{byte, tab, line_end}
use Rattle.text.specs.Reading.{Got, bad, got, then, value, byte_at, number_at}
use Rattle.railway.specs.declared.Side.{Side}
use Rattle.railway.specs.declared.Side.TheVariants.{Up, Down}
use Rattle.railway.specs.declared.Leg.{Leg}
use Rattle.railway.specs.declared.Leg.TheVariants.{Stem, Plus, Minus}
use Rattle.railway.specs.declared.Refusal.{Refusal}
use Rattle.railway.specs.declared.Refusal.TheVariants.{Length, Form}
use Rattle.railway.specs.Refusals.{Row, row, first}
use Rattle.case_file.specs.CaseRead.{CaseRead}
use Rattle.case_file.specs.Form.{EndField, section, port, JoinLine, SignalLine, TrainLine, Description, side_byte, leg_byte}
use Rattle.case_file.specs.Rows.{most_bytes, description_rows}
use Rattle.case_file.specs.Recording.{railway_of}
use Rattle.case_file.specs.Given.{accepted, refused}

-- The H line's counts.
pub record Counts : Type 0 where
  pub sections : ℕ
  pub points : ℕ
  pub trains : ℕ

-- Lines one after the other; `line n c` reads the line that begins at c and has number n.
module _ {A : Type 0} (line : ℕ → ℕ → Got A) where
  -- As many as are announced: the first has number n, each further one the next.
  unfoldable pub counted : ℕ → ℕ → ℕ → Got (List A)
  counted zero n c = got [] c
  counted (suc k) n c = then (line n c) (λ x c. then (counted k (suc n) c) (λ xs c. got (x ∷ xs) c))

-- `begins c` says whether such a line begins at c.
module _ {A : Type 0} (begins : ℕ → Bool) (line : ℕ → Got A) where
  -- As many as there are; `most` is a number that they cannot pass.
  unfoldable pub while : ℕ → ℕ → Got (List A)
  while zero c = got [] c
  while (suc most) c = elim (begins c) [ true ↦ then (line c) (λ x c. then (while most c) (λ xs c. got (x ∷ xs) c)) | false ↦ got [] c ]

module _ (s : List ℕ) where
  -- A case file's number: three digits at most.
  abbrev pub case_number_at : ℕ → Got ℕ
  case_number_at c = number_at s 2 c

  -- `u` or `d`.
  unfoldable pub side_field_at : ℕ → Got Side
  side_field_at c = cond (eqb (get_or s c 0) (side_byte Up)) (got Up (c + 1)) (cond (eqb (get_or s c 0) (side_byte Down)) (got Down (c + 1)) bad)

  -- `s`, `+` or `-`.
  unfoldable pub leg_field_at : ℕ → Got Leg
  leg_field_at c =
      cond (eqb (get_or s c 0) (leg_byte Stem)) (got Stem (c + 1))
      (cond (eqb (get_or s c 0) (leg_byte Plus)) (got Plus (c + 1)) (cond (eqb (get_or s c 0) (leg_byte Minus)) (got Minus (c + 1)) bad))

  -- The letter behind an end's number: a section's side, or else a point's port.
  abbrev pub mark_at : ℕ → ℕ → Got Side → Got EndField
  mark_at n c (got side e) = got (section n side) e
  mark_at n c bad = then (leg_field_at c) (λ leg c. got (port n leg) c)

  -- An end: a number, and its letter.
  unfoldable pub end_field_at : ℕ → Got EndField
  end_field_at c = then (case_number_at c) (λ n c. mark_at n c (side_field_at c))

  -- The H line.
  unfoldable pub header_at : ℕ → Got Counts
  header_at c =
      then (byte_at s (byte "H") c) (λ x c.
      then (byte_at s tab c) (λ x c. then (case_number_at c) (λ sections c.
      then (byte_at s tab c) (λ x c. then (case_number_at c) (λ points c.
      then (byte_at s tab c) (λ x c. then (case_number_at c) (λ trains c.
      then (byte_at s line_end c) (λ x c. got (record { sections = sections; points = points; trains = trains }) c))))))))

  -- A P line, whose number must be n.
  unfoldable pub point_line_at : ℕ → ℕ → Got Side
  point_line_at n c =
      then (byte_at s (byte "P") c) (λ x c.
      then (byte_at s tab c) (λ x c. then (case_number_at c) (λ m c.
      then (byte_at s tab c) (λ x c. then (side_field_at c) (λ side c.
      then (byte_at s line_end c) (λ x c. cond (eqb m n) (got side c) bad))))))

  -- A J line.
  unfoldable pub join_line_at : ℕ → Got JoinLine
  join_line_at c =
      then (byte_at s (byte "J") c) (λ x c.
      then (byte_at s tab c) (λ x c. then (end_field_at c) (λ one c.
      then (byte_at s tab c) (λ x c. then (end_field_at c) (λ other c.
      then (byte_at s line_end c) (λ x c. got (record { one = one; other = other }) c))))))

  -- A G line.
  unfoldable pub signal_line_at : ℕ → Got SignalLine
  signal_line_at c =
      then (byte_at s (byte "G") c) (λ x c.
      then (byte_at s tab c) (λ x c. then (case_number_at c) (λ n c. then (side_field_at c) (λ side c.
      then (byte_at s line_end c) (λ x c. got (record { number = n; side = side }) c)))))

  -- An X line.
  unfoldable pub closed_line_at : ℕ → Got ℕ
  closed_line_at c =
      then (byte_at s (byte "X") c) (λ x c.
      then (byte_at s tab c) (λ x c. then (case_number_at c) (λ n c.
      then (byte_at s line_end c) (λ x c. got n c))))

  -- A weight, if one is written: a tab and its number.
  unfoldable pub weight_field_at : ℕ → Got (Option ℕ)
  weight_field_at c = cond (eqb (get_or s c 0) tab) (then (case_number_at (c + 1)) (λ w c. got (some w) c)) (got none c)

  -- A T line, whose number must be n.
  unfoldable pub train_line_at : ℕ → ℕ → Got TrainLine
  train_line_at n c =
      then (byte_at s (byte "T") c) (λ x c.
      then (byte_at s tab c) (λ x c. then (case_number_at c) (λ m c.
      then (byte_at s tab c) (λ x c. then (side_field_at c) (λ heading c.
      then (byte_at s tab c) (λ x c. then (case_number_at c) (λ start c.
      then (byte_at s tab c) (λ x c. then (case_number_at c) (λ destination c.
      then (weight_field_at c) (λ weight c.
      then (byte_at s line_end c) (λ x c. cond (eqb m n) (got (record { heading = heading; start = start; destination = destination; weight = weight }) c) bad)))))))))))

  -- The whole text: the lines in their order, and nothing behind the last.
  unfoldable pub walk : Got Description
  walk =
      then (header_at 0) (λ h c.
      then (counted point_line_at h.points 1 c) (λ legs c.
      then (while (λ c. eqb (get_or s c 0) (byte "J")) join_line_at (length s) c) (λ joins c.
      then (while (λ c. eqb (get_or s c 0) (byte "G")) signal_line_at (length s) c) (λ signals c.
      then (while (λ c. eqb (get_or s c 0) (byte "X")) closed_line_at (length s) c) (λ closed c.
      then (counted train_line_at h.trains 1 c) (λ roster c.
      cond (ltb c (length s)) bad
      (got (record { sections = h.sections; points = h.points; trains = h.trains; legs = legs; joins = joins; signals = signals; closed = closed; roster = roster }) c)))))))

  -- What a text says, if it is in form.
  unfoldable pub read : Option Description
  read = value walk

-- THE ANSWER. Rows 2 to 8, 13 and 16, given what was read of a text; where nothing was, the form is at fault.
abbrev pub form_rows : Option Description → List Row
form_rows none = row Form true ∷ []
form_rows (some d) = row Form false ∷ description_rows d

-- Row 1 and these of a text, given what was read of it.
abbrev pub case_rows : List ℕ → Option Description → List Row
case_rows text o = row Length (ltb most_bytes (length text)) ∷ form_rows o

-- The first that applies is given; none: the railway of what was read.
abbrev pub judged : Option Description → Option Refusal → CaseRead
judged o (some f) = refused f
judged none none = refused Form
judged (some d) none = accepted (railway_of d)

-- The answer to a text.
unfoldable pub case_answer : List ℕ → CaseRead
case_answer text = judged (read text) (first (case_rows text (read text)))
