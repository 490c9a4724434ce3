-- The text of a case file piece by piece, as code writes it: a piece for each point, end, section or train. Contracts cite this file; nothing of
-- document 01 rests on it, and proofs/Pieces ties it to the writer's text. Assumes nothing.
use Rattle.std.specs.Prelude.{Bool, cond, List, [], ◌∷◌, ℕ, suc, ltb}
use Rattle.text.specs.Text.{byte, decimal, line}
use Rattle.railway.specs.Joined.{Joined, Nothing, With}
use Rattle.railway.specs.declared.Railway.{Railway}
use Rattle.railway.specs.Ends.{end_index, end_at}
use Rattle.railway.specs.Record.{joined, has_signal, is_closed, legs_of, train_of}
use Rattle.case_file.specs.Form.{end_field, point_line, join_line, closed_line, train_line}
use Rattle.case_file.specs.Recording.{field_of}
use Rattle.case_file.specs.Writing.{line_of_train}

-- The first line.
abbrev pub header_text : ℕ → ℕ → ℕ → List ℕ
header_text s p k = line ((byte "H" ∷ []) ∷ decimal s ∷ decimal p ∷ decimal k ∷ [])

-- What stands for an end among the J lines, given what it is joined to.
abbrev pub join_piece : ℕ → Joined → List ℕ
join_piece i Nothing = []
join_piece i (With f) = cond (ltb i (end_index f)) (join_line (record { one = field_of (end_at i); other = field_of f })) []

-- What stands for a section end among the G lines, given whether a signal stands there.
abbrev pub signal_piece : ℕ → Bool → List ℕ
signal_piece i stands = cond stands (line ((byte "G" ∷ []) ∷ end_field (field_of (end_at i)) ∷ [])) []

-- What stands for a section among the X lines, given whether it is closed.
abbrev pub closed_piece : ℕ → Bool → List ℕ
closed_piece x shut = cond shut (closed_line (suc x)) []

-- The pieces of each part, as a record has them.
abbrev pub point_of : Railway → ℕ → List ℕ
point_of r i = point_line (suc i) (legs_of r i)

abbrev pub join_of : Railway → ℕ → List ℕ
join_of r i = join_piece i (joined r (end_at i))

abbrev pub signal_of : Railway → ℕ → List ℕ
signal_of r i = signal_piece i (has_signal r (end_at i))

abbrev pub closed_of : Railway → ℕ → List ℕ
closed_of r x = closed_piece x (is_closed r x)

abbrev pub train_at : Railway → ℕ → List ℕ
train_at r i = train_line (suc i) (line_of_train (train_of r i))
