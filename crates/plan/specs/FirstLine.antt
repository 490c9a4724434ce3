-- The first line of a text, its line end included. Nothing of document 01 rests on this file: `lines_of`, in Several, says what lines are.
-- Assumes nothing.
use Rattle.std.specs.Prelude.{cond, List, [], ◌∷◌, ℕ, suc, eqb, take}
use Rattle.text.specs.Text.{line_end}

-- How long it is: up to the first line end, or to the end of the text.
unfoldable pub line_bytes : List ℕ → ℕ
line_bytes [] = 0
line_bytes (b ∷ bs) = cond (eqb b line_end) 1 (suc (line_bytes bs))

-- The line.
abbrev pub first_of : List ℕ → List ℕ
first_of text = take (line_bytes text) text
