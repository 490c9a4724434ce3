-- WHAT PROGRAM `showcounts` WRITES of the counts (document 02, Q-8: a measure of a layout): how many placements there are, how many lead home and how many have no figure, the largest figure,
-- and then how the figures are spread, in rows with a bar each. The form is our own. Assumes nothing.
use Rattle.std.specs.Prelude.{cond, List, [], ◌∷◌, ◌++◌, ℕ, ◌+◌, ◌*◌, ◌-◌, ◌/◌, ◌≤◌, ◌<◌, get_or, ltb, eqb}
use Rattle.laws.specs.Below.{sum_below, gather_below}
use Rattle.text.specs.Text.{byte, decimal, line, bytes}
use Rattle.search_progress.specs.declared.Progress.{Progress}
use Rattle.counts.specs.Counts.{alone}

-- A word and a number.
abbrev pub named : List ℕ → ℕ → List ℕ
named word n = line (word ∷ decimal n ∷ [])

-- THE HEAD, of m placements: how far a search has come that has ended is how many lead home, and the largest figure; so many have none.
abbrev pub head_text : ℕ → Progress → ℕ → List ℕ
head_text m a without = named (bytes "placements") m ++ named (bytes "lead home") a.count ++ named (bytes "none") without ++ named (bytes "largest figure") a.largest

-- A BAR. The longest, of all that lead home.
abbrev pub longest : ℕ
longest = 40

-- A count of c has a mark for each fortieth of the h that lead home, begun ones too.
abbrev pub marks : ℕ → ℕ → ℕ
marks c h = cond (ltb c h) ((c * longest + (h - 1)) / h) longest

-- One mark.
abbrev pub mark_piece : ℕ → List ℕ
mark_piece i = byte "#" ∷ []

-- So many of them.
abbrev pub bar : ℕ → List ℕ
bar n = gather_below mark_piece n

-- A ROW: what it is of, the count, its bar. There is none where nothing is counted.
abbrev pub row_text : ℕ → List ℕ → ℕ → List ℕ
row_text h label c = cond (eqb c 0) [] (line (label ∷ decimal c ∷ bar (marks c h) ∷ []))

-- THE ROWS of figures that have a count of their own: no more than so many.
abbrev pub rows : ℕ
rows = 17

-- So many figures stand in a row behind its first, by the largest: as few as will do. (With 14 more in each, 17 rows have the figures 0 to 254.)
abbrev pub span : ℕ → ℕ
span largest = cond (ltb largest alone) largest 254 / rows

-- The first of row b.
abbrev pub first_of : ℕ → ℕ → ℕ
first_of s b = b * (s + 1)

-- What the row is of: its figure; or its first and its last.
abbrev pub label : ℕ → ℕ → List ℕ
label s first = cond (eqb s 0) (decimal first) (decimal first ++ bytes "-" ++ decimal (first + s))

-- A number as it can be written, with 32 bits. (No yard has so many placements.)
abbrev pub capped : ℕ → ℕ
capped n = cond (ltb n 4294967296) n 4294967295

-- How many placements have one of its figures.
abbrev pub together : List ℕ → ℕ → ℕ → ℕ
together counts s first = capped (sum_below (λ j. get_or counts (first + j) 0) (s + 1))

-- The row itself, of the h that lead home.
abbrev pub figure_row : ℕ → ℕ → List ℕ → ℕ → List ℕ
figure_row h s counts b = row_text h (label s (first_of s b)) (together counts s (first_of s b))

-- The row of all greater figures.
abbrev pub more_row : ℕ → ℕ → List ℕ
more_row h c = row_text h (bytes "more") c

-- ALL OF IT. Of the counts the last is that of none, the last but one that of the greater figures.
unfoldable pub counts_text : ℕ → Progress → List ℕ → List ℕ
counts_text m a counts = head_text m a (get_or counts 256 0) ++ gather_below (figure_row a.count (span a.largest) counts) rows ++ more_row a.count (get_or counts 255 0)

-- So many bytes it has at most.
abbrev pub chart_bytes : ℕ
chart_bytes = 2048

-- Every figure with a count of its own, up to the largest, is in a row, and no row reaches beyond them.
pub record RowsCover (largest : ℕ) : Type 0 where
  pub all : (n : ℕ) → n ≤ largest → n < alone → n < first_of (span largest) rows
  pub no_more : first_of (span largest) rows ≤ alone
