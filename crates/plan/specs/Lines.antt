-- The lines of a plan: what they say, how they are written, which fit a case (document 01, "The two tables and the plan": plan text).
-- Sections, trains and points count from 0 here: the document's numbers less one. Assumes nothing.
use Rattle.std.specs.Prelude.{◌≡◌, Bool, true, false, cond, ◌&&◌, List, [], ◌∷◌, ◌++◌, map, ℕ, suc, ◌+◌, ◌≤◌, length, get_or, eqb, ltb}
use Rattle.std.proofs.Math.Option.{none}
use Rattle.laws.specs.Below.{which_below}
use Rattle.laws.specs.Lists.{all}
use Rattle.text.specs.Text.{byte, decimal, line, bytes}
use Rattle.railway.specs.declared.Railway.{Railway}
use Rattle.railway.specs.Rows.{record_refusal}
use Rattle.game.specs.Placement.{code_of}
use Rattle.game_tables.specs.Tables.{no_figure}

-- What a line for a placement says: the section of each train, the figure, which trains are open, which points lie at plus.
pub record PlacementLine : Type 0 where
  pub sections : List ℕ
  pub figure : ℕ
  pub opens : List Bool
  pub plus : List Bool

-- A line: the first, with the start's figure, or one for a placement.
pub data PlanLine : Type 0 where
  start_line : ℕ → PlanLine
  placement_line : PlacementLine → PlanLine

-- HOW A LINE IS WRITTEN. What stands for an empty field.
abbrev pub or_byte : ℕ → List ℕ → List ℕ
or_byte b [] = b ∷ []
or_byte b (x ∷ xs) = x ∷ xs

-- The digit of a train, by the document's number.
abbrev pub train_digit : ℕ → ℕ
train_digit t = byte "1" + t

-- Open trains: their digits, rising; `0` if there are none.
abbrev pub open_field : List Bool → List ℕ
open_field os = or_byte (byte "0") (map train_digit (which_below (λ t. get_or os t false) (length os)))

-- `+` for a point at plus, `-` for one at minus.
abbrev pub sign : Bool → ℕ
sign plus = cond plus (byte "+") (byte "-")

-- Points: a sign for each, in their order; `.` if there are none.
abbrev pub point_field : List Bool → List ℕ
point_field ps = or_byte (byte ".") (map sign ps)

-- A train's section, by the document's number.
abbrev pub section_field : ℕ → List ℕ
section_field x = decimal (suc x)

-- The word that begins the first line.
abbrev pub plan_word : List ℕ
plan_word = bytes "plan"

-- The fields of a line of either kind.
abbrev pub line_fields : PlanLine → List (List ℕ)
line_fields (start_line n) = plan_word ∷ decimal n ∷ []
line_fields (placement_line d) = map section_field d.sections ++ (decimal d.figure ∷ open_field d.opens ∷ point_field d.plus ∷ [])

-- A line as it is written.
unfoldable pub spell : PlanLine → List ℕ
spell l = line (line_fields l)

-- WHICH LINES FIT A CASE: a section that is there for each train, a figure that is not none, the case's trains and points.
unfoldable pub fits : Railway → PlanLine → Bool
fits r (start_line n) = ltb n no_figure
fits r (placement_line d) =
    eqb (length d.sections) r.trains
    && all (λ x. ltb x r.sections) d.sections
    && ltb d.figure no_figure
    && eqb (length d.opens) r.trains
    && eqb (length d.plus) r.points

-- A text is the spelling of a line that fits the case. (Reading, in proofs/: of one line at most.)
pub record Spells (r : Railway) (text : List ℕ) (l : PlanLine) : Type 0 where
  pub fit : fits r l ≡ true
  pub spelled : spell l ≡ text

-- The most bytes of a line, its end included.
abbrev pub most_line_bytes : ℕ
most_line_bytes = 45

-- No line that fits an accepted case has more, so a longer text is refused by its form alone.
abbrev pub LinesShort : Type 0
LinesShort = (r : Railway) → record_refusal r ≡ none → (l : PlanLine) → fits r l ≡ true → length (spell l) ≤ most_line_bytes

-- The code of a line's placement.
abbrev pub line_code : Railway → PlacementLine → ℕ
line_code r d = code_of r.sections d.sections

-- The lines of a plan: the first line, and those for placements.
abbrev pub plan_of : ℕ → List PlacementLine → List PlanLine
plan_of m ds = start_line m ∷ map placement_line ds
