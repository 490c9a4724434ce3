-- What program `deskrun` writes for a state (document 02, Q-1: the plan followed on the panel). Assumes nothing.
use Rattle.std.specs.Prelude.{cond, List, [], ◌∷◌, ◌++◌, ℕ, ◌+◌, eqb}
use Rattle.laws.specs.Below.{gather_below}
use Rattle.laws.specs.Bits.{bit}
use Rattle.text.specs.Text.{decimal, line_end, line, bytes}
use Rattle.game_tables.specs.Entries.{opens_in}
use Rattle.game_placement.specs.declared.Placement.{Placement}
use Rattle.game_placement.specs.ByValue.{section_in}
use Rattle.plan_lines.specs.Spelling.{point_piece}

-- A number, and a space behind it.
abbrev pub spaced : ℕ → List ℕ
spaced n = decimal n ++ bytes " "

-- Train t, by the document's number, and its section; `open`, if entry v of the setting table opens its signal.
abbrev pub train_piece : Placement → ℕ → ℕ → List ℕ
train_piece q v t = bytes "train " ++ spaced (t + 1) ++ bytes "at " ++ spaced (section_in q t + 1) ++ cond (opens_in v t) (bytes "open | ") (bytes "| ")

-- The points, `+` or `-` for each in their order; `none` if there are none.
abbrev pub points_part : ℕ → ℕ → List ℕ
points_part m v = cond (eqb m 0) (bytes "none") (gather_below (point_piece (bit v)) m)

-- THE LINE of a state that is not home: each of k trains; the figure, n; how m points lie by entry v.
abbrev pub state_line : ℕ → ℕ → Placement → ℕ → ℕ → List ℕ
state_line k m q n v = gather_below (train_piece q v) k ++ spaced n ++ bytes "left | points " ++ points_part m v ++ (line_end ∷ [])

-- The line of home.
abbrev pub home_line : List ℕ
home_line = line (bytes "home" ∷ [])

-- So many bytes has the longest of these lines at most, with no more trains and points than a railway can have.
abbrev pub most_state_bytes : ℕ
most_state_bytes = 200
