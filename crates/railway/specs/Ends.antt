-- Ends and their sides (document 01, "The railway": end, side, leg), and the index of an end in the record's tables.
-- Sections and points count from 0 in the record: the document's number less one. Assumes nothing.
use Rattle.std.specs.Prelude.{Bool, true, false, cond, ℕ, ◌+◌, ◌-◌, ◌*◌, ◌/◌, ◌%◌, ◌<◌, ltb, eqb}
use Rattle.railway.specs.declared.Side.{Side}
use Rattle.railway.specs.declared.Side.TheVariants.{Up, Down}
use Rattle.railway.specs.declared.Leg.{Leg}
use Rattle.railway.specs.declared.Leg.TheVariants.{Stem, Plus, Minus}
use Rattle.railway.specs.declared.End.{End}
use Rattle.railway.specs.declared.End.TheVariants.{Section, Port}
use Rattle.railway.specs.Bounds.{most_sections, most_points, section_ends, all_ends}

-- The other side.
abbrev pub opposite : Side → Side
opposite Up = Down
opposite Down = Up

-- Two sides are one.
abbrev pub same_side : Side → Side → Bool
same_side Up Up = true
same_side Up Down = false
same_side Down Up = false
same_side Down Down = true

-- The side that a point's port lies on, given the side of its legs: plus and minus on that side, the stem on the other.
abbrev pub port_side : Side → Leg → Side
port_side legs Stem = opposite legs
port_side legs Plus = legs
port_side legs Minus = legs

-- The index of a section's end among its two.
abbrev pub side_index : Side → ℕ
side_index Down = 0
side_index Up = 1

-- The index of a port among its point's.
abbrev pub leg_index : Leg → ℕ
leg_index Stem = 0
leg_index Plus = 1
leg_index Minus = 2

-- An end's index: 1d, 1u, 2d, 2u, .. are 0, 1, 2, 3, ..; behind the section ends come 1s, 1+, 1-, 2s, ..
-- A section or point whose number no railway can have has no index of its own: its ends get the number past the last.
abbrev pub end_index : End → ℕ
end_index (Section n s) = cond (ltb n.0 most_sections) (2 * n.0 + side_index s) all_ends
end_index (Port n l) = cond (ltb n.0 most_points) (section_ends + 3 * n.0 + leg_index l) all_ends

-- An end whose number a railway can have.
abbrev pub Numbered : End → Type 0
Numbered (Section n s) = n.0 < most_sections
Numbered (Port n l) = n.0 < most_points

-- The side of an index.
abbrev pub side_at : ℕ → Side
side_at i = cond (eqb i 0) Down Up

-- The port of an index.
abbrev pub leg_at : ℕ → Leg
leg_at i = cond (eqb i 0) Stem (cond (eqb i 1) Plus Minus)

-- The end of an index: a section end below `section_ends`, a port from there on.
unfoldable pub end_at : ℕ → End
end_at i =
    cond (ltb i section_ends) (Section (record { 0 = i / 2 }) (side_at (i % 2)))
    (Port (record { 0 = (i - section_ends) / 3 }) (leg_at ((i - section_ends) % 3)))
