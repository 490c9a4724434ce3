-- The bounds of a railway record (document 01, "The railway", first item), each once. All else is worked out from them.
-- `Railway::empty` promises that the associated constants of the type are these numbers. Assumes nothing.
use Rattle.std.specs.Prelude.{ℕ, ◌+◌, ◌*◌}

-- The fewest sections that a railway may have.
abbrev pub fewest_sections : ℕ
fewest_sections = 1

-- The most sections.
abbrev pub most_sections : ℕ
most_sections = 48

-- The most points; there need be none.
abbrev pub most_points : ℕ
most_points = 16

-- The fewest trains.
abbrev pub fewest_trains : ℕ
fewest_trains = 1

-- The most trains.
abbrev pub most_trains : ℕ
most_trains = 4

-- The least weight of a train: what one move of it costs (document 02, Q-12).
abbrev pub least_weight : ℕ
least_weight = 1

-- The largest weight.
abbrev pub most_weight : ℕ
most_weight = 255

-- The ends of that many sections: each has two.
abbrev pub section_ends : ℕ
section_ends = 2 * most_sections

-- All ends: those, and the three ports of each point.
abbrev pub all_ends : ℕ
all_ends = section_ends + 3 * most_points
