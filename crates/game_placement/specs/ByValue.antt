-- What is read off a placement by value (document 02, Q-7: the placement that is looked up; Q-1: that of a desk). Nothing of document 01 rests on this file.
-- Assumes nothing.
use Rattle.std.specs.Prelude.{ℕ, get_or}
use Rattle.game_placement.specs.declared.Placement.{Placement}

-- The section of a train.
abbrev pub section_in : Placement → ℕ → ℕ
section_in q t = get_or q.sections t 0
