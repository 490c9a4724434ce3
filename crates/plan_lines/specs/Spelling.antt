-- A placement's line by the parts that code has of it, and the pieces that it is spelled in. Contracts cite
-- this file; nothing of document 01 rests on it. Assumes nothing.
use Rattle.std.specs.Prelude.{Bool, cond, List, [], ◌∷◌, ◌++◌, ℕ}
use Rattle.laws.specs.Below.{list_below}
use Rattle.laws.specs.Bits.{bit}
use Rattle.text.specs.Text.{tab}
use Rattle.game_tables.specs.Entries.{opens_in}
use Rattle.plan.specs.Lines.{PlacementLine, train_digit, sign, section_field}
use Rattle.game_placement.specs.declared.Placement.{Placement}
use Rattle.game_placement.specs.ByValue.{section_in}

-- The line of a placement by value, of k trains, with figure n and entry v of the setting table over m points.
abbrev pub line_of : ℕ → ℕ → Placement → ℕ → ℕ → PlacementLine
line_of k m q n v =
    record {
      sections = list_below (section_in q) k;
      figure = n;
      opens = list_below (opens_in v) k;
      plus = list_below (bit v) m;
    }

-- What is written of train t: its section, and a tab.
abbrev pub section_piece : Placement → ℕ → List ℕ
section_piece q t = section_field (section_in q t) ++ (tab ∷ [])

-- What is written of train t among the open ones: its digit, where it is open.
abbrev pub open_piece : (ℕ → Bool) → ℕ → List ℕ
open_piece opens t = cond (opens t) (train_digit t ∷ []) []

-- What is written of point n: its sign.
abbrev pub point_piece : (ℕ → Bool) → ℕ → List ℕ
point_piece plus n = sign (plus n) ∷ []
