-- What contracts of single steps say of a placement by value. Nothing of document 01 rests on this file.
-- Assumes nothing.
use Rattle.std.specs.Prelude.{◌≡◌, Bool, cond, not, ◌&&◌, List, ℕ, ◌+◌, ◌-◌, ◌*◌, ◌^◌, ltb, eqb}
use Rattle.railway.specs.declared.Railway.{Railway}
use Rattle.railway.specs.Bounds.{most_trains}
use Rattle.game.specs.Placement.{stands_on}
use Rattle.game.specs.Setting.{held, free}
use Rattle.railway_compiled.specs.Table.{Compiled}
use Rattle.game_placement.specs.declared.Placement.{Placement}
use Rattle.game_placement.specs.ByValue.{section_in}

-- What stands for no code: no railway has so many placements.
abbrev pub no_code : ℕ
no_code = 4294967295

-- The stride of a train with t before it, among s sections: what one section more of it counts in a code. No railway has a train with more
-- before it than the most trains; it would count as much as that one.
abbrev pub stride_of : ℕ → ℕ → ℕ
stride_of s t = s ^ cond (ltb t most_trains) t most_trains

-- A number as a code; what stands for none, if it is too large.
abbrev pub code_or : ℕ → ℕ
code_or p = cond (ltb p no_code) p no_code

-- What code c becomes when a train of this stride is put from section x on section y; what stands for none, if that is no code.
abbrev pub code_put : ℕ → ℕ → ℕ → ℕ → ℕ
code_put c stride x y = cond (ltb (c + y * stride) (x * stride)) no_code (code_or (c + y * stride - x * stride))

-- The table is that of railway r, and q the placement of code p there.
pub record On (r : Railway) (p : ℕ) (table : List ℕ) (q : Placement) : Type 0 where
  pub compiled : Compiled r table
  pub stands : (t : ℕ) → section_in q t ≡ stands_on r p t

-- The section of train u when train t has been put on section x.
abbrev pub moved_to : Placement → ℕ → ℕ → ℕ → ℕ
moved_to q t x u = cond (eqb u t) x (section_in q u)

-- The same in a placement that train t has been put in by value: it has no place for a train past the most, and stays as it was.
abbrev pub put_in : Placement → ℕ → ℕ → ℕ → ℕ
put_in q t x u = cond (ltb t most_trains) (moved_to q t x u) (section_in q u)

-- Train t is held; one past the most is not.
abbrev pub held_in : Railway → ℕ → ℕ → Bool
held_in r p t = ltb t most_trains && held r p t

-- Train t is free; one past the most is not.
abbrev pub free_in : Railway → ℕ → ℕ → Bool
free_in r p t = ltb t most_trains && free r p t

-- Train u, another than t, stands on section x.
abbrev pub other_in : Placement → ℕ → ℕ → ℕ → Bool
other_in q t x u = not (eqb u t) && eqb (section_in q u) x
