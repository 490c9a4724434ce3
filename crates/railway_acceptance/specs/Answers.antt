-- What the answers of the record's functions stand for, and the parts of a record that they are lent.
-- Contracts cite these; nothing of document 01 rests on the second part. Assumes nothing.
use Rattle.std.specs.Prelude.{◌≡◌, Bool, ◌&&◌, ◌||◌, List, ℕ, ◌+◌, ◌*◌, ◌<◌, ◌≤◌, ltb, leb, eqb, length, get_or}
use Rattle.laws.specs.Below.{any_below}
use Rattle.railway.specs.declared.Railway.{Railway}
use Rattle.railway.specs.CaseAnswer.{CaseAnswer}
use Rattle.railway.specs.declared.Train.{Train}
use Rattle.railway.specs.Bounds.{most_points, section_ends, all_ends}
use Rattle.railway.specs.Ends.{side_index}
use Rattle.railway.specs.Record.{no_link, legs_of}
use Rattle.railway.specs.Lent.{LinksOf}
use Rattle.railway.specs.Refusals.{number_given, number_of}
use Rattle.railway.specs.Rows.{record_refusal, unknown_link_at, wrong_link_at, unreturned_at}

-- What the test of a record answers: the first of rows 3 to 8, 13 and 16 that applies, by its number; accepted where none does.
abbrev pub Judged : Railway → CaseAnswer → Type 0
Judged r t = number_given t ≡ number_of (record_refusal r)

-- PARTS OF A RECORD, as functions of the test are lent them. Its counts, as so many section ends, and so many ends up to the last port.
pub record Counts (r : Railway) (ends ports : ℕ) : Type 0 where
  pub sections : 2 * r.sections ≡ ends
  pub points : section_ends + 3 * r.points ≡ ports

-- These are its trains, so many of them within its count, and there is room for them.
pub record RosterOf (r : Railway) (roster : List Train) (k : ℕ) : Type 0 where
  pub are : r.roster ≡ roster
  pub count : r.trains ≡ k
  pub room : k ≤ length roster

-- The sides of the legs of all points, each by its index.
pub record Sided (r : Railway) (sides : List ℕ) : Type 0 where
  pub each : (n : ℕ) → n < most_points → get_or sides n 0 ≡ side_index (legs_of r n)

-- What the pass over the links is lent.
pub record Lent (r : Railway) (links sides : List ℕ) (ends ports : ℕ) : Type 0 where
  pub linked : LinksOf r links
  pub sided : Sided r sides
  pub counts : Counts r ends ports

-- Nothing new is at index i: no join, or one to an end before it, which returns the link, so that the join has been met there.
abbrev pub seen_at : Railway → ℕ → Bool
seen_at r i =
    leb all_ends (get_or r.links i no_link)
    || (ltb (get_or r.links i no_link) i && eqb (get_or r.links (get_or r.links i no_link) no_link) i)

-- What it has found before index i: a link for row 4, and for row 5 a wrong one and one that is not returned.
pub record Looked (r : Railway) (i : ℕ) (u w b : Bool) : Type 0 where
  pub unknown : u ≡ any_below (unknown_link_at r) i
  pub wrong : w ≡ any_below (wrong_link_at r) i
  pub unreturned : b ≡ any_below (unreturned_at r) i
