-- How a table of runs is filled, row by row and level by level. Nothing of the documents rests on this file: contracts of inner functions cite it, and the laws in proofs/ tie it to runs/Runs.
-- Assumes nothing.
use Rattle.std.specs.Prelude.{◌≡◌, cond, List, ℕ, suc, ◌≤◌, ◌<◌, eqb, length, get_or}
use Rattle.std.proofs.Math.Option.{none, some}
use Rattle.railway.specs.declared.Side.{Side}
use Rattle.railway.specs.declared.Railway.{Railway}
use Rattle.railway.specs.Bounds.{most_sections}
use Rattle.railway.specs.Record.{is_closed}
use Rattle.railway.specs.Rows.{record_refusal}
use Rattle.railway_routes.specs.Routes.{Way, nth, Laid}
use Rattle.runs.specs.Runs.{Enters, Run, no_run, IsRun}

-- An accepted record with these ways and so many sections.
pub record Lent (r : Railway) (ways : List ℕ) (s : ℕ) : Type 0 where
  pub accepted : record_refusal r ≡ none
  pub laid : Laid r (is_closed r) ways
  pub count : r.sections ≡ s

-- The length of a shortest run.
pub record Least (r : Railway) (heading : Side) (x y n : ℕ) : Type 0 where
  pub run : Run r heading x y n
  pub least : (m : ℕ) → Run r heading x y m → n ≤ m

-- An entry when runs of up to n sections have been looked at, and perhaps some of `most`: the length of a shortest run, or no run is that short.
pub data Known (r : Railway) (heading : Side) (x n most y v : ℕ) : Type 0 where
  found : v ≤ most → Least r heading x y v → Known r heading x n most y v
  not_yet : v ≡ no_run → ((m : ℕ) → Run r heading x y m → n < m) → Known r heading x n most y v

-- The row of section x after level n.
pub record RowTo (r : Railway) (heading : Side) (x n : ℕ) (row : List ℕ) : Type 0 where
  pub sized : length row ≡ most_sections
  pub each : (y : ℕ) → y < most_sections → Known r heading x n n y (get_or row y 0)

-- The same on the way to level n + 1, when what is entered from the sections below i has been looked at.
pub record LevelTo (r : Railway) (heading : Side) (x n i : ℕ) (row : List ℕ) : Type 0 where
  pub sized : length row ≡ most_sections
  pub each : (y : ℕ) → y < most_sections → Known r heading x n (suc n) y (get_or row y 0)
  pub seen : (y z : ℕ) → y < i → Least r heading x y n → Enters r heading y z → get_or row z 0 ≡ no_run → ⊥

-- The row of section x.
pub record IsRow (r : Railway) (heading : Side) (x : ℕ) (row : List ℕ) : Type 0 where
  pub sized : length row ≡ most_sections
  pub each : (y : ℕ) → y < most_sections → IsRun r heading x y (get_or row y 0)

-- An entry that is there stays; else it is n.
abbrev pub first_of : ℕ → ℕ → ℕ
first_of v n = cond (eqb v no_run) n v

-- One of the first j ways leads to section z.
pub record LeadsTo (ws : List Way) (j z : ℕ) : Type 0 where
  pub number : ℕ
  pub below : number < j
  pub way : Way
  pub is : nth ws number ≡ some way
  pub to : way.to ≡ z

-- An entry as it was, or n where there was none, for a way among the first j leads there.
pub data Entry (ws : List Way) (j n z old new : ℕ) : Type 0 where
  same : new ≡ old → Entry ws j n z old new
  fresh : old ≡ no_run → new ≡ n → LeadsTo ws j z → Entry ws j n z old new

-- The first j ways have been gone: the sections at their ends have entries.
pub record Reached (ws : List Way) (j n : ℕ) (old new : List ℕ) : Type 0 where
  pub sized : length old ≡ most_sections → length new ≡ most_sections
  pub each : length old ≡ most_sections → (z : ℕ) → Entry ws j n z (get_or old z 0) (get_or new z 0)
  pub covered : length old ≡ most_sections → (n ≡ no_run → ⊥) → (z : ℕ) → LeadsTo ws j z → get_or new z 0 ≡ no_run → ⊥
