-- The links, the signals and the closed sections of a record, as they are lent to functions that ask them many times. Nothing of the documents rests on this file; contracts
-- cite it. Assumes nothing.
use Rattle.std.specs.Prelude.{◌≡◌, Bool, List, ℕ, length}
use Rattle.railway.specs.declared.Railway.{Railway}
use Rattle.railway.specs.Bounds.{most_sections, section_ends, all_ends}

-- These are the record's links, one for each end.
pub record LinksOf (r : Railway) (links : List ℕ) : Type 0 where
  pub are : r.links ≡ links
  pub many : length links ≡ all_ends

-- These are its signals, a flag for each section end.
pub record SignalsOf (r : Railway) (signals : List Bool) : Type 0 where
  pub are : r.signals ≡ signals
  pub many : length signals ≡ section_ends

-- These are its closed sections, a flag for each section.
pub record ClosedOf (r : Railway) (closed : List Bool) : Type 0 where
  pub are : r.closed ≡ closed
  pub many : length closed ≡ most_sections
