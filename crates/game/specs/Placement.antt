-- Placements and their codes, home and lost (document 01, "A turn", beginning and third paragraph).
-- Sections and trains count from 0 here: the document's numbers less one. Assumes nothing.
use Rattle.std.specs.Prelude.{Bool, not, List, [], ◌∷◌, ℕ, zero, suc, ◌*◌, ◌/◌, ◌%◌, ◌^◌, length, get_or, ltb, eqb}
use Rattle.laws.specs.Below.{all_below, any_below, sum_below, list_below}
use Rattle.railway.specs.declared.Railway.{Railway}
use Rattle.railway.specs.Record.{train_of}

-- The code of a placement, given as the section of each train: each section times a power of the number of sections, in sum.
unfoldable pub code_of : ℕ → List ℕ → ℕ
code_of s xs = sum_below (λ t. get_or xs t 0 * s ^ t) (length xs)

-- The placement that a code stands for: the sections of k trains, the first train's first. (Placement, in proofs/: nothing is lost either way.)
unfoldable pub sections_in : ℕ → ℕ → ℕ → List ℕ
sections_in s zero p = []
sections_in s (suc k) p = (p % s) ∷ sections_in s k (p / s)

-- How many placements there are: the codes are the numbers below.
abbrev pub placements : Railway → ℕ
placements r = r.sections ^ r.trains

-- The sections of all trains in the placement of code p.
abbrev pub sections_of : Railway → ℕ → List ℕ
sections_of r p = sections_in r.sections r.trains p

-- The section on which train t stands there.
unfoldable pub stands_on : Railway → ℕ → ℕ → ℕ
stands_on r p t = get_or (sections_of r p) t 0

-- The code of the placement that has each train on the section given for it.
abbrev pub code_on : Railway → (ℕ → ℕ) → ℕ
code_on r section = code_of r.sections (list_below section r.trains)

-- A placement that is given so names a section that is not there.
unfoldable pub names_none : Railway → (ℕ → ℕ) → Bool
names_none r section = any_below (λ t. not (ltb (section t) r.sections)) r.trains

-- The code of the start: each train stands on its start.
unfoldable pub start_code : Railway → ℕ
start_code r = code_on r (λ t. (train_of r t).start.0)

-- Train t stands on its destination.
abbrev pub arrived : Railway → ℕ → ℕ → Bool
arrived r p t = eqb (stands_on r p t) (train_of r t).destination.0

-- Home: all trains do so at once.
unfoldable pub at_home : Railway → ℕ → Bool
at_home r p = all_below (arrived r p) r.trains

-- Trains t and u stand on the same section.
abbrev pub stands_with : Railway → ℕ → ℕ → ℕ → Bool
stands_with r p t u = eqb (stands_on r p u) (stands_on r p t)

-- Train t stands there with a lower one.
abbrev pub shares_lower : Railway → ℕ → ℕ → Bool
shares_lower r p t = any_below (stands_with r p t) t

-- Some two trains do: such a placement counts as lost.
unfoldable pub shared : Railway → ℕ → Bool
shared r p = any_below (shares_lower r p) r.trains
