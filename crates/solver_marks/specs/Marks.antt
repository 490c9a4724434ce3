-- Marks: for each stretch of codes one for each train, and one for its figures. Nothing of the documents rests on this file: contracts of single steps cite it. Assumes nothing.
use Rattle.std.specs.Prelude.{◌≡◌, List, ℕ, ◌+◌, ◌*◌, ◌/◌, ◌^◌, ◌≤◌, ◌<◌, length, get_or}
use Rattle.railway.specs.Bounds.{most_sections, most_trains}
use Rattle.game_tables.specs.Tables.{no_figure}

-- How many codes a stretch has.
abbrev pub stretch_length : ℕ
stretch_length = 9 * most_sections

-- The stretch of a code.
abbrev pub stretch_of : ℕ → ℕ
stretch_of c = c / stretch_length

-- The most codes that a railway can have.
abbrev pub most_codes : ℕ
most_codes = most_sections ^ most_trains

-- How many stretches these are.
abbrev pub stretches : ℕ
stretches = most_codes / stretch_length

-- The mark of a code's stretch for what train t's weight makes due: no round before it is due there by that weight. Each train has its own stretches of marks.
abbrev pub due_at : List ℕ → ℕ → ℕ → ℕ
due_at marks t c = get_or marks (t * stretches + stretch_of c) 0

-- The mark of a code's stretch for its figures: none is larger. These stand behind those of all trains.
abbrev pub most_at : List ℕ → ℕ → ℕ
most_at marks c = get_or marks (most_trains * stretches + stretch_of c) 0

-- There is a mark for each train and stretch, and one more for each stretch.
pub record Room (marks : List ℕ) : Type 0 where
  pub enough : length marks ≡ (most_trains + 1) * stretches

-- The first round that a new figure can make due by the weight of train t, of four that are handed over.
abbrev pub soon_by : List ℕ → ℕ → ℕ
soon_by s t = get_or s t 0

-- The stretch of code c has gained figure n, for which these rounds are the first that can be due: its marks allow for that, and no mark allows for less than
-- before.
pub record Raised (marks : List ℕ) (c n : ℕ) (soon : List ℕ) (marks' : List ℕ) : Type 0 where
  pub sooner : (t q : ℕ) → t < most_trains → q < most_codes → due_at marks' t q ≤ due_at marks t q
  pub higher : (q : ℕ) → q < most_codes → most_at marks q ≤ most_at marks' q
  pub due : (t : ℕ) → t < most_trains → soon_by soon t < no_figure → due_at marks' t c ≤ soon_by soon t
  pub most : n ≤ most_at marks' c
  pub room : Room marks'

-- For train t's weight this round is now the one due for the stretch of code c; all other marks are as they were.
pub record Set (marks : List ℕ) (t c due : ℕ) (marks' : List ℕ) : Type 0 where
  pub here : (q : ℕ) → stretch_of q ≡ stretch_of c → due_at marks' t q ≡ due
  pub others : (u q : ℕ) → u < most_trains → q < most_codes → (u ≡ t → stretch_of q ≡ stretch_of c → ⊥) → due_at marks' u q ≡ due_at marks u q
  pub most : (q : ℕ) → q < most_codes → most_at marks' q ≡ most_at marks q
  pub room : Room marks'

-- ONE MARK of any list, whatever it says. It is x at most, unless x is the largest number; the others are as they were.
pub record Lowered (marks : List ℕ) (i x : ℕ) (marks' : List ℕ) : Type 0 where
  pub there : i < length marks → x < no_figure → get_or marks' i 0 ≤ x
  pub each : (j : ℕ) → get_or marks' j 0 ≤ get_or marks j 0
  pub others : (j : ℕ) → (j ≡ i → ⊥) → get_or marks' j 0 ≡ get_or marks j 0

-- It is x at least, the others are as they were.
pub record Lifted (marks : List ℕ) (i x : ℕ) (marks' : List ℕ) : Type 0 where
  pub there : i < length marks → x ≤ get_or marks' i 0
  pub each : (j : ℕ) → get_or marks j 0 ≤ get_or marks' j 0
  pub others : (j : ℕ) → (j ≡ i → ⊥) → get_or marks' j 0 ≡ get_or marks j 0
