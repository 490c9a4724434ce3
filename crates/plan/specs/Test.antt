-- The test of a plan (document 01, "The two tables and the plan": test of a plan; its last sentence by weights, document 02, Q-12), a field for each of its
-- sentences, over what a plan lists.
-- Plans are read off their lines here, and off two tables. Assumes nothing.
use Rattle.std.specs.Prelude.{◌≡◌, Bool, true, false, cond, List, [], ◌∷◌, ℕ, ◌<◌, get_or, eqb}
use Rattle.std.proofs.Math.Option.{Option, none, some}
use Rattle.laws.specs.Bits.{bit}
use Rattle.railway.specs.declared.Railway.{Railway}
use Rattle.game.specs.Claim.{Keeps}
use Rattle.game.specs.Placement.{placements, start_code, at_home, shared}
use Rattle.game.specs.Setting.{Setting, held}
use Rattle.game.specs.Moves.{game_of}
use Rattle.game_tables.specs.Entries.{opens_in, setting_from}
use Rattle.game_tables.specs.Tables.{figure_in}
use Rattle.plan.specs.Lines.{PlacementLine, line_code}

-- What a plan lists at a placement: its figure (none: the placement is not listed), the open trains, the points at plus.
pub record Listing : Type 0 where
  pub figure : ℕ → Option ℕ
  pub opens : ℕ → ℕ → Bool
  pub plus : ℕ → ℕ → Bool

-- The whole setting that is listed there.
unfoldable pub listed_setting : Railway → Listing → ℕ → Setting
listed_setting r L p = setting_from r p (L.plus p) (L.opens p)

-- A plan with figure m in its first line passes the test.
pub record Test (r : Railway) (m : ℕ) (L : Listing) : Type 0 where
  -- the first line has the figure with which the start is listed
  pub start : L.figure (start_code r) ≡ some m
  -- in a listed placement every train has its section to itself
  pub apart : (p n : ℕ) → p < placements r → L.figure p ≡ some n → shared r p ≡ false
  -- in a listed placement a train that is opened has a signal to open: it is not parked, and one stands ahead of it
  pub signalled : (p n t : ℕ) → p < placements r → L.figure p ≡ some n → t < r.trains → L.opens p t ≡ true → held r p t ≡ true
  -- in a listed placement that is not home somebody may move, and nobody can but to a listed placement whose figure, with the weight of the train that
  -- moves added to it, is not above this one's
  pub kept : (p n : ℕ) → p < placements r → L.figure p ≡ some n → at_home r p ≡ false → Keeps (game_of r) L.figure p (listed_setting r L p) n

-- WHAT LINES LIST. The line for placement p.
unfoldable pub line_on : Railway → List PlacementLine → ℕ → Option PlacementLine
line_on r [] p = none
line_on r (d ∷ ds) p = cond (eqb (line_code r d) p) (some d) (line_on r ds p)

-- Its figure; without such a line the placement is not listed.
abbrev pub figure_on : Option PlacementLine → Option ℕ
figure_on none = none
figure_on (some d) = some d.figure

-- Its open trains.
abbrev pub opens_on : Option PlacementLine → ℕ → Bool
opens_on none t = false
opens_on (some d) t = get_or d.opens t false

-- Its points at plus.
abbrev pub plus_on : Option PlacementLine → ℕ → Bool
plus_on none n = false
plus_on (some d) n = get_or d.plus n false

-- What the lines of a plan list.
abbrev pub by_lines : Railway → List PlacementLine → Listing
by_lines r ds = record { figure = λ p. figure_on (line_on r ds p); opens = λ p. opens_on (line_on r ds p); plus = λ p. plus_on (line_on r ds p) }

-- WHAT TABLES LIST: the placements with a figure.
abbrev pub by_tables : List ℕ → List ℕ → Listing
by_tables figs sets = record { figure = figure_in figs; opens = λ p. opens_in (get_or sets p 0); plus = λ p. bit (get_or sets p 0) }
