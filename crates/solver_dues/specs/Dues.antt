-- Which rounds behind a round the figures of some codes and the weights of the trains make. Nothing of the documents rests on this file: contracts of the
-- solver's steps cite it, and what a round that is due means is in game_tables/Rounds (`Due`). Assumes nothing.
use Rattle.std.specs.Prelude.{◌≡◌, Bool, false, List, ℕ, ◌+◌, ◌≤◌, ◌<◌, get_or, eqb}
use Rattle.std.proofs.Math.Option.{some}
use Rattle.laws.specs.Below.{any_below}
use Rattle.railway.specs.declared.Railway.{Railway}
use Rattle.railway.specs.Record.{weight_of}
use Rattle.game_tables.specs.Tables.{no_figure, figure_in}
use Rattle.solver_marks.specs.Marks.{due_at, soon_by}

-- Trains t and u have the same weight.
abbrev pub same_weight : Railway → ℕ → ℕ → Bool
same_weight r t u = eqb (weight_of r u) (weight_of r t)

-- Entries of a range of codes that are `lo` or more are f or more.
abbrev pub LeastFrom : List ℕ → ℕ → ℕ → ℕ → ℕ → Type 0
LeastFrom figs lo from upto f = (q : ℕ) → from ≤ q → q < upto → lo ≤ get_or figs q no_figure → f ≤ get_or figs q no_figure

-- The rounds behind n that the figures of a range, those that are `most` at most, make with weight w are d or later.
pub record DueBy (figs : List ℕ) (most n w from upto d : ℕ) : Type 0 where
  pub later : (q j : ℕ) → from ≤ q → q < upto → figure_in figs q ≡ some j → j ≤ most → n < j + w → d ≤ j + w

-- These are the first rounds that a figure n makes due, by the weight of each train that is the lowest to have it.
abbrev pub SoonAfter : Railway → ℕ → List ℕ → Type 0
SoonAfter r n soon = (t : ℕ) → t < r.trains → any_below (same_weight r t) t ≡ false → soon_by soon t ≡ n + weight_of r t

-- By the marks, the rounds behind n that are due for codes below m are e or later, by the weights of the first k trains.
abbrev pub NextBy : Railway → List ℕ → ℕ → ℕ → ℕ → ℕ → Type 0
NextBy r marks m n k e = (t q i : ℕ) → t < k → any_below (same_weight r t) t ≡ false → q < m → n < i → due_at marks t q ≤ i → e ≤ i
