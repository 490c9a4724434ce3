-- What the functions behind the call promise: a reader of what the call promises needs none of it. Assumes nothing.
use Rattle.std.specs.Prelude.{◌≡◌, Bool, true, false, List, ℕ, ◌≤◌, ◌<◌}
use Rattle.std.proofs.Math.Option.{none}
use Rattle.railway.specs.declared.Railway.{Railway}
use Rattle.game_tables.specs.SolverAnswer.{SolverAnswer, Refused, Unsolvable, Figure}
use Rattle.game_tables.specs.Tables.{case_refusal}
use Rattle.game_tables.specs.Solver.{Kept, SolverTables, SolverPost}
use Rattle.advice.specs.Advising.{HasNone, ends_of, tries, with_one, NoneBefore, last_tried, case_of}

-- Every end before index i has a signal.
abbrev pub AllSignals : Railway → ℕ → Type 0
AllSignals r i = (j : ℕ) → j < i → tries r j ≡ false

-- The first end without a signal has index i; there is none if that is the number of ends.
pub record FirstBare (r : Railway) (i : ℕ) : Type 0 where
  pub within : i ≤ ends_of r
  pub signals : AllSignals r i
  pub bare : i < ends_of r → tries r i ≡ true

-- The case itself has not been solved. What was lent is long enough, and is as it was past the last code.
pub record Untried (r : Railway) (i : ℕ) (figs sets figs' sets' : List ℕ) : Type 0 where
  pub fine : case_refusal r figs sets ≡ none
  pub signals : AllSignals r i
  pub kept-figs : Kept r figs figs'
  pub kept_sets : Kept r sets sets'

-- The start has no figure, and no end before index i gives it one; the tables, which were lent so, are those of the last case tried.
pub record TriedTo (r : Railway) (i : ℕ) (figs sets figs' sets' : List ℕ) : Type 0 where
  pub fine : case_refusal r figs sets ≡ none
  pub unsolved : HasNone r
  pub none_yet : NoneBefore r i
  pub tables : SolverTables (case_of r (last_tried r i)) figs sets figs' sets'

-- An answer of the solver has a figure.
abbrev pub solved : SolverAnswer → Bool
solved (Refused f) = false
solved Unsolvable = false
solved (Figure n) = true

-- One end is tried: it has a signal and is passed over, or the case with one more there is solved.
pub data TriedPost (r : Railway) (i : ℕ) (b : Bool) (figs sets figs' sets' : List ℕ) : Type 0 where
  passed_over : tries r i ≡ false → b ≡ false → figs' ≡ figs → sets' ≡ sets → TriedPost r i b figs sets figs' sets'
  is-tried : (a : SolverAnswer) → tries r i ≡ true → b ≡ solved a → SolverPost (with_one r i) a figs sets figs' sets' → TriedPost r i b figs sets figs' sets'
