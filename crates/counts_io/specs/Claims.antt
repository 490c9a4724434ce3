-- WHAT `showcounts` WRITES, BY WHOLE PLAYS (document 02, Q-8): every number in its text, for a case text that is accepted, is a number of placements with figures that can be forced, or the
-- largest of these figures. All of this is a statement. Assumes nothing.
use Rattle.std.specs.Prelude.{◌≡◌, List, ℕ, ◌≤◌, ◌<◌}
use Rattle.std.proofs.Math.Option.{some}
use Rattle.railway.specs.declared.Railway.{Railway}
use Rattle.railway.specs.declared.Refusal.TheVariants.{Space}
use Rattle.case_file.specs.Given.{AcceptedWith}
use Rattle.game.specs.Game.{IsFigure}
use Rattle.game.specs.Placement.{placements}
use Rattle.game.specs.Moves.{game_of}
use Rattle.game_tables.specs.Lengths.{entries}
use Rattle.answer_lines.specs.Lines.{refusal_line}
use Rattle.search_progress.specs.declared.Progress.{Progress}
use Rattle.counts.specs.Counts.{NumberOf, Spread}
use Rattle.counts_text.specs.Chart.{counts_text}
use Rattle.counts_io.specs.Shown.{CaseShown}

-- The placement of code p has figure n, by whole plays.
abbrev pub has : Railway → ℕ → ℕ → Type 0
has r p n = IsFigure (game_of r) p (some n)

-- THE TEXT of a railway's counts.
pub record CountsOfPlays (r : Railway) (text : List ℕ) : Type 0 where
  pub progress : Progress
  pub counts : List ℕ
  -- it is written of the number of placements, of how many lead home and the largest figure, and of the counts (counts_text/Chart)
  pub written : text ≡ counts_text (placements r) progress counts
  -- the counts say how many placements have each figure up to 254, a greater one, and none
  pub spread : Spread (IsFigure (game_of r)) (placements r) counts
  -- so many lead home as have a figure at all
  pub lead : NumberOf (λ p. (n : ℕ) × has r p n) (placements r) progress.count
  -- no figure is above the largest, which some placement has if any has one; else 0 is written for it
  pub most : (p n : ℕ) → p < placements r → has r p n → n ≤ progress.largest
  pub reached : 0 < progress.count → (p : ℕ) × (p < placements r) × has r p progress.largest
  pub nowhere : progress.count ≡ 0 → progress.largest ≡ 0

-- For a case text that is accepted: the text of its counts, if the program's tables have an entry for each placement, and else `refused` and 9.
pub record PlaysShown (r : Railway) (text : List ℕ) : Type 0 where
  pub fits : placements r ≤ entries → CountsOfPlays r text
  pub too_many : entries < placements r → text ≡ refusal_line Space

-- So with every case text that is accepted, and all that is written for it.
abbrev pub ShowsPlays : Type 0
ShowsPlays = (case text : List ℕ) (r : Railway) → AcceptedWith case r → CaseShown case text → PlaysShown r text
