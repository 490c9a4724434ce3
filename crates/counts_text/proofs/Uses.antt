-- The statement on rows at work: whatever the largest figure is, 100 is in a row if it is no larger, and no row has a figure that is not counted for itself. Assumes nothing.
use Prim.Native.Nat.{ℕ, ◌*◌, ◌+◌, ◌≤◌, ◌<◌}
use native.Mathlib.Omega.{arith}
use Rattle.counts_text.specs.Chart.{rows, span, RowsCover}
use Rattle.counts_text.proofs.Chart.{rows-cover}

module _ (largest : ℕ) (covers : RowsCover largest) where
  hundred : 100 ≤ largest → 100 < rows * (span largest + 1)
  hundred l = covers.all 100 l (omega arith)

  none-greater : rows * (span largest + 1) ≤ 255
  none-greater = covers.no_more

-- and it holds
all-rows : (largest : ℕ) → rows * (span largest + 1) ≤ 255
all-rows largest = none-greater largest (rows-cover largest)
