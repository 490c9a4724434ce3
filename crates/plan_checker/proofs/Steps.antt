-- Entering lines into lent tables, by the tests that code makes: a table made fresh, an entry put, a line taken or refused by what it says.
-- Assumes nothing.
use mathlib.Core.Path.{◌≡◌}
use mathlib.Core.List.{List}
use Prim.Native.Nat.{ℕ, ◌+◌, ◌≤◌, ◌<◌}
use lib.ListN.{set}
use borrow.Author.Tests.{lt-ltb, le-ltb}
use Rattle.railway.specs.declared.Refusal.TheVariants.{PlanForm}
use Rattle.plan.specs.declared.CheckerState.{CheckerState}
use Rattle.plan.specs.declared.CheckerState.TheVariants.{Fresh, Begun}
use Rattle.plan.specs.LineAnswer.{LineAnswer}
use Rattle.plan.specs.Checker.{Checking, Left}
use Rattle.plan.specs.Steps.{refuse}
use Rattle.plan_reader.specs.LineRead.{LineRead, Start, Placed}
use Rattle.plan_checker.specs.Steps.{taken_with, takes_start, takes_placement, takes_read, CodeSmall}

-- A LINE, w being what the call leaves
module _ (c : Checking) (s : CheckerState) (w : Left LineAnswer) where
  -- a first line
  pub start_first : (n : ℕ) → s ≡ Fresh → w ≡ taken_with n 0 c.figs c.sets → w ≡ takes_start c s n
  start_first n e h = rw e h

  pub start-again : (n m from : ℕ) → s ≡ Begun m from → w ≡ refuse c PlanForm → w ≡ takes_start c s n
  start-again n m from e h = rw e h

  -- a placement's
  module _ (code n v : ℕ) where
    pub placed-early : s ≡ Fresh → w ≡ refuse c PlanForm → w ≡ takes_placement c s code n v
    placed-early e h = rw e h

    module _ (m from : ℕ) (e : s ≡ Begun m from) where
      pub placed-low : code < from → w ≡ refuse c PlanForm → w ≡ takes_placement c s code n v
      placed-low l h = rw (e, lt-ltb code from l) h

      pub placed-next : from ≤ code → (figs sets : List ℕ) → figs ≡ set c.figs code n → sets ≡ set c.sets code v → w ≡ taken_with m (code + 1) figs sets → w ≡ takes_placement c s code n v
      placed-next l figs sets f g h = rw (e, le-ltb code from l, ← f, ← g) h

  -- any line
  module _ (line : LineRead) where
    pub read-start : (n : ℕ) → line ≡ Start n → w ≡ takes_start c s n → w ≡ takes_read c s line
    read-start n e h = rw e h

    pub read-placed : (code n v : ℕ) → line ≡ Placed code n v → w ≡ takes_placement c s code n v → w ≡ takes_read c s line
    read-placed code n v e h = rw e h

pub small-code : (line : LineRead) (code n v : ℕ) → line ≡ Placed code n v → CodeSmall line → code < 4294967295
small-code line code n v e h = rw e at h
