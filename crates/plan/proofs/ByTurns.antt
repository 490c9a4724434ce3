-- Where all weights are 1 plans are those that count turns: the same settings keep a figure, so the same plans pass the test; tables with figures in turns are filled tables, and
-- all filled tables make the same plan. Assumes nothing.
use Prim.Native.Nat.{ℕ}
use Rattle.railway.specs.declared.Railway.{Railway}
use Rattle.game.specs.Setting.{Setting}
use Rattle.game.specs.Moves.{game_of}
use Rattle.game.specs.ByTurns.{AsBefore}
use Rattle.game.proofs.ByTurns.{one-as-before}
use Rattle.game_tables.specs.ByTurns.{WeightsOne}
use Rattle.game_tables.proofs.ByTurns.{tables-as-before}
use Rattle.plan.specs.Test.{Listing, listed_setting, Test}
use Rattle.plan.specs.ByTurns.{TestInTurns, PlansAsBefore}
use Rattle.plan.proofs.Text.{texts-one}

module _ (r : Railway) (one : WeightsOne r) (m : ℕ) (L : Listing) where
  abbrev same : AsBefore (game_of r)
  same = one-as-before Setting (game_of r) one

  test-turns : Test r m L → TestInTurns r m L
  test-turns t = record { start = t.start; apart = t.apart; signalled = t.signalled; kept = λ p n l f h. (same.keeps L.figure p (listed_setting r L p) n).0 (t.kept p n l f h) }

  turns-test : TestInTurns r m L → Test r m L
  turns-test t = record { start = t.start; apart = t.apart; signalled = t.signalled; kept = λ p n l f h. (same.keeps L.figure p (listed_setting r L p) n).1 (t.kept p n l f h) }

-- PLANS ARE AS BEFORE
pub plans-as-before : PlansAsBefore
plans-as-before r accepted one =
    record {
      tested = λ m L. (test-turns r one m L, turns-test r one m L);
      texts = λ figs sets figs' sets' x y. texts-one r accepted figs sets figs' sets' x ((tables-as-before r one figs' sets').1 y);
    }
