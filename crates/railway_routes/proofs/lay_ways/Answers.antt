-- `railway_routes::lay_ways` meets its contract. The loop's invariant: the ways of all ends before e stand in the table, and behind them no way does.
-- Assumes nothing.
use native.Mathlib.Omega.{arith}
use Rattle.railway.specs.Ends.{end_at}
use Rattle.railway_routes.proofs.Ways.{laid_none, laid_next, laid-all}
use Rattle.railway_routes.proofs.Routes.{from-few}
use Rattle.railway_routes.proofs.Putting.{from-link}
use Rattle.railway_routes.proofs.lay_ways.Goals as goal

pub loop-e-init : goal.loop-e-init
loop-e-init c = λ blank r h. laid_none r _ _ blank

pub loop-e-preserved : goal.loop-e-preserved
loop-e-preserved c =
    let e = c.loop-e.e in
    λ blank r h.
    laid_next r _ e _ _ _ c.loop-e-test.true (from-few r _ (end_at e)) (c.loop-e.invariant blank r h)
    (from-link r _ e _ _ _ _ _ c.loop-e-test.true (c.link_in-j.ensures r h) (c.put_past.ensures.put r h))

pub returns : goal.returns
returns c = λ blank r h. laid-all r _ _ _ (omega arith) (c.loop-e.invariant blank r h)
