-- `railway_routes::lay_ways` meets its contract. The loop's invariant: the ways of all ends before e stand in the table, and behind them no way does.
-- Assumes nothing.
use mathlib.Core.Path.{◌≡◌}
use lib.ListN.{replicate}
use Rattle.railway.specs.declared.Railway.{Railway}
use Rattle.railway.specs.Lent.{LinksOf}
use Rattle.railway_routes.specs.Routes.{no_section, way_words, flagged}
use Rattle.railway_routes.proofs.Ways.{LaidTo}
use Rattle.railway_routes.proofs.lay_ways.Given as goal

abbrev pub invariant-loop-e : goal.invariant-loop-e
invariant-loop-e l =
    l.initial.ways ≡ replicate way_words no_section → (r : Railway) → LinksOf r l.links → LaidTo r (flagged l.closed) l.e l.ways
