-- `solver_predecessors::ways_behind` meets its contract: with no flag set nothing is shut. Assumes nothing.
use mathlib.Core.Path.{refl}
use Rattle.railway.specs.Bounds.{most_sections}
use Rattle.railway.proofs.Arrays.{own-links}
use Rattle.railway_routes.proofs.Routes.{laid-open}
use Rattle.solver_predecessors.proofs.ways_behind.Goals as goal

pub returns : goal.returns
returns c =
    laid-open c.args.r most_sections _ _ refl
    (c.ways_of.ensures c.args.r (own-links c.args.r _ c.well_formed.0))
