-- `game_case::case_ways` meets its contract: the record's own links, and its own flags for closed sections. Assumes nothing.
use Rattle.railway.proofs.Arrays.{own-links, own-closed}
use Rattle.railway_routes.proofs.Routes.{laid-closed}
use Rattle.game_case.proofs.case_ways.Goals as goal

pub returns : goal.returns
returns c =
    laid-closed c.args.r _ _ (own-closed c.args.r _ c.well_formed.0)
    (c.ways_of.ensures c.args.r (own-links c.args.r _ c.well_formed.0))
