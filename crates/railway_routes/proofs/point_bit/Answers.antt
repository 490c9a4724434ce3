-- `railway_routes::point_bit` meets its contract: the power fits. Assumes nothing.
use Rattle.railway_routes.proofs.Putting.{power-fits}
use Rattle.railway_routes.proofs.point_bit.Goals as goal

pub returns : goal.returns
returns c = power-fits c.args.n c.requires
