-- `railway_acceptance::is_longer` ends: the number of points falls with each call. Assumes nothing.
use Rattle.railway_acceptance.proofs.+is_longer.Given as goal

abbrev pub decreases-is_longer : goal.decreases-is_longer
decreases-is_longer l = l.k
