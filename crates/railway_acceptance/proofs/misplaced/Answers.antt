-- `railway_acceptance::misplaced` meets its contract: the two parts of row 8, one after the other.
-- Assumes nothing.
use Rattle.railway_acceptance.proofs.Testing.{places-by}
use Rattle.railway_acceptance.proofs.misplaced.Goals as goal

pub returns : goal.returns
returns c = λ r h g. places-by r _ _ h _ _ (c.places_shared.ensures r h) (c.shut_out.ensures r h g)
