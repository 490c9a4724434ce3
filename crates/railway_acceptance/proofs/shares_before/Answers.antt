-- `railway_acceptance::shares_before` meets its contract: a train before it shares its start or its destination.
-- Assumes nothing.
use Rattle.std.proofs.Common.{rules, tests}
use mathlib.Core.Path.{refl}
use Rattle.railway.specs.Rows.{shares_with}
use Rattle.railway_acceptance.proofs.Testing.{unread, shares-at}
use Rattle.railway_acceptance.proofs.Ranges.{any_range}
use Rattle.railway_acceptance.proofs.shares_before.Goals as goal

pub returns : goal.returns
returns c = λ r k h e. any_range (shares_with r c.args.t) c.args.t _ _ _ c.any.ensures.ran refl (λ x b q m. (search (rules, tests), λ l. shares-at r _ _ h c.args.t x unread b e l (search (rules, tests))))
