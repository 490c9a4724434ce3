-- `railway_acceptance::chained` meets its contract: from some point too many can be met.
-- Assumes nothing.
use Rattle.std.proofs.Common.{rules, tests}
use mathlib.Core.Path.{refl}
use Rattle.railway.specs.Rows.{chained_at}
use Rattle.railway_acceptance.proofs.Bytes.{points-chained}
use Rattle.railway_acceptance.proofs.Ranges.{any_range}
use Rattle.railway_acceptance.proofs.chained.Goals as goal

pub returns : goal.returns
returns c = λ r h p. points-chained r _ _ p (any_range (chained_at r) c.args.p _ _ _ c.any.ensures.ran refl (λ x b q k. search (rules, tests)))
