-- `railway_acceptance::places_shared` meets its contract: some train shares a place with one before it.
-- Assumes nothing.
use Rattle.std.proofs.Common.{rules, tests}
use mathlib.Core.Path.{refl}
use Rattle.railway.specs.Rows.{shares_at}
use Rattle.railway_acceptance.proofs.Ranges.{any_range}
use Rattle.railway_acceptance.proofs.places_shared.Goals as goal

pub returns : goal.returns
returns c = λ r h. any_range (shares_at r) c.args.k _ _ _ c.any.ensures.ran refl (λ x b q k. search (rules, tests))
