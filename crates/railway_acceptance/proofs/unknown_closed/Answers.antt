-- `railway_acceptance::unknown_closed` meets its contract: some section is closed past those that are there.
-- Assumes nothing.
use Rattle.std.proofs.Common.{rules, tests}
use mathlib.Core.Path.{refl}
use Rattle.railway.specs.Bounds.{most_sections}
use Rattle.railway.specs.Rows.{unknown_closed_at}
use Rattle.railway_acceptance.proofs.Bytes.{closed-known, closed-past}
use Rattle.railway_acceptance.proofs.Ranges.{any_from}
use Rattle.railway_acceptance.proofs.unknown_closed.Goals as goal

pub returns : goal.returns
returns c = λ r h e. any_from (unknown_closed_at r) c.args.s most_sections _ _ _ c.any.ensures.ran refl (closed-known r _ e) (λ x b q k. (search (rules, tests), λ m l. closed-past r _ e x m b (search (rules, tests))))
