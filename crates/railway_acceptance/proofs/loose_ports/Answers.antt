-- `railway_acceptance::loose_ports` meets its contract: some point has a loose port.
-- Assumes nothing.
use Rattle.std.proofs.Common.{rules, tests}
use mathlib.Core.Path.{refl}
use Rattle.railway.specs.Rows.{loose_at}
use Rattle.railway_acceptance.proofs.Bytes.{points-loose}
use Rattle.railway_acceptance.proofs.Ranges.{any_range}
use Rattle.railway_acceptance.proofs.loose_ports.Goals as goal

pub returns : goal.returns
returns c = λ r h p. points-loose r _ _ p (any_range (loose_at r) c.args.p _ _ _ c.any.ensures.ran refl (λ x b q k. search (rules, tests)))
