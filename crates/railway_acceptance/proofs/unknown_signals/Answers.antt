-- `railway_acceptance::unknown_signals` meets its contract: some signal stands past the section ends that are there.
-- Assumes nothing.
use Rattle.std.proofs.Common.{rules, tests}
use mathlib.Core.Path.{refl}
use Rattle.railway.specs.Bounds.{section_ends}
use Rattle.railway.specs.Rows.{unknown_signal_at}
use Rattle.railway_acceptance.proofs.Bytes.{signals-known, signal-past}
use Rattle.railway_acceptance.proofs.Ranges.{any_from}
use Rattle.railway_acceptance.proofs.unknown_signals.Goals as goal

pub returns : goal.returns
returns c = λ r h e. any_from (unknown_signal_at r) c.args.ends section_ends _ _ _ c.any.ensures.ran refl (signals-known r _ e c.requires) (λ x b q k. (search (rules, tests), λ m l. signal-past r _ e x m l b (search (rules, tests))))
