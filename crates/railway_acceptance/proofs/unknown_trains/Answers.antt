-- `railway_acceptance::unknown_trains` meets its contract: some train starts or ends where no section is.
-- Assumes nothing.
use Rattle.std.proofs.Common.{rules, tests}
use mathlib.Core.Path.{refl}
use Rattle.railway.specs.Rows.{unknown_train_at}
use Rattle.railway_acceptance.proofs.Testing.{unread, unknown-at}
use Rattle.railway_acceptance.proofs.Ranges.{any_range}
use Rattle.railway_acceptance.proofs.unknown_trains.Goals as goal

pub returns : goal.returns
returns c = λ r h e. any_range (unknown_train_at r) c.args.k _ _ _ c.any.ensures.ran refl (λ x b q k. (search (rules, tests), λ l. unknown-at r _ _ h x _ unread b l e (search (rules, tests))))
