-- `railway_acceptance::shut_out` meets its contract: some train starts or ends on a closed section.
-- Assumes nothing.
use Rattle.std.proofs.Common.{rules, tests}
use mathlib.Core.Path.{refl}
use Rattle.railway.specs.Rows.{shut_out_at}
use Rattle.railway_acceptance.proofs.Testing.{unread, shut_at}
use Rattle.railway_acceptance.proofs.Ranges.{any_range}
use Rattle.railway_acceptance.proofs.shut_out.Goals as goal

pub returns : goal.returns
returns c = λ r h e. any_range (shut_out_at r) c.args.k _ _ _ c.any.ensures.ran refl (λ x b q k. (search (rules, tests), λ l. shut_at r _ _ h x unread b l (search (rules, tests))))
