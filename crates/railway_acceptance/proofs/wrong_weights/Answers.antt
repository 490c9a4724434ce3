-- `railway_acceptance::wrong_weights` meets its contract: some train has a weight that none may have.
-- Assumes nothing.
use Rattle.std.proofs.Common.{rules, tests}
use mathlib.Core.Path.{refl}
use Rattle.railway.specs.Rows.{wrong_weight_at}
use Rattle.railway_acceptance.proofs.Testing.{unread, weight-at, weights-by}
use Rattle.railway_acceptance.proofs.Ranges.{any_range}
use Rattle.railway_acceptance.proofs.wrong_weights.Goals as goal

pub returns : goal.returns
returns c = λ r h. weights-by r _ _ h _ (any_range (wrong_weight_at r) c.args.k _ _ _ c.any.ensures.ran refl (λ x b q k. (search (rules, tests), λ l. weight-at r _ _ h x unread b l (search (rules, tests)))))
