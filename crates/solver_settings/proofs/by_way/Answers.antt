-- `solver_settings::by_way` meets its contract: what suits the way is no smaller than what it wants, and that suits it.
-- Assumes nothing.
use Rattle.solver_settings.proofs.Stepping.{to_inside, by-more, by-good, by-bad}
use Rattle.solver_settings.proofs.by_way.Goals as goal

pub returns-then-best-want : goal.returns-then-best-want
returns-then-best-want c = λ r p j w on code l is to want. by-more r p _ _ on _ _ _ j _ _ _ w is to want c.if-best-want.true

pub returns-then-ends_good : goal.returns-then-ends_good
returns-then-ends_good c =
    λ r p j w on code l is to want.
    let good = c.ends_good.ensures r p on code l (to_inside r p _ _ on _ j _ w is to) in
    by-good r p _ _ on _ _ _ j _ _ _ w is to want _ good c.if-best-want.false c.if-ends_good.true

pub returns-else-ends_good : goal.returns-else-ends_good
returns-else-ends_good c =
    λ r p j w on code l is to want.
    let good = c.ends_good.ensures r p on code l (to_inside r p _ _ on _ j _ w is to) in
    by-bad r p _ _ on _ _ _ j _ _ _ w is to want _ good c.if-ends_good.false
