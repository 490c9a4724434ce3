-- `solver_settings::union_serves` meets its contract, test by test.
-- Assumes nothing.
use borrow.Author.Tests.{eq-eqb, ne_eqb}
use Rattle.laws.proofs.Bools.{test-off, test_on}
use Rattle.solver_settings.proofs.union_serves.Goals as goal

pub returns-then-all-most : goal.returns-then-all-most
returns-then-all-most c = λ r p h. test_on _ _ _ (eq-eqb c.args.all c.args.most c.if-all-most.true) (c.all_good.ensures r p h)

pub returns-else-all-most : goal.returns-else-all-most
returns-else-all-most c = λ r p h. test-off _ _ (ne_eqb c.args.all c.args.most c.if-all-most.false)
