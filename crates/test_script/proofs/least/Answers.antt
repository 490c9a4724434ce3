-- `test_script::least` meets its contract, by the test.
-- Assumes nothing.
use native.Mathlib.Omega.{arith}
use lib.ListN.{length-take}
use Rattle.test_script.proofs.least.Goals as goal

pub returns-then-n-entries : goal.returns-then-n-entries
returns-then-n-entries c = (omega (arith, c.if-n-entries.true), simp length-take (omega (arith, c.if-n-entries.true)))

pub returns-else-n-entries : goal.returns-else-n-entries
returns-else-n-entries c = (omega arith, simp length-take (omega arith))
