-- `test_checker::plan_lines` is safe: the lent tables stay as long as they are. Assumes nothing.
use Rattle.std.proofs.Common.{◌≡◌, length}
use Rattle.test_checker.proofs.plan_lines.Given as goal

abbrev pub invariant-loop : goal.invariant-loop
invariant-loop l = (length l.listed ≡ length l.initial.listed) × (length l.set ≡ length l.initial.set)
