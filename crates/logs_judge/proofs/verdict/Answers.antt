-- `logs_judge::verdict` meets its contract. The loop's invariant: no train below t differs.
-- Assumes nothing.
use native.Mathlib.Nat.{not-suc-le-zero}
use mathlib.Core.Path.{sym, ◌∙◌}
use Rattle.logs_judge.proofs.Judging.{lowest-here, lowest-none, below_next}
use Rattle.logs_judge.proofs.verdict.Goals as goal

pub loop-t-init : goal.loop-t-init
loop-t-init c = λ u l. absurd (not-suc-le-zero l)

pub returns-then-train_differs : goal.returns-then-train_differs
returns-then-train_differs c = lowest-here _ _ c.loop-t.invariant _ c.loop-t-test.true (sym c.if-train_differs.true ∙ c.train_differs.ensures)

pub loop-t-preserved : goal.loop-t-preserved
loop-t-preserved c = below_next _ _ c.loop-t.invariant (sym c.if-train_differs.false ∙ c.train_differs.ensures)

pub returns : goal.returns
returns c = lowest-none _ _ c.loop-t.invariant _ c.loop-t-test.false
