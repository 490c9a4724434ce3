-- `counts_text::together` meets its contract: from figure to figure the sum is that of the counts before. Sixteen bits more than a count has hold it.
-- Assumes nothing.
use mathlib.Core.Path.{◌∙◌}
use native.Mathlib.Omega.{arith}
use Rattle.counts_text.proofs.Chart.{sum-start, sum-next, sum-cut}
use Rattle.counts_text.proofs.together.Goals as goal

pub loop-j-init : goal.loop-j-init
loop-j-init c = sum-start _ _

pub overflow_add-first : goal.overflow_add-first
overflow_add-first c = omega (arith, c.requires)

pub overflow_add-sum : goal.overflow_add-sum
overflow_add-sum c = omega (arith, c.loop-j.invariant.most)

pub loop-j-preserved : goal.loop-j-preserved
loop-j-preserved c = sum-next c.args.counts.now c.args.first c.loop-j.j c.loop-j.sum _ c.loop-j.invariant c.entry_at.ensures (omega arith)

pub returns : goal.returns
returns c = c.unwrap_or.ensures ∙ sum-cut c.args.counts.now c.args.s c.args.first c.loop-j.j c.loop-j.sum c.loop-j.invariant c.loop-j.auto.j-end c.loop-j-test.false c.try_from.result c.try_from.ensures
