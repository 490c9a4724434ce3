-- `plan_reader::word_at` meets its contract. The loop's invariant: what is to be read from here on is what was to be read where the loop began.
-- Assumes nothing.
use native.Mathlib.Omega.{arith}
use mathlib.Core.Path.{◌∙◌, ap}
use Rattle.plan_reader.specs.Walk.{word_got}
use Rattle.plan_reader.proofs.Taking.{word_next, word-other, word_end}
use Rattle.plan_reader.proofs.word_at.Goals as goal

pub returns-in_err-at : goal.returns-in_err-at
returns-in_err-at c = ap word_got c.from_residual.ensures ∙ word-other _ _ _ _ _ c.loop-b.invariant c.loop-b-test.true _ c.byte_at.ensures c.in_err-at.was

pub loop-b-preserved : goal.loop-b-preserved
loop-b-preserved c = word_next _ _ _ _ _ c.loop-b.invariant c.loop-b-test.true _ c.byte_at.ensures _ c.in_ok-at.was

pub returns : goal.returns
returns c = word_end _ _ _ _ _ c.loop-b.invariant (omega arith)
