-- `check_text::line_ends` meets its contract. The loop's invariant: up to the place reached there is no line end.
-- Assumes nothing.
use Rattle.check_text.proofs.Ends.{not_yet, not-yet-next, found, not_found}
use Rattle.check_text.proofs.line_ends.Goals as goal

pub loop-at-init : goal.loop-at-init
loop-at-init c = not_yet c.args.text.now c.args.from

pub returns-then-text-at-eq10 : goal.returns-then-text-at-eq10
returns-then-text-at-eq10 c = found c.args.text.now c.args.from c.loop-at.at c.loop-at.invariant c.loop-at-test.true c.if-text-at-eq10.true

pub loop-at-preserved : goal.loop-at-preserved
loop-at-preserved c = not-yet-next c.args.text.now c.args.from c.loop-at.at c.loop-at.invariant c.loop-at-test.true c.if-text-at-eq10.false

pub returns : goal.returns
returns c = not_found c.args.text.now c.args.from c.loop-at.at c.loop-at.invariant c.loop-at-test.false
