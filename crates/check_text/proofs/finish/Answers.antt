-- `check_text::finish` meets its contract: bytes are left, or the lines taken are tested.
-- Assumes nothing.
use Rattle.plan_checker.specs.Answers.{checking}
use Rattle.check_text.proofs.Pieces.{ends-left, ends-tested}
use Rattle.check_text.proofs.finish.Goals as goal

pub returns-then-rest-gt0 : goal.returns-then-rest-gt0
returns-then-rest-gt0 c =
    ends-left c.args.r (checking c.args.checker c.args.figures.now c.args.settings.now) c.args.rest.now _ c.if-rest-gt0.true
    c.not_taken.ensures

pub returns : goal.returns
returns c =
    ends-tested c.args.r (checking c.args.checker c.args.figures.now c.args.settings.now) c.args.rest.now _ _
    c.if-rest-gt0.false c.test.ensures
