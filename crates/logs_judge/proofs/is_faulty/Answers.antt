-- `logs_judge::is_faulty` meets its contract.
-- Assumes nothing.
use Rattle.std.proofs.Common.{rules, ◌∙◌}
use Rattle.std.proofs.lemmas.Iterator.{YieldsList-from_slice}
use Rattle.std.proofs.lemmas.Iterator.Search.{any_from_yields_List}
use borrow.Author.Tests.{tests, le-ltb}
use Rattle.logs_judge.specs.Judging.{lacks}
use Rattle.logs_judge.proofs.Comparing.{any-is}
use Rattle.logs_judge.proofs.is_faulty.Goals as goal

pub returns-else-log-gt-MOST : goal.returns-else-log-gt-MOST
returns-else-log-gt-MOST c =
    rw (le-ltb _ _ c.if-log-gt-MOST.false) (any_from_yields_List (lacks c.args.k c.args.s) _ _ _ c.any.ensures.ran (YieldsList-from_slice c.args.log.now cc) (λ x b q k. search (rules, tests))
    ∙ any-is (lacks c.args.k c.args.s) c.args.log.now)
