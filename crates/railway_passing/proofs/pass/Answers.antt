-- `railway_passing::pass` meets its contract: the record is judged by its test, and where it is accepted the passage begins
-- past what the end is joined to, with four points allowed. Assumes nothing.
use Rattle.railway.proofs.Arrays.{own-links}
use Rattle.railway_passing.proofs.Answers.{post-accepted}
use Rattle.railway_passing.proofs.pass.Goals as goal

pub returns : goal.returns
returns c =
    let own = own-links c.args.r _ c.well_formed.0 in
    post-accepted c.args.r c.args.e c.args.points _ _ c.in_ok-test_record.ensures (c.join_of.ensures c.args.r own)
    (c.past_join.ensures.follows c.args.r own)
