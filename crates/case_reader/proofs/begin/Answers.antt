-- `case_reader::begin` meets its contract: as far as bytes go the counts are judged as they are, and where they are within their bounds they are bytes.
-- Assumes nothing.
use Rattle.case_reader.proofs.Parts.{begin-out, begin-in}
use Rattle.case_reader.proofs.begin.Goals as goal

pub returns-then-counts_outside : goal.returns-then-counts_outside
returns-then-counts_outside c =
    begin-out c.args.s c.args.p c.args.k _ _ _ c.capped-sections.ensures c.capped-points.ensures c.capped-trains.ensures _
    c.counts_outside.ensures c.if-counts_outside.true _ c.empty.ensures.empty _ c.fresh.ensures

pub returns : goal.returns
returns c =
    begin-in c.args.s c.args.p c.args.k _ _ _ c.capped-sections.ensures c.capped-points.ensures c.capped-trains.ensures _
    c.counts_outside.ensures c.if-counts_outside.false _ c.empty-2.ensures.empty _ c.fresh-2.ensures
