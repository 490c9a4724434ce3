-- `desk_calls::counts` meets its contract, test by test.
-- Assumes nothing.
use Rattle.game_moves.proofs.Placing.{table-facts}
use Rattle.game_moves.proofs.Moving.{other-on}
use Rattle.desk_calls.proofs.Counting.{counts-home, counts-nowhere, counts-taken, counts-held, counts-there}
use Rattle.desk_calls.proofs.counts.Goals as goal

pub returns-then-home_in : goal.returns-then-home_in
returns-then-home_in c = λ r p on laid. counts-home r p c.args.v c.args.t c.args.x _ (c.home_in.ensures r p on) c.if-home_in.true

pub returns-then-x-eq-NO_SECTION : goal.returns-then-x-eq-NO_SECTION
returns-then-x-eq-NO_SECTION c =
    λ r p on laid.
    counts-nowhere r p c.args.v c.args.t c.args.x (table-facts r _ on.compiled) c.if-x-eq-NO_SECTION.true

pub returns-then-other_in : goal.returns-then-other_in
returns-then-other_in c =
    λ r p on laid.
    counts-taken r p c.args.v c.args.t c.args.x _ (other-on r p _ c.args.q on c.args.t c.args.x _ _
    (c.trains_in.ensures r on.compiled) c.other_in.ensures) c.if-other_in.true

pub returns-then-may_in : goal.returns-then-may_in
returns-then-may_in c =
    λ r p on laid.
    counts-there r p c.args.v c.args.t c.args.x _ _ _ _ (c.home_in.ensures r p on) c.if-home_in.false c.if-x-eq-NO_SECTION.false
    (other-on r p _ c.args.q on c.args.t c.args.x _ _ (c.trains_in.ensures r on.compiled) c.other_in.ensures) c.if-other_in.false (c.may_in.ensures r p on) c.if-may_in.true
    (c.leads_to.ensures r p on laid)

pub returns : goal.returns
returns c = λ r p on laid. counts-held r p c.args.v c.args.t c.args.x _ (c.may_in.ensures r p on) c.if-may_in.false
