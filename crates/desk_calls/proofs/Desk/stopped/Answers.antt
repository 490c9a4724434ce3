-- `desk_calls::Desk::stopped` meets its contract: a section that is not there, another code, two trains on one section, another count.
-- Assumes nothing.
use Rattle.desk_calls.specs.Answers.{desk_at}
use Rattle.desk_calls.proofs.Desks.{stopped_named, stopped_code, stopped-lost, stopped-count}
use Rattle.desk_calls.proofs.Desk.stopped.Goals as goal

pub returns-then-names_none : goal.returns-then-names_none
returns-then-names_none c = λ r h. stopped_named r (desk_at c.args.self) _ (c.names_none.ensures r h) c.if-names_none.true

pub returns-then-self-p : goal.returns-then-self-p
returns-then-self-p c = λ r h. stopped_code r (desk_at c.args.self) _ (c.names_none.ensures r h) _ c.if-names_none.false (c.code_of-p.ensures r h) c.if-self-p.true

pub returns-then-lost_in : goal.returns-then-lost_in
returns-then-lost_in c =
    λ r h.
    stopped-lost r (desk_at c.args.self) _ (c.names_none.ensures r h) _ c.if-names_none.false (c.code_of-p.ensures r h) c.if-self-p.false
    _ (c.lost_in.ensures r _ (c.placement_of-q.ensures r h)) c.if-lost_in.true

pub returns : goal.returns
returns c =
    λ r h.
    let on = c.placement_of-q.ensures r h in
    stopped-count r (desk_at c.args.self) _ (c.names_none.ensures r h) _ c.if-names_none.false (c.code_of-p.ensures r h) c.if-self-p.false
    _ (c.lost_in.ensures r _ on) c.if-lost_in.false _ (c.arrivals.ensures r _ on)
