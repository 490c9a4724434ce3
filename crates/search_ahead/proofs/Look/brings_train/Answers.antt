-- `search_ahead::Look::brings_train` meets its contract. The loop's invariant: none of the placements with the train put back by the
-- first j ways gains. Where there is no way with number j, or j has come to the most ways, those are all.
-- Assumes nothing.
use Rattle.solver_rounds.proofs.Retracing.{no_way, way_next, way-put, way-last, all_ways, by-ways}
use Rattle.search_ahead.proofs.Telling.{told-yes, told-no, rests-start, rests-next, rests-end}
use Rattle.search_ahead.proofs.Look.brings_train.Goals as goal

pub loop-j-init : goal.loop-j-init
loop-j-init c = rests-start (λ r u k. no_way k)

pub returns-then-y : goal.returns-then-y
returns-then-y c =
    let here = c.section_at-x.ensures in
    λ r o g.
    rests-end c.loop-j.invariant
    (λ r g u lu k.
    way-last g.1 here c.end_behind-e.ensures _ _ c.way_to-y.ensures.way c.if-y.true (by-ways g.1 here lu k))
    r (o, g)

pub returns-then-brings_put : goal.returns-then-brings_put
returns-then-brings_put c =
    λ r o g.
    let put =
    way-put g c.section_at-x.ensures c.end_behind-e.ensures _ _ c.way_to-y.ensures.way c.if-y.false
    c.code_put-p.ensures in
    told-yes (c.brings_put.ensures r o g.on g.train put.0 put.1) c.if-brings_put.true

pub loop-j-preserved : goal.loop-j-preserved
loop-j-preserved c =
    let here = c.section_at-x.ensures in
    let rear = c.end_behind-e.ensures in
    rests-next c.loop-j.invariant
    (λ r g.
    let put = way-put g.1 here rear _ _ c.way_to-y.ensures.way c.if-y.false c.code_put-p.ensures in
    told-no (c.brings_put.ensures r g.0 g.1.on g.1.train put.0 put.1) c.if-brings_put.false)
    (λ r g u lu k.
    let put = way-put g.1 here rear _ _ c.way_to-y.ensures.way c.if-y.false c.code_put-p.ensures in
    way_next g.1 here rear _ _ c.way_to-y.ensures.way k put.1)

pub returns : goal.returns
returns c =
    let here = c.section_at-x.ensures in
    λ r o g. rests-end c.loop-j.invariant (λ r g u lu k. all_ways c.loop-j-test.false (by-ways g.1 here lu k)) r (o, g)
