-- `solver_settings::least_way` meets its contract. The loop's invariant: the smallest bits that suit one of the first j ways, if it is a good one.
-- Assumes nothing.
use native.Mathlib.Omega.{arith}
use Prim.Native.Nat.{ℕ, ◌+◌, ◌<◌}
use Rattle.railway.specs.declared.Railway.{Railway}
use Rattle.game_tables.specs.Tables.{figure_in}
use Rattle.solver_settings.specs.Search.{Looks, no_bits, Smallest, ways_of, OnWay}
use Rattle.solver_settings.proofs.Search.{Tried, tried-start, ways-all, ways-zero}
use Rattle.solver_settings.proofs.Stepping.{ways-past, way-gone, one_more, wants_is}
use Rattle.solver_settings.proofs.least_way.Goals as goal

pub loop-j-init : goal.loop-j-init
loop-j-init c = λ r p h l. tried-start _ _ _ _

pub returns-then-to : goal.returns-then-to
returns-then-to c =
    λ r p h lt.
    let on = h.on in
    let front = c.front_in-e.ensures r p on in
    ways-all r _ p _ _ _ _ _ c.loop-j.j
    (way-gone r p _ _ on _ _ front _ _ (c.way_to-to.ensures.way r _ h.laid) c.if-to.true) (c.loop-j.invariant r p h lt)

pub returns-then-best-eq0 : goal.returns-then-best-eq0
returns-then-best-eq0 c =
    let more : (r : Railway) (p : ℕ) → Looks r p c.args.table.now c.args.ways.now c.args.aim.placement c.args.aim.code → c.args.t < r.trains → Smallest (Tried (OnWay r (figure_in c.args.figures.now) p c.args.aim.figure c.args.t) (ways_of r p c.args.t) (c.loop-j.j + 1))
    r.points no_bits c.by_way-best.result = λ r p h l. let on = h.on in
    let j = c.loop-j.j in
    let front = c.front_in-e.ensures r p on in
    let wants = wants_is r p _ _ on c.args.t _ front j _ (c.way_want-want.ensures.way r _ h.laid) in
    one_more r p _ _ on c.args.t _ front j (OnWay r (figure_in c.args.figures.now) p c.args.aim.figure c.args.t) _ _ _ _ _
    (c.way_to-to.ensures.way r _ h.laid) c.if-to.false
    (λ v is to. c.by_way-best.ensures r p j v on h.code l is to (wants v is)) (c.loop-j.invariant r p h l) in
    λ r p h l. ways-zero r _ p _ _ _ _ _ _ c.if-best-eq0.true (omega arith) (more r p h l)

pub loop-j-preserved : goal.loop-j-preserved
loop-j-preserved c =
    let more : (r : Railway) (p : ℕ) → Looks r p c.args.table.now c.args.ways.now c.args.aim.placement c.args.aim.code → c.args.t < r.trains → Smallest (Tried (OnWay r (figure_in c.args.figures.now) p c.args.aim.figure c.args.t) (ways_of r p c.args.t) (c.loop-j.j + 1))
    r.points no_bits c.by_way-best.result = λ r p h l. let on = h.on in
    let j = c.loop-j.j in
    let front = c.front_in-e.ensures r p on in
    let wants = wants_is r p _ _ on c.args.t _ front j _ (c.way_want-want.ensures.way r _ h.laid) in
    one_more r p _ _ on c.args.t _ front j (OnWay r (figure_in c.args.figures.now) p c.args.aim.figure c.args.t) _ _ _ _ _
    (c.way_to-to.ensures.way r _ h.laid) c.if-to.false
    (λ v is to. c.by_way-best.ensures r p j v on h.code l is to (wants v is)) (c.loop-j.invariant r p h l) in
    more

pub returns : goal.returns
returns c =
    λ r p h lt.
    ways-all r _ p _ _ _ _ _ _ (ways-past r p _ _ h.on _ _ (omega arith)) (c.loop-j.invariant r p h lt)
