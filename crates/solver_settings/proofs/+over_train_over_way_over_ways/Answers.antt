-- `solver_settings::over_train`, `over_ways` and `over_way` meet their contracts. They call each other with one train less ahead. The loop's invariant in `over_ways`:
-- the smallest bits with train t on one of the first j ways. A way is left out where the union of the wants does not suit both parts, for then nothing does.
-- Assumes nothing.
use native.Mathlib.Omega.{arith}
use Prim.Native.Nat.{ℕ}
use mathlib.Core.Path.{◌≡◌, sym, ◌∙◌}
use mathlib.Core.Option.{some}
use Rattle.railway.specs.declared.Railway.{Railway}
use Rattle.game_tables.specs.Tables.{figure_in}
use Rattle.game_tables.specs.Find.{ends_good}
use Rattle.railway_routes.specs.Routes.{Way, nth}
use Rattle.game_moves.proofs.Moving.{as-there}
use Rattle.solver_settings.specs.Search.{Asked, ways_of, ByWay}
use Rattle.solver_settings.proofs.Search.{tried-start, step_cut, step_end, step_stays, ways-together}
use Rattle.solver_settings.proofs.Stepping.{to_inside, ways-past, way-gone, one_more, out_first, out-second, placed_on, out-bad}
use Rattle.solver_settings.proofs.Stepping.{goes_on}
use Rattle.solver_settings.proofs.+over_train_over_way_over_ways.Goals as goal

pub over_train-returns-then-sum : goal.over_train-returns-then-sum
over_train-returns-then-sum t c = λ r p h pl. step_cut r _ p _ _ _ _ _ c.if-sum.true

pub over_train-returns-then-aim-t : goal.over_train-returns-then-aim-t
over_train-returns-then-aim-t t c = λ r p h pl. step_end r _ p _ _ _ _ _ c.if-sum.false (omega (arith, h.trains, c.if-aim-t.true)) pl

pub over_train-returns-then-free_in : goal.over_train-returns-then-free_in
over_train-returns-then-free_in t c =
    λ r p h pl.
    let on = h.looks.on in
    let l = rw h.trains at c.if-aim-t.false in
    c.over_ways.ensures r p h pl
    (sym (as-there r p _ _ on _ l _ _ (c.free_in.ensures r p on)) ∙ c.if-free_in.true)

pub over_train-returns-else-free_in : goal.over_train-returns-else-free_in
over_train-returns-else-free_in t c =
    λ r p h pl.
    let on = h.looks.on in
    let l = rw h.trains at c.if-aim-t.false in
    step_stays r _ p _ _ _ _ _ _ (sym (as-there r p _ _ on _ l _ _ (c.free_in.ensures r p on)) ∙ c.if-free_in.false)
    (c.over_train.ensures r p h pl)

pub over_way-returns-then-both-sum : goal.over_way-returns-then-both-sum
over_way-returns-then-both-sum t c =
    λ r p v h pl front is to.
    let laid = h.looks.laid in
    out_first r p _ _ h.looks.on _ c.args.aim.figure c.args.t c.args.sum.care c.args.sum.want c.args.sum.best pl _ front _
    _ _ _ (c.way_care-cares.ensures.way r _ laid) (c.way_want-wants.ensures.way r _ laid) v is to c.if-both-sum.true

pub over_way-returns-then-both-cares : goal.over_way-returns-then-both-cares
over_way-returns-then-both-cares t c =
    λ r p v h pl front is to.
    let laid = h.looks.laid in
    out-second r p _ _ h.looks.on _ c.args.aim.figure c.args.t c.args.sum.care c.args.sum.want c.args.sum.best pl _ front _
    _ _ _ (c.way_care-cares.ensures.way r _ laid) (c.way_want-wants.ensures.way r _ laid) v is to c.if-both-cares.true

pub over_way-returns-then-ends_good : goal.over_way-returns-then-ends_good
over_way-returns-then-ends_good t c =
    let over-way-ends : (r : Railway) (p : ℕ) (v : Way) → Asked r p c.args.table.now c.args.ways.now c.args.aim.placement c.args.aim.code c.args.aim.trains → nth (ways_of r p c.args.t) c.args.way.number ≡ some v → c.args.way.to ≡ v.to → c.ends_good.result ≡ ends_good r (figure_in c.args.figures.now) p c.args.aim.figure c.args.t c.args.way.to = λ r p v h is to. let on = h.looks.on in
    c.ends_good.ensures r p on h.looks.code (omega (arith, h.trains, c.requires))
    (to_inside r p _ _ on c.args.t c.args.way.number c.args.way.to v is to) in
    λ r p v h pl front is to.
    let on = h.looks.on in
    let care = c.way_care-cares.ensures.way r _ h.looks.laid in
    let want = c.way_want-wants.ensures.way r _ h.looks.laid in
    goes_on r p _ _ on _ c.args.aim.figure c.args.t c.args.sum.care c.args.sum.want c.args.sum.best pl _ front _ _ _ _ care want v
    is to _ (over-way-ends r p v h is to) _ c.if-both-sum.false c.if-both-cares.false c.if-ends_good.true
    (c.over_train.ensures r p h
    (placed_on r p _ _ on (figure_in c.args.figures.now) c.args.aim.figure c.args.t c.args.sum.care c.args.sum.want c.args.sum.best
    pl _ front _ _ _ _ care want v is to))

pub over_way-returns-else-ends_good : goal.over_way-returns-else-ends_good
over_way-returns-else-ends_good t c =
    let over-way-ends : (r : Railway) (p : ℕ) (v : Way) → Asked r p c.args.table.now c.args.ways.now c.args.aim.placement c.args.aim.code c.args.aim.trains → nth (ways_of r p c.args.t) c.args.way.number ≡ some v → c.args.way.to ≡ v.to → c.ends_good.result ≡ ends_good r (figure_in c.args.figures.now) p c.args.aim.figure c.args.t c.args.way.to = λ r p v h is to. let on = h.looks.on in
    c.ends_good.ensures r p on h.looks.code (omega (arith, h.trains, c.requires))
    (to_inside r p _ _ on c.args.t c.args.way.number c.args.way.to v is to) in
    λ r p v h pl front is to.
    let laid = h.looks.laid in
    out-bad r p _ _ h.looks.on _ c.args.aim.figure c.args.t c.args.sum.care c.args.sum.want c.args.sum.best pl _ front _ _ _ _
    (c.way_care-cares.ensures.way r _ laid) (c.way_want-wants.ensures.way r _ laid) v is to _ (over-way-ends r p v h is to)
    c.if-ends_good.false

pub over_ways-loop-j-init : goal.over_ways-loop-j-init
over_ways-loop-j-init t c = λ r p h pl. tried-start _ _ _ _

pub over_ways-returns-then-to : goal.over_ways-returns-then-to
over_ways-returns-then-to t c =
    λ r p h pl m.
    let on = h.looks.on in
    let lt = rw h.trains at c.requires in
    let front = c.front_in-e.ensures r p on in
    let gone =
    way-gone r p _ _ on c.args.t _ front c.loop-j.j _ (c.way_to-to.ensures.way r _ h.looks.laid) c.if-to.true in
    ways-together r _ p c.args.aim.figure c.args.t c.args.sum.care c.args.sum.want lt _ _ c.loop-j.j m gone
    (c.loop-j.invariant r p h pl)

pub over_ways-loop-j-preserved : goal.over_ways-loop-j-preserved
over_ways-loop-j-preserved t c =
    λ r p h pl.
    let on = h.looks.on in
    let front = c.front_in-e.ensures r p on in
    let P = ByWay r (figure_in c.args.figures.now) p c.args.aim.figure c.args.t c.args.sum.care c.args.sum.want in
    one_more r p _ _ on c.args.t _ front c.loop-j.j P _ _ _ _ _ (c.way_to-to.ensures.way r _ h.looks.laid)
    c.if-to.false (λ v is to. c.over_way-least.ensures r p v h pl front is to) (c.loop-j.invariant r p h pl)

pub over_ways-returns : goal.over_ways-returns
over_ways-returns t c =
    λ r p h pl m.
    let lt = rw h.trains at c.requires in
    let past = ways-past r p _ _ h.looks.on c.args.t c.loop-j.j (omega arith) in
    ways-together r _ p c.args.aim.figure c.args.t c.args.sum.care c.args.sum.want lt _ _ c.loop-j.j m past
    (c.loop-j.invariant r p h pl)
