-- `plan_emitter::put_placement` meets its contract: in place where any line has room, else by way of a buffer of its own.
-- Assumes nothing.
use native.Mathlib.Omega.{arith}
use mathlib.Core.Path.{refl}
use Rattle.text.proofs.Appending.{front_fits, front_cut}
use Rattle.plan_emitter.proofs.Emitting.{placement-is}
use Rattle.plan_emitter.proofs.Putting.{placed-in-place, placed-copied}
use Rattle.plan_emitter.proofs.put_placement.Goals as goal

pub returns-then-has_room : goal.returns-then-has_room
returns-then-has_room c =
    λ r h has.
    let is = placement-is r c.args.figures.now c.args.settings.now c.args.p h has c.entry_at-n.ensures
    (omega arith) c.entry_at-v.ensures (c.placement_of-q.ensures r h)
    (c.trains_in-k.ensures r h) (c.points_in-m.ensures r h) in
    placed-in-place r c.args.figures.now c.args.settings.now c.args.p c.args.out.now c.args.at is
    c.has_room.ensures c.if-has_room.true c.placement_line.ensures

pub slice_bounds-text-end : goal.slice_bounds-text-end
slice_bounds-text-end c = front_fits c.placement_line-len.ensures c.placement_line-len.auto.out

pub slice_bounds-put_behind-end : goal.slice_bounds-put_behind-end
slice_bounds-put_behind-end c = front_cut c.placement_line-len.ensures c.placement_line-len.auto.out

pub returns : goal.returns
returns c =
    λ r h has.
    let is = placement-is r c.args.figures.now c.args.settings.now c.args.p h has c.entry_at-n.ensures
    (omega arith) c.entry_at-v.ensures (c.placement_of-q.ensures r h)
    (c.trains_in-k.ensures r h) (c.points_in-m.ensures r h) in
    placed-copied r c.args.figures.now c.args.settings.now c.args.p c.args.out.now c.args.at is refl
    c.placement_line-len.ensures c.put_behind.ensures
