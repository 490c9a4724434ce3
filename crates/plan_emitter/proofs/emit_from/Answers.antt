-- `plan_emitter::emit_from` meets its contract: the line of the placement found, or the end.
-- Assumes nothing.
use Rattle.plan_emitter.proofs.Emitting.{due-placement, due-end}
use Rattle.plan_emitter.proofs.emit_from.Goals as goal

pub returns-in-Some : goal.returns-in-Some
returns-in-Some c =
    λ r h.
    due-placement r c.args.figures.now c.args.settings.now c.args.c _ c.args.out.now (c.placements.ensures r h) _ c.in-Some.ensures.1
    (c.emit_placement.ensures r h)

pub returns-in-None : goal.returns-in-None
returns-in-None c =
    λ r h.
    due-end r c.args.figures.now c.args.settings.now c.args.c _ c.args.out.now (c.placements.ensures r h) c.in-None.ensures
