-- `plan_emitter::emit_due` meets its contract: no plan where the start has no figure, else what is due at the place.
-- Assumes nothing.
use Rattle.plan_emitter.proofs.Emitting.{none_emitted, top-emitted, from-emitted}
use Rattle.plan_emitter.proofs.emit_due.Goals as goal

pub returns-then-n : goal.returns-then-n
returns-then-n c =
    λ r h.
    none_emitted r c.args.figures.now c.args.settings.now c.args.place c.args.out.now _ _
    (c.start_code.ensures r h) c.entry_at-n.ensures c.if-n.true

pub returns-in-Top : goal.returns-in-Top
returns-in-Top c =
    λ r h.
    top-emitted r c.args.figures.now c.args.settings.now c.args.place c.args.out.now _ _
    (c.start_code.ensures r h) c.entry_at-n.ensures c.if-n.false
    c.in-Top.is c.emit_start.ensures

pub returns-in-From : goal.returns-in-From
returns-in-From c =
    λ r h.
    from-emitted r c.args.figures.now c.args.settings.now c.args.place c.args.out.now _ _
    (c.start_code.ensures r h) c.entry_at-n.ensures c.if-n.false _
    c.in-From.is (c.emit_from.ensures r h)
