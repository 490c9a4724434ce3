-- `solver_api::write_railway` meets its contract: what the emitter answers that is asked for lines from the place on. Assumes nothing.
use mathlib.Core.Path.{refl, ap, ◌∙◌}
use Rattle.std.specs.Prelude.{Ok}
use Rattle.solver_api.proofs.Plans.{written-railway, written-lines}
use Rattle.solver_api.proofs.write_railway.Goals as goal

pub returns-in-Ok-Line : goal.returns-in-Ok-Line
returns-in-Ok-Line c =
    written-lines c.args.r c.args.figures.now c.args.settings.now c.args.place.now c.args.out.now c.args.bytes.now _
    c.place_at-from.ensures _ _ c.emit_lines.ensures _ _ (c.in-Ok-Line.is ∙ ap Ok c.in-Ok-Line.field-0-is) _ c.place_number.ensures

pub returns-in-Ok-End : goal.returns-in-Ok-End
returns-in-Ok-End c =
    written-railway c.args.r c.args.figures.now c.args.settings.now c.args.place.now c.args.out.now c.args.bytes.now _
    c.place_at-from.ensures _ _ c.emit_lines.ensures _ (c.in-Ok-End.is ∙ ap Ok c.in-Ok-End.field-0-is) _ refl _ _ refl

pub returns-in-Ok-NoPlan : goal.returns-in-Ok-NoPlan
returns-in-Ok-NoPlan c =
    written-railway c.args.r c.args.figures.now c.args.settings.now c.args.place.now c.args.out.now c.args.bytes.now _
    c.place_at-from.ensures _ _ c.emit_lines.ensures _ (c.in-Ok-NoPlan.is ∙ ap Ok c.in-Ok-NoPlan.field-0-is) _ refl _ _ refl

pub returns-in-Err : goal.returns-in-Err
returns-in-Err c =
    written-railway c.args.r c.args.figures.now c.args.settings.now c.args.place.now c.args.out.now c.args.bytes.now _
    c.place_at-from.ensures _ _ c.emit_lines.ensures _ c.in-Err.is _ c.number.ensures _ _ refl
