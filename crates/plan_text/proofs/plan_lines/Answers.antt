-- `plan_text::plan_lines` meets its contract: there is room for all lines, so one call gives them, and no answer but a line can come.
-- Assumes nothing.
use Rattle.std.proofs.Common.{ap, ◌∙◌, Ok}
use Rattle.plan.specs.Emitter.{is_line}
use Rattle.plan_text.proofs.Whole.{at_once, no_other}
use Rattle.plan_text.proofs.plan_lines.Goals as goal

pub returns-in-Ok-Line : goal.returns-in-Ok-Line
returns-in-Ok-Line c = λ s room. at_once c.args.r c.args.figures.now c.args.settings.now c.args.out.now _ _ s room c.emit_lines.ensures _ _ (c.in-Ok-Line.is ∙ ap Ok c.in-Ok-Line.field-0-is)

pub returns-in-Ok-End : goal.returns-in-Ok-End
returns-in-Ok-End c =
    λ s room. no_other c.args.r c.args.figures.now c.args.settings.now c.args.out.now _ _ s room c.emit_lines.ensures (ap is_line (c.in-Ok-End.is ∙ ap Ok c.in-Ok-End.field-0-is))

pub returns-in-Ok-NoPlan : goal.returns-in-Ok-NoPlan
returns-in-Ok-NoPlan c =
    λ s room. no_other c.args.r c.args.figures.now c.args.settings.now c.args.out.now _ _ s room c.emit_lines.ensures (ap is_line (c.in-Ok-NoPlan.is ∙ ap Ok c.in-Ok-NoPlan.field-0-is))

pub returns-in-Err : goal.returns-in-Err
returns-in-Err c =
    λ s room. no_other c.args.r c.args.figures.now c.args.settings.now c.args.out.now _ _ s room c.emit_lines.ensures (ap is_line c.in-Err.is)
