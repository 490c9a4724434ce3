-- `plan_emitter::emit_line` meets its contract: the refusal of the case, or what is due.
-- Assumes nothing.
use mathlib.Core.Path.{refl}
use Rattle.std.proofs.lemmas.Result.{err_from_is_err_and}
use Rattle.plan_emitter.proofs.Emitting.{case-refused, case-emitted}
use Rattle.plan_emitter.proofs.emit_line.Goals as goal

pub returns-in_err-table : goal.returns-in_err-table
returns-in_err-table c =
    let p = err_from_is_err_and c.from_residual.result c.from_residual.ensures.1 in
    rw (p.1, p.2) (case-refused c.args.r c.args.figures.now c.args.settings.now c.args.place c.args.out.now c.in_err-table.ensures _ refl)

pub returns : goal.returns
returns c =
    case-emitted c.args.r c.args.figures.now c.args.settings.now c.args.place c.args.out.now c.in_ok-table.ensures refl c.emit_due.ensures
