-- `advice_call::try_end` meets its contract: a signal stands there, or the case with one more is solved. Assumes nothing.
use mathlib.Core.Path.{sym, ◌∙◌, ap}
use Rattle.std.specs.Prelude.{Ok}
use Rattle.advice_call.specs.Tries.{solved}
use Rattle.advice_call.proofs.Tries.{tried-passed, tried-one}
use Rattle.advice_call.proofs.try_end.Goals as goal

pub returns-then-flag_at : goal.returns-then-flag_at
returns-then-flag_at c =
    tried-passed c.args.r c.args.i _ c.args.figures.now c.args.settings.now
    c.flag_at.ensures c.if-flag_at.true

pub returns-in-Err : goal.returns-in-Err
returns-in-Err c =
    tried-one c.args.r c.args.i _ _ _ _ _ c.args.figures.now c.args.settings.now _ _
    c.flag_at.ensures c.if-flag_at.false c.end_at.ensures c.with_signal.ensures c.solve.ensures
    (sym (ap solved c.in-Err.is))

pub returns-in-Ok-None : goal.returns-in-Ok-None
returns-in-Ok-None c =
    tried-one c.args.r c.args.i _ _ _ _ _ c.args.figures.now c.args.settings.now _ _
    c.flag_at.ensures c.if-flag_at.false c.end_at.ensures c.with_signal.ensures c.solve.ensures
    (sym (ap solved (c.in-Ok-None.is ∙ ap Ok c.in-Ok-None.field-0-is)))

pub returns-in-Ok-Some : goal.returns-in-Ok-Some
returns-in-Ok-Some c =
    tried-one c.args.r c.args.i _ _ _ _ _ c.args.figures.now c.args.settings.now _ _
    c.flag_at.ensures c.if-flag_at.false c.end_at.ensures c.with_signal.ensures c.solve.ensures
    (sym (ap solved (c.in-Ok-Some.is ∙ ap Ok c.in-Ok-Some.field-0-is)))
