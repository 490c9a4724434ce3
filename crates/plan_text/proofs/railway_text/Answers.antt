-- `plan_text::railway_text` meets its contract: the tables are the call's own, and the text is the one for the solver's answer.
-- Assumes nothing.
use Rattle.std.proofs.Common.{rules, ap, ◌∙◌, Ok}
use Rattle.plan_text.proofs.Solved.{figure-solved}
use Rattle.plan_text.proofs.Written.{answered}
use Rattle.plan_text.proofs.railway_text.Goals as goal

pub returns-in-Err : goal.returns-in-Err
returns-in-Err c = answered _ _ _ _ _ _ _ c.solve.ensures _ c.in-Err.is c.refusal_line.ensures

pub returns-in-Ok-None : goal.returns-in-Ok-None
returns-in-Ok-None c = answered _ _ _ _ _ _ _ c.solve.ensures _ (c.in-Ok-None.is ∙ ap Ok c.in-Ok-None.field-0-is) (search rules)

pub returns-in-Ok-Some : goal.returns-in-Ok-Some
returns-in-Ok-Some c =
    let p = c.solve.ensures in
    let e = c.in-Ok-Some.is ∙ ap Ok c.in-Ok-Some.field-0-is in
    answered _ _ _ _ _ _ _ p _ e (c.plan_text.ensures (figure-solved _ _ _ _ _ p e))
