-- `plan_judge::goes_within` meets its contract, by what the train's move ends in, and its weight.
-- Assumes nothing.
use mathlib.Core.Path.{◌∙◌, ap}
use Rattle.std.proofs.Common.{Err}
use Rattle.plan_judge.proofs.Testing.{stays_within, derailed-within, collided-within, at-within}
use Rattle.plan_judge.proofs.goes_within.Goals as goal

pub returns-in-Err-NotAllowed : goal.returns-in-Err-NotAllowed
returns-in-Err-NotAllowed c =
    λ r p on w.
    stays_within r c.args.figures.now p c.args.v c.args.n c.args.t c.move_in.result (c.move_in.ensures r p on w)
    (c.in-Err-NotAllowed.is ∙ ap Err c.in-Err-NotAllowed.field-0-is)

pub returns-in-Err-Derails : goal.returns-in-Err-Derails
returns-in-Err-Derails c =
    λ r p on w.
    derailed-within r c.args.figures.now p c.args.v c.args.n c.args.t c.move_in.result (c.move_in.ensures r p on w)
    (c.in-Err-Derails.is ∙ ap Err c.in-Err-Derails.field-0-is)

pub returns-in-Err-Collides : goal.returns-in-Err-Collides
returns-in-Err-Collides c =
    λ r p on w.
    collided-within r c.args.figures.now p c.args.v c.args.n c.args.t c.move_in.result (c.move_in.ensures r p on w)
    (c.in-Err-Collides.is ∙ ap Err c.in-Err-Collides.field-0-is)

pub returns-in-Ok : goal.returns-in-Ok
returns-in-Ok c =
    λ r p on w.
    at-within r c.args.figures.now p c.args.v c.args.n c.args.t c.move_in.result (c.move_in.ensures r p on w) _ _
    c.in-Ok.is c.entry_at.ensures _ (c.weight_in-weight.ensures r on.compiled) _ c.is_within.ensures
