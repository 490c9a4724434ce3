-- `plan_reader::fields_at` meets its contract: the bits of points and trains that were read are few, so that their sum fits.
-- Assumes nothing.
use native.Mathlib.Omega.{arith}
use mathlib.Core.Path.{sym, ◌∙◌, ap}
use Rattle.text.specs.Answers.{number_got}
use Rattle.plan_reader.proofs.Sound.{opens_small, points-small}
use Rattle.plan_reader.proofs.fields_at.Goals as goal

pub overflow_add-result : goal.overflow_add-result
overflow_add-result c =
    let trains = sym c.opens_at.ensures ∙ ap number_got c.in_ok-opens.was in
    let signs = sym c.points_at.ensures ∙ ap number_got c.in_ok-points.was in
    let text = c.args.text.now in
    omega (arith, opens_small text _ _ _ _ trains c.requires.0, points-small text _ _ _ _ signs c.requires.1)
