-- `plan_emitter::more_lines` meets its contract. The loop's invariant: of a run that was underway when the call came, what is left is left from the place
-- reached on. The codes rise, so that it ends.
-- Assumes nothing.
use native.Mathlib.Omega.{arith}
use mathlib.Core.Path.{refl, ◌∙◌}
use Rattle.plan_emitter.proofs.Putting.{next-behind, lines-over, lines-full, lines_next}
use Rattle.plan_emitter.proofs.more_lines.Goals as goal

pub loop-p-init : goal.loop-p-init
loop-p-init c = (refl, λ r whole h p u. u)

pub returns-in_default : goal.returns-in_default
returns-in_default c =
    λ r whole h p u.
    lines-over r c.args.figures.now c.args.settings.now p whole c.loop-p.c c.loop-p.at c.loop-p.out
    (c.loop-p.invariant.1 r whole h p u) _ (c.placements-total.ensures r h) c.in_default.ensures

pub returns-then-next-at : goal.returns-then-next-at
returns-then-next-at c =
    λ r whole h p u.
    lines-full r c.args.figures.now c.args.settings.now p whole c.loop-p.c c.loop-p.at c.loop-p.out
    (c.loop-p.invariant.1 r whole h p u) _ (c.placements-total.ensures r h) _ c.in-Some.ensures.1
    (c.put_placement-next.ensures r h) c.if-next-at.true

pub loop-p-smaller : goal.loop-p-smaller
loop-p-smaller c = omega (arith, next-behind c.args.figures.now c.loop-p.c _ _ c.in-Some.ensures.1, c.in-Some.ensures.0)

pub loop-p-preserved : goal.loop-p-preserved
loop-p-preserved c = (
  c.put_placement-next.auto.out ∙ c.loop-p.invariant.0,
  λ r whole h p u. lines_next r c.args.figures.now c.args.settings.now p whole c.loop-p.c c.loop-p.at
      c.loop-p.out (c.loop-p.invariant.1 r whole h p u) _ (c.placements-total.ensures r h) _ c.in-Some.ensures.1
      (c.put_placement-next.ensures r h) c.if-next-at.false,
)
