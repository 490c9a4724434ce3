-- `plan_emitter::due_lines` meets its contract: the call for one line, and behind its line all that have room.
-- Assumes nothing.
use mathlib.Core.Path.{◌≡◌, refl, ap}
use mathlib.Core.Bool.{false}
use Prim.Native.Nat.{ℕ}
use Rattle.std.proofs.Common.{Ok}
use Rattle.std.proofs.lemmas.Result.{err_from_is_err_and}
use Rattle.plan.specs.declared.Emission.{Emission}
use Rattle.plan.specs.declared.Emission.TheVariants as emission
use Rattle.plan.specs.declared.PlanPlace.{PlanPlace}
use Rattle.plan.specs.Emitter.{is_line}
use Rattle.plan_emitter.proofs.Putting.{due-none, due-top, due-more}
use Rattle.plan_emitter.proofs.due_lines.Goals as goal

-- what is left beside a line
no_line : (a : Emission) → ((n : ℕ) (next : PlanPlace) → ¬ (a ≡ emission.Line n next)) → is_line (Ok a) ≡ false
no_line (emission.Line n next) h = absurd (h n next refl)
no_line emission.End h = refl
no_line emission.NoPlan h = refl

pub returns-in_err-first : goal.returns-in_err-first
returns-in_err-first c =
    λ r h ok.
    let p = err_from_is_err_and c.from_residual.result c.from_residual.ensures.1 in
    rw (p.1, p.2) (due-none r c.args.figures.now c.args.settings.now c.args.place c.args.out.now ok (c.in_err-first.ensures r h) refl)

pub returns-in_default : goal.returns-in_default
returns-in_default c =
    λ r h ok.
    due-none r c.args.figures.now c.args.settings.now c.args.place c.args.out.now ok (c.in_ok-first.ensures r h)
    (no_line c.in_ok-first.first c.in_default.not-Line)

pub returns-in_default-next : goal.returns-in_default-next
returns-in_default-next c =
    λ r h ok.
    due-top r c.args.figures.now c.args.settings.now c.args.place c.args.out.now ok (c.in_ok-first.ensures r h) _ _
    (ap Ok c.in-Line.is) c.in_default-next.is

pub returns : goal.returns
returns c =
    λ r h ok.
    due-more r c.args.figures.now c.args.settings.now c.args.place c.args.out.now ok (c.in_ok-first.ensures r h) _ _
    (ap Ok c.in-Line.is) _ c.in-From.is c.emit_due.auto.out
    (λ whole. c.more_lines.ensures r whole h)
