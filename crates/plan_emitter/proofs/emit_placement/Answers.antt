-- `plan_emitter::emit_placement` meets its contract: the line is put at the front, where it has room.
-- Assumes nothing.
use Prim.Native.Nat.{suc}
use native.Mathlib.Numerals.{add-one}
use Rattle.plan.specs.declared.PlanPlace.TheVariants.{From}
use Rattle.plan.specs.Lines.{placement_line, spell}
use Rattle.plan.specs.Text.{line_for}
use Rattle.plan.proofs.Several.{spell-some}
use Rattle.plan_emitter.proofs.Putting.{front-refused, front-written}
use Rattle.plan_emitter.proofs.emit_placement.Goals as goal

pub returns-then-n-eq0 : goal.returns-then-n-eq0
returns-then-n-eq0 c =
    λ r h has.
    let line = placement_line (line_for r c.args.figures.now c.args.settings.now c.args.p) in
    front-refused (spell line) c.args.out.now (From (suc c.args.p)) (spell-some line) (c.put_placement-n.ensures r h has) c.if-n-eq0.true

pub returns : goal.returns
returns c =
    λ r h has.
    let line = placement_line (line_for r c.args.figures.now c.args.settings.now c.args.p) in
    rw (add-one c.args.p)
    (front-written (spell line) c.args.out.now (From (suc c.args.p)) (spell-some line) (c.put_placement-n.ensures r h has) c.if-n-eq0.false)
