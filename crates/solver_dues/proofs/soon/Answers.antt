-- `solver_dues::soon` meets its contract. The loop's invariant: so it is of the trains before t.
-- Assumes nothing.
use native.Mathlib.Omega.{arith}
use mathlib.Core.Logic.{inl, inr}
use mathlib.Core.Path.{refl, ◌∙◌}
use lib.ListN.{length-set}
use lib.Seq.{get_or-set_same, get_or-set_other}
use Rattle.laws.proofs.Bools.{eq?}
use Rattle.railway.proofs.Rows.{accepted-facts}
use Rattle.solver_dues.proofs.soon.Goals as goal

pub loop-t-init : goal.loop-t-init
loop-t-init c = (refl, λ r h room u lu. absurd (omega arith))

pub loop-t-preserved : goal.loop-t-preserved
loop-t-preserved c = (
  length-set c.loop-t.soon c.loop-t.t _ ∙ c.loop-t.invariant.0,
  λ r h room u lu lt first. elim (eq? u c.loop-t.t) [
    | inl z ↦ rw z (get_or-set_same c.loop-t.soon c.loop-t.t _ 0 (omega (arith, c.loop-t.invariant.0)) ∙ c.soon_by.ensures r h room (rw z at lt) (rw z at first))
    | inr z ↦ get_or-set_other c.loop-t.soon c.loop-t.t u _ 0 z ∙ c.loop-t.invariant.1 r h room u (omega (arith, z)) lt first
  ],
)

pub returns : goal.returns
returns c = λ r h room t lt first. c.loop-t.invariant.1 r h room t (omega (arith, (accepted-facts r h.accepted).bounds.few-trains)) lt first
