-- `desk_calls::arrivals` meets its contract. The loop's invariant: n of the trains before t have arrived.
-- Assumes nothing.
use native.Mathlib.Omega.{arith}
use borrow.Author.Tests.{eq-eqb, ne_eqb}
use mathlib.Core.Path.{refl, sym, ◌∙◌}
use Rattle.laws.specs.Below.{count_below}
use Rattle.game_moves.proofs.Placing.{arrived-is}
use Rattle.desk_calls.proofs.Desks.{one_more, none_more, arrived-all}
use Rattle.desk_calls.proofs.arrivals.Goals as goal

pub loop-t-init : goal.loop-t-init
unfolding count_below
loop-t-init c = (omega arith, λ r p on. refl)

pub loop-t-preserved : goal.loop-t-preserved
loop-t-preserved c =
    elim c.if-section_at-destination_in.branch [
      | goal.then-section_at-destination_in z ↦ (
        omega (arith, z.n-is, c.loop-t.invariant.0),
        λ r p on. z.n-is ∙ one_more r p _ _ (c.loop-t.invariant.1 r p on)
            (sym (arrived-is r p _ _ on _ _ _ c.section_at.ensures (c.destination_in.ensures r on.compiled)) ∙ eq-eqb _ _ z.if-section_at-destination_in.true),
      )
      | goal.else-section_at-destination_in z ↦ (
        omega (arith, z.n-is, c.loop-t.invariant.0),
        λ r p on. z.n-is ∙ none_more r p _ _ (c.loop-t.invariant.1 r p on)
            (sym (arrived-is r p _ _ on _ _ _ c.section_at.ensures (c.destination_in.ensures r on.compiled)) ∙ ne_eqb _ _ z.if-section_at-destination_in.false),
      )
    ]

pub returns : goal.returns
returns c = λ r p on. arrived-all r p _ _ (c.loop-t.invariant.1 r p on) _ (c.trains_in-k.ensures r on.compiled) (omega arith) (omega arith)
