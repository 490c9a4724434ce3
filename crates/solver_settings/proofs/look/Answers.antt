-- `solver_settings::look` meets its contract. The loop's invariant: what is known of the free trains before t, each by itself.
-- Assumes nothing.
use native.Mathlib.Omega.{arith}
use Rattle.std.proofs.Common.{rules}
use mathlib.Core.Path.{sym, ◌∙◌}
use Rattle.laws.proofs.Below.{any_of}
use Rattle.game.specs.Setting.{free}
use Rattle.game.proofs.Accepted.{facts}
use Rattle.game_moves.proofs.Moving.{as-there}
use Rattle.solver_settings.proofs.Alone.{seen_start, seen-not, seen_one, seen_all}
use Rattle.solver_settings.proofs.Trying.{no_way}
use Rattle.solver_settings.proofs.look.Goals as goal
use Rattle.solver_settings.proofs.look.Goals.{then-free_in+else-w-ge-NO_BITS, else-free_in}

pub loop-t-init : goal.loop-t-init
loop-t-init c = (omega arith, λ r p h. seen_start r _ p _)

pub returns-then-w-ge-NO_BITS : goal.returns-then-w-ge-NO_BITS
returns-then-w-ge-NO_BITS c =
    λ r p h.
    let on = h.looks.on in
    let lt = rw h.trains at c.loop-t-test.true in
    let is = sym (as-there r p _ _ on _ lt _ _ (c.free_in.ensures r p on)) ∙ c.if-free_in.true in
    no_way r (facts r on.compiled.accepted) p h.apart _ _ (any_of (free r p) r.trains _ lt is) _ _ lt is
    (c.least_way-w.ensures r p h.looks lt) c.if-w-ge-NO_BITS.true

pub loop-t-preserved : goal.loop-t-preserved
loop-t-preserved c =
    elim c.if-free_in.branch [
      | then-free_in+else-w-ge-NO_BITS w ↦
          rw (w.count-is, w.all-is, w.most-is) (
            omega (arith, c.loop-t.invariant.0),
            λ r p h.
                let on = h.looks.on in
                let lt = rw h.trains at c.loop-t-test.true in
                seen_one r _ p _ _ _ _ _ (c.loop-t.invariant.1 r p h)
                (sym (as-there r p _ _ on _ lt _ _ (c.free_in.ensures r p on)) ∙ w.if-free_in.true) _
                (w.least_way-w.ensures r p h.looks lt) w.if-w-ge-NO_BITS.false _ (search rules),
          )
      | else-free_in w ↦
          rw (w.count-is, w.all-is, w.most-is) (
            omega (arith, c.loop-t.invariant.0),
            λ r p h.
                let on = h.looks.on in
                let lt = rw h.trains at c.loop-t-test.true in
                seen-not r _ p _ _ _ _ _ (c.loop-t.invariant.1 r p h)
                (sym (as-there r p _ _ on _ lt _ _ (c.free_in.ensures r p on)) ∙ w.if-free_in.false),
          )
    ]

pub returns : goal.returns
returns c =
    λ r p h.
    c.settle.ensures r p h
    (seen_all r _ p _ _ _ _ _ _ h.trains (omega arith) (omega arith) (c.loop-t.invariant.1 r p h))
