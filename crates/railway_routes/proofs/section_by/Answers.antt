-- `railway_routes::section_by` meets its contract. The loop's invariant: the place is that of a way's number, and no way before it is suited. The way that is suited
-- leads to the section that is entered, and where none is, none is. Assumes nothing.
use native.Mathlib.Omega.{arith}
use mathlib.Core.Path.{◌≡◌, refl, sym, ◌∙◌, ap}
use lib.Bits.{bit_and}
use Prim.Native.Nat.{ℕ}
use Rattle.railway_routes.proofs.Walking.{walked_start, walked-inside, walked-room, walked_none, walked-hit, walked_end, walked_next}
use Rattle.railway_routes.proofs.section_by.Goals as goal

-- the words, and the same made wide
suit : (points : ℕ) {a b x y : ℕ} → x ≡ a → y ≡ b → bit_and points x ≡ y → bit_and points a ≡ b
suit points e f s = ap (bit_and points) (sym e) ∙ s ∙ f

unsuit : (points : ℕ) {a b x y : ℕ} → x ≡ a → y ≡ b → bit_and points a ≡ b → bit_and points x ≡ y
unsuit points e f s = ap (bit_and points) e ∙ s ∙ sym f

pub loop-at-init : goal.loop-at-init
loop-at-init c = (refl, omega arith, walked_start _ _ _)

pub returns-then-x-eq255 : goal.returns-then-x-eq255
returns-then-x-eq255 c = let w = c.loop-at.invariant.2 in record { found = λ r laid h. walked_none _ _ _ _ w r laid h c.loop-at-test.true c.if-x-eq255.true; past = λ h. absurd (omega (arith, c.if-e-ge-SECTION_ENDS.false)) }

pub bounds-ways-at-in-loop-at : goal.bounds-ways-at-in-loop-at
bounds-ways-at-in-loop-at c = omega (arith, c.if-e-ge-SECTION_ENDS.false, walked-room _ _ _ _ c.loop-at.invariant.2 c.loop-at-test.true)

pub bounds-ways-at-in-loop-at-2 : goal.bounds-ways-at-in-loop-at-2
bounds-ways-at-in-loop-at-2 c = omega (arith, c.if-e-ge-SECTION_ENDS.false, walked-room _ _ _ _ c.loop-at.invariant.2 c.loop-at-test.true)

pub returns-then-points-from : goal.returns-then-points-from
returns-then-points-from c =
    let w = c.loop-at.invariant.2 in
    let fit = suit c.args.points c.from.ensures c.from-in-loop-at.ensures c.if-points-from.true in record { found = λ r laid h. walked-hit _ _ _ _ w r laid h c.loop-at-test.true c.if-x-eq255.false fit; past = λ h. absurd (omega (arith, c.if-e-ge-SECTION_ENDS.false)) }

pub loop-at-preserved : goal.loop-at-preserved
loop-at-preserved c =
    let w = c.loop-at.invariant.2 in
    let n =
    walked_next _ _ _ _ w (omega (arith, c.if-e-ge-SECTION_ENDS.false)) c.loop-at-test.true c.if-x-eq255.false
    (λ s. c.if-points-from.false (unsuit c.args.points c.from.ensures c.from-in-loop-at.ensures s)) in
    (c.loop-at.invariant.0, walked-inside _ _ _ _ n, n)

pub returns : goal.returns
returns c = record { found = λ r laid h. walked_end _ _ _ _ c.loop-at.invariant.2 r laid h c.loop-at-test.false; past = λ h. absurd (omega (arith, c.if-e-ge-SECTION_ENDS.false)) }
