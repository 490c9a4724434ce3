-- `text::digits_at` meets its contract. The loop's invariant: what is to be read from here on is what was to be read
-- where the loop began, and the number so far has no more digits than were read. Assumes nothing.
use Rattle.std.proofs.Common.{◌≡◌, refl, sym, ◌∙◌, true, false, ◌<◌, ◌-◌, ◌+◌, length, arith}
use Rattle.text.specs.Reading.{is_digit}
use Rattle.text.proofs.Decimal.{digit-is}
use Rattle.text.proofs.Numbers.{digit-inside, digits-next, digits-stop, digits-out, small-next, small-enough}
use Rattle.text.proofs.digits_at.Goals as goal
use Rattle.text.proofs.digits_at.Goals.{Else-not-is_digit}

-- A digit stands at the cursor, so the cursor is inside the text.
digit : (c : Else-not-is_digit) → is_digit c.peek-b.result ≡ true
digit c = sym c.is_digit.ensures ∙ c.if-not-is_digit.false

few : (c : Else-not-is_digit) → c.loop-i.n < 1000000000
few c = let t = c.loop-i-test.true in small-enough (c.args.most - c.loop-i._i) _ (omega (arith, t)) c.loop-i.invariant.1

pub loop-i-init : goal.loop-i-init
loop-i-init c =
    let none : c.args.most - 0 ≡ c.args.most = omega arith in
    (rw none refl, rw none c.requires.0, c.requires.2)

pub overflow_mul-n : goal.overflow_mul-n
overflow_mul-n c = let d = digit-is _ (digit (goal.at.overflow_mul-n c).Else-not-is_digit) in omega (arith, few (goal.at.overflow_mul-n c).Else-not-is_digit)

pub overflow_sub-n : goal.overflow_sub-n
overflow_sub-n c = let d = digit-is _ (digit (goal.at.overflow_sub-n c).Else-not-is_digit) in omega arith

pub overflow_add-n : goal.overflow_add-n
overflow_add-n c = let d = digit-is _ (digit (goal.at.overflow_add-n c).Else-not-is_digit) in omega (arith, few (goal.at.overflow_add-n c).Else-not-is_digit)

pub overflow_add-at : goal.overflow_add-at
overflow_add-at c =
    let inside : c.loop-i.at < length c.args.text.now = digit-inside c.args.text.now _ _ c.peek-b.ensures (digit (goal.at.overflow_add-at c).Else-not-is_digit) in
    omega (arith, inside)

pub loop-i-preserved : goal.loop-i-preserved
loop-i-preserved c =
    let dg = digit (goal.at.loop-i-preserved c).Else-not-is_digit in
    let inside : c.loop-i.at < length c.args.text.now = digit-inside c.args.text.now _ _ c.peek-b.ensures dg in
    let inv = c.loop-i.invariant in
    let d = digit-is _ dg in
    let more : 0 < c.args.most - c.loop-i._i = let t = c.loop-i-test.true in omega (arith, t) in
    let one : (c.args.most - c.loop-i._i) - 1 ≡ c.args.most - (c.loop-i._i + 1) = omega arith in (
      inv.0 ∙ (rw one at (digits-next c.args.text.now c.loop-i.at c.peek-b.result (c.args.most - c.loop-i._i) c.loop-i.n c.peek-b.ensures more dg)),
      (rw one at (small-next (c.args.most - c.loop-i._i) c.loop-i.n (c.peek-b.result - 48) more (let m = c.requires.1 in omega (arith, m)) (omega arith) inv.1)),
      omega arith,
    )

pub returns-then-not-is_digit : goal.returns-then-not-is_digit
returns-then-not-is_digit c =
    digits-stop c.args.text.now _ _ _ _ c.peek-b.ensures
    (sym c.is_digit.ensures ∙ c.if-not-is_digit.true)
    ∙ sym c.loop-i.invariant.0

pub returns-after-loop-i : goal.returns-after-loop-i
returns-after-loop-i c = digits-out c.args.text.now _ _ _ (omega arith) ∙ sym c.loop-i.invariant.0
