-- `text::number_at` meets its contract: no digit; a zero by itself; or the digits behind the first.
-- Assumes nothing.
use Rattle.std.proofs.Common.{◌≡◌, sym, ◌∙◌, true, false, List, ℕ, ◌≤◌, ◌<◌, length, arith}
use Rattle.text.specs.Reading.{is_digit}
use Rattle.text.proofs.Decimal.{digit-is}
use Rattle.text.proofs.Numbers.{width_small, digit-inside, number-none, number-zero, number-first, small-first}
use Rattle.text.proofs.number_at.Goals as goal

pub overflow_add-next : goal.overflow_add-next
overflow_add-next c =
    let digit : is_digit c.peek-first.result ≡ true = sym c.is_digit.ensures ∙ c.if-not-is_digit.false in
    let inside : c.args.c.at < length c.args.text.now = digit-inside c.args.text.now _ _ c.peek-first.ensures digit in
    omega (arith, inside)

pub returns-then-first-eq48 : goal.returns-then-first-eq48
returns-then-first-eq48 c =
    let digit : is_digit c.peek-first.result ≡ true = sym c.is_digit.ensures ∙ c.if-not-is_digit.false in
    number-zero c.args.text.now _ _ _ c.peek-first.ensures digit c.if-first-eq48.true

pub overflow_sub-first : goal.overflow_sub-first
overflow_sub-first c =
    let digit : is_digit c.peek-first.result ≡ true = sym c.is_digit.ensures ∙ c.if-not-is_digit.false in
    let d = digit-is _ digit in omega arith

pub digits_at-requires : goal.digits_at-requires
digits_at-requires c =
    let digit : is_digit c.peek-first.result ≡ true = sym c.is_digit.ensures ∙ c.if-not-is_digit.false in
    let inside : c.args.c.at < length c.args.text.now = digit-inside c.args.text.now _ _ c.peek-first.ensures digit in
    let d = digit-is _ digit in
    let h = inside in
    let e = c.more_digits.ensures in
    let w = width_small c.args.w in
    let b : c.more_digits.result ≤ 9 = omega arith in
    (small-first _ _ b (omega arith), b, omega arith)

pub returns-else-first-eq48 : goal.returns-else-first-eq48
returns-else-first-eq48 c =
    let digit : is_digit c.peek-first.result ≡ true = sym c.is_digit.ensures ∙ c.if-not-is_digit.false in
    c.digits_at.ensures
    ∙ (rw c.more_digits.ensures
    (number-first c.args.text.now _ _ _ c.peek-first.ensures digit c.if-first-eq48.false))

pub returns-then-not-is_digit : goal.returns-then-not-is_digit
returns-then-not-is_digit c =
    number-none c.args.text.now _ _ _ c.peek-first.ensures (sym c.is_digit.ensures ∙ c.if-not-is_digit.true)
