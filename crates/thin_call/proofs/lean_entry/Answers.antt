-- `thin_call::lean_entry` meets its contract, by whether some train is free.
-- Assumes nothing.
use native.Mathlib.Omega.{arith}
use Rattle.thin_call.proofs.Entries.{lean-free, lean-held}
use Rattle.thin_call.proofs.lean_entry.Goals as goal

pub returns-then-some_free : goal.returns-then-some_free
returns-then-some_free c = λ r p on. lean-free r p c.args.v _ (c.some_free.ensures r p on) c.if-some_free.true

pub overflow_add-result : goal.overflow_add-result
overflow_add-result c = omega (arith, c.lowest_bit-open.ensures.0)

pub returns : goal.returns
returns c =
    λ r p on.
    lean-held r p c.args.v _ (c.some_free.ensures r p on) c.if-some_free.false _ (c.lowest_bit-open.ensures.1 r p on)
