-- `plan_text::put_first` meets its contract: a buffer that has not so many bytes is not spoken of.
-- Assumes nothing.
use native.Mathlib.Omega.{arith}
use lib.ListN.{length-take}
use Rattle.plan_text.proofs.put_first.Goals as goal

pub returns-then-own-n : goal.returns-then-own-n
returns-then-own-n c = λ within. absurd (omega (arith, within, c.if-own-n.true))

pub slice_bounds-put-end : goal.slice_bounds-put-end
slice_bounds-put-end c = simp length-take (omega arith)
