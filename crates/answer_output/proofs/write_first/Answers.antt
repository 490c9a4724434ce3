-- `answer_output::write_first` meets its contract: the part that is written lies within the buffer.
-- Assumes nothing.
use native.Mathlib.Omega.{arith}
use lib.ListN.{length-take}
use borrow.Author.Tests.{le-leb, lt-leb}
use Rattle.answer_output.proofs.write_first.Goals as goal

pub slice_bounds-write_all-end : goal.slice_bounds-write_all-end
slice_bounds-write_all-end c = simp length-take (omega arith)

pub returns-then-n-out : goal.returns-then-n-out
returns-then-n-out c = rw (le-leb _ _ c.if-n-out.true)

pub returns : goal.returns
returns c = rw (lt-leb _ _ c.if-n-out.false)
