-- `text::append::bytes` meets its contract. The loop's invariant: the bytes in front are written, and the buffer is as
-- long as it was. Assumes nothing.
use Rattle.std.proofs.Common.{◌≡◌, ◌≤◌, length, take}
use Rattle.text.specs.Appending.{Appended}
use Rattle.text.proofs.append.bytes.Given as goal

abbrev pub invariant-loop-b : goal.invariant-loop-b
invariant-loop-b l = Appended l.initial.out l.at (take l.b-index l.text) l.out l.next × (length l.out ≡ length l.initial.out)
