-- `text::digits_at` meets its contract. The loop's invariant: what is to be read from here on is what was to be read
-- where the loop began, and the number so far has no more digits than were read. Assumes nothing.
use Rattle.std.proofs.Common.{◌≡◌, ◌-◌, ◌^◌, ◌<◌, ◌≤◌, length}
use Rattle.text.specs.Reading.{digits_at}
use Rattle.text.proofs.digits_at.Given as goal

abbrev pub invariant-loop-i : goal.invariant-loop-i
invariant-loop-i l = (digits_at l.text l.most l.value l.fn.from.at ≡ digits_at l.text (l.most - l._i) l.n l.at) × (l.n < 10 ^ (10 - (l.most - l._i))) × (l.at ≤ length l.text)
