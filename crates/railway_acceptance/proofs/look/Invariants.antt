-- `railway_acceptance::look` meets its contract. The loop's invariant: it has noted what rows 4 and 5 find before i. A join
-- that has been met from its other end tells nothing new. Assumes nothing.
use Rattle.railway.specs.declared.Railway.{Railway}
use Rattle.railway_acceptance.specs.Answers.{Lent, Looked}
use Rattle.railway_acceptance.proofs.look.Given as goal

abbrev pub invariant-loop-i : goal.invariant-loop-i
invariant-loop-i l = (r : Railway) → Lent r l.links l.sides l.ends l.ports → Looked r l.i l.unknown l.wrong l.unreturned
