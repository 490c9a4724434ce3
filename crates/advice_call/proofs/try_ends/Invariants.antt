-- `advice_call::try_ends` meets its contract. The loop's invariant: no end before index i helps, if none before the first does, and the tables are those of the last case tried. Assumes nothing.
use Rattle.advice_call.proofs.Tries.{Trying}
use Rattle.advice_call.proofs.try_ends.Given as goal

abbrev pub invariant-loop-i : goal.invariant-loop-i
invariant-loop-i l = Trying l.r l.first l.initial.figures l.initial.settings l.i l.figures l.settings
