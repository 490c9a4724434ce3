-- `advice_call::first_bare` meets its contract. The loop's invariant: every end before index i has a signal. Assumes nothing.
use Rattle.advice_call.specs.Tries.{AllSignals}
use Rattle.advice_call.proofs.first_bare.Given as goal

abbrev pub invariant-loop-i : goal.invariant-loop-i
invariant-loop-i l = AllSignals l.r l.i
