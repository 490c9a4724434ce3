-- `advice_call::first_bare` meets its contract. The loop's invariant: every end before index i has a signal. Assumes nothing.
use native.Mathlib.Omega.{arith}
use mathlib.Core.Path.{◌≡◌, ap}
use mathlib.Core.Bool.{not}
use Rattle.advice.specs.Advising.{ends_of}
use Rattle.advice_call.proofs.Tries.{bare-start, bare-next, bare-found, bare-over}
use Rattle.advice_call.proofs.first_bare.Goals as goal

pub loop-i-init : goal.loop-i-init
loop-i-init c = bare-start c.args.r

pub returns-then-not-flag_at : goal.returns-then-not-flag_at
returns-then-not-flag_at c = bare-found c.args.r c.loop-i.i _ c.loop-i.invariant c.loop-i-test.true c.flag_at.ensures (ap not c.if-not-flag_at.true)

pub loop-i-preserved : goal.loop-i-preserved
loop-i-preserved c = bare-next c.args.r c.loop-i.i _ c.loop-i.invariant c.flag_at.ensures (ap not c.if-not-flag_at.false)

pub returns : goal.returns
returns c =
    let e : c.loop-i.i ≡ ends_of c.args.r = omega arith in
    rw e at (bare-over c.args.r c.loop-i.i c.loop-i.invariant (omega arith) (omega arith))
