-- `runs_tables::enter` meets its contract: before way j the first j ways have been gone. A section that no railway has says that there is no way more. Assumes nothing.
use mathlib.Core.Path.{◌≡◌}
use native.Mathlib.Omega.{arith}
use Rattle.railway.specs.Record.{is_closed}
use Rattle.railway_routes.specs.Routes.{most_ways}
use Rattle.runs_tables.proofs.Reaching.{none-gone, gone-all, no_way, no_more, step}
use Rattle.runs_tables.proofs.enter.Goals as goal

pub loop-j-init : goal.loop-j-init
loop-j-init c = λ r laid l. none-gone _ _ _

pub returns-then-z-ge-SECTIONS : goal.returns-then-z-ge-SECTIONS
returns-then-z-ge-SECTIONS c =
    λ r laid le. gone-all _ _ _ _ _ (no_way r _ _ _ (c.way_to-z.ensures.way r (is_closed r) laid le) c.if-z-ge-SECTIONS.true) (omega arith)
    (c.loop-j.invariant r laid le)

pub loop-j-preserved : goal.loop-j-preserved
loop-j-preserved c =
    λ r laid le. step r _ _ _ _ _ _ _ (c.way_to-z.ensures.way r (is_closed r) laid le) (omega (arith, c.if-z-ge-SECTIONS.false)) c.first_of.ensures (c.loop-j.invariant r laid le)

pub returns : goal.returns
returns c =
    λ r laid le.
    let e : c.loop-j.j ≡ most_ways = omega arith in
    gone-all _ _ _ _ _ (rw e (no_more r _)) (omega arith) (c.loop-j.invariant r laid le)
