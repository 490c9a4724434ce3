-- `search_calls::finish` meets its contract: a round, whether it brought figures, and what comes next.
-- Assumes nothing.
use native.Mathlib.Omega.{arith}
use Rattle.search_calls.proofs.Looking.{round-ready}
use Rattle.search_calls.proofs.Finishing.{finished-next, finished-came, finished-none}
use Rattle.search_calls.proofs.finish.Goals as goal

pub returns-then-follows-clause-finished : goal.returns-then-follows-clause-finished
returns-then-follows-clause-finished c =
    λ r k h w b lf ls few en t marked.
    let x = c.round-d.ensures.1 r k h w b lf ls few en t marked in
    let on = c.round-d.ensures.0 (omega (arith, few)) in
    let y = c.came-came.ensures r _ h (omega (arith, few)) x.1 in
    finished-next r h.accepted c.args.n _ c.args.figures.now c.args.settings.now _ _ _ on x.0 x.1
    _ y c.if-came.true (c.follows.ensures c.if-follows.true)

pub returns-else-not-came-clause-finished : goal.returns-else-not-came-clause-finished
returns-else-not-came-clause-finished c =
    λ r k h w b lf ls few en t marked.
    let x = c.round-d.ensures.1 r k h w b lf ls few en t marked in
    let on = c.round-d.ensures.0 (omega (arith, few)) in
    let y = c.came-came.ensures r _ h (omega (arith, few)) x.1 in
    let z =
    c.look_ahead-c.ensures r c.args.n (omega (arith, few)) h w b (omega (arith, lf, c.round-d.auto.figures))
    (omega (arith, ls, c.round-d.auto.settings)) (round-ready r h.accepted c.args.n _
    c.args.figures.now c.args.settings.now _ _ _ on x.0 x.1) in
    rw c.if-not-came.false
    (finished-came r h.accepted c.args.n _ c.args.figures.now c.args.settings.now _ _ _ on x.0 x.1
    _ y _ (omega (arith, c.look_ahead-c.type_inv)) _ _ _ z c.if-not-came.false)

pub returns-then-not-came-clause-finished : goal.returns-then-not-came-clause-finished
returns-then-not-came-clause-finished c =
    λ r k h w b lf ls few en t marked.
    let x = c.round-d.ensures.1 r k h w b lf ls few en t marked in
    let on = c.round-d.ensures.0 (omega (arith, few)) in
    let y = c.came-came.ensures r _ h (omega (arith, few)) x.1 in
    let z =
    c.look_ahead-c.ensures r c.args.n (omega (arith, few)) h w b (omega (arith, lf, c.round-d.auto.figures))
    (omega (arith, ls, c.round-d.auto.settings)) (round-ready r h.accepted c.args.n _
    c.args.figures.now c.args.settings.now _ _ _ on x.0 x.1) in
    finished-none r h.accepted c.args.n _ c.args.figures.now c.args.settings.now _ _ _ on x.0 x.1
    _ y _ (omega (arith, c.look_ahead-c.type_inv)) _ _ _ z c.if-not-came.true
