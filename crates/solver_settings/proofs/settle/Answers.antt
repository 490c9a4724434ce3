-- `solver_settings::settle` meets its contract: what is known of each free train by itself decides, or all are looked at together.
-- Assumes nothing.
use Rattle.game.proofs.Accepted.{facts}
use Rattle.solver_settings.proofs.Trying.{settled-single, settled-zero, settled-union}
use Rattle.solver_settings.proofs.settle.Goals as goal

pub returns-then-count-eq0 : goal.returns-then-count-eq0
returns-then-count-eq0 c = λ r p h s. c.open_one.ensures r p h (s.nobody c.if-count-eq0.true)

pub returns-then-count-eq1 : goal.returns-then-count-eq1
returns-then-count-eq1 c =
    λ r p h s.
    let k = facts r h.looks.on.compiled.accepted in
    settled-single r k p h.apart _ _ (s.somebody c.if-count-eq0.false) _ _ _ s c.if-count-eq1.true

pub returns-then-all-eq0 : goal.returns-then-all-eq0
returns-then-all-eq0 c =
    λ r p h s.
    let k = facts r h.looks.on.compiled.accepted in
    settled-zero r k p h.apart _ _ (s.somebody c.if-count-eq0.false) _ _ _ s c.if-all-eq0.true

pub returns-then-union_serves : goal.returns-then-union_serves
returns-then-union_serves c =
    λ r p h s.
    let k = facts r h.looks.on.compiled.accepted in
    settled-union r k p h.apart _ _ (s.somebody c.if-count-eq0.false) _ _ _ s _ (c.union_serves.ensures r p h)
    c.if-union_serves.true

pub returns : goal.returns
returns c = λ r p h s. c.combine.ensures r p h (s.somebody c.if-count-eq0.false)
