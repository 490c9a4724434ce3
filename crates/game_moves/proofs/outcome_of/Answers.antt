-- `game_moves::outcome_of` meets its contract: off the track, into another train, or on.
-- Assumes nothing.
use Rattle.game_moves.proofs.Moving.{other-on, code-moved, derails, collides, stands_at}
use Rattle.game_moves.proofs.outcome_of.Goals as goal

pub returns-then-x : goal.returns-then-x
returns-then-x c = λ r p h ways l. derails r p _ _ h _ _ _ (c.leads_to-x.ensures r p h ways) c.if-x.true

pub returns-then-other_in : goal.returns-then-other_in
returns-then-other_in c =
    λ r p h ways l.
    collides r p _ _ h _ _ _ (c.leads_to-x.ensures r p h ways) c.if-x.false _
    (other-on r p _ _ h _ _ _ _ (c.trains_in.ensures r h.compiled) c.other_in.ensures)
    c.if-other_in.true

pub returns : goal.returns
returns c =
    λ r p h ways l.
    stands_at r p _ _ h _ _ _ (c.leads_to-x.ensures r p h ways) c.if-x.false _ (other-on r p _ _ h _ _ _ _
    (c.trains_in.ensures r h.compiled) c.other_in.ensures) _ c.if-other_in.false
    (code-moved r p _ _ h _ _ _ l (c.code_with.ensures r h.compiled))
