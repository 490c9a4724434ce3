-- `game_moves::may_in` meets its contract: a train that is there and free, or whose signal is open.
-- Assumes nothing.
use Rattle.game_moves.proofs.Moving.{as-there, not_there, free-may, held-may, parked-may}
use Rattle.game_moves.proofs.may_in.Goals as goal

pub returns-then-trains_in-t : goal.returns-then-trains_in-t
returns-then-trains_in-t c = λ r p h. not_there r p _ _ h _ _ _ (c.trains_in.ensures r h.compiled) c.if-trains_in-t.true

pub returns-then-free_in : goal.returns-then-free_in
returns-then-free_in c =
    λ r p h.
    free-may r p _ _ h _ _ _ (c.trains_in.ensures r h.compiled) c.if-trains_in-t.false _
    (λ l. as-there r p _ _ h _ l _ _ (c.free_in.ensures r p h)) c.if-free_in.true

pub returns-then-held_in : goal.returns-then-held_in
returns-then-held_in c =
    λ r p h.
    held-may r p _ _ h _ _ _ (c.trains_in.ensures r h.compiled) c.if-trains_in-t.false _
    (λ l. as-there r p _ _ h _ l _ _ (c.free_in.ensures r p h)) c.if-free_in.false _
    (λ l. as-there r p _ _ h _ l _ _ (c.held_in.ensures r p h))
    _ c.if-held_in.true (c.open_for.ensures r p h)

pub returns-else-held_in : goal.returns-else-held_in
returns-else-held_in c =
    λ r p h.
    parked-may r p _ _ h _ _ _ (c.trains_in.ensures r h.compiled) c.if-trains_in-t.false _
    (λ l. as-there r p _ _ h _ l _ _ (c.free_in.ensures r p h)) c.if-free_in.false _
    (λ l. as-there r p _ _ h _ l _ _ (c.held_in.ensures r p h)) c.if-held_in.false
