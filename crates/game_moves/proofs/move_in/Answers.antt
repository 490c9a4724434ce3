-- `game_moves::move_in` meets its contract: a train that may move ends where the points of the entry lead it.
-- Assumes nothing.
use Rattle.game_moves.proofs.Moving.{not-allowed, there-if, allowed}
use Rattle.game_moves.proofs.move_in.Goals as goal

pub returns-then-may_in : goal.returns-then-may_in
returns-then-may_in c =
    λ r p on ways.
    let is = c.may_in.ensures r p on in
    let yes = c.if-may_in.true in
    allowed r p _ _ on _ _ _ is c.outcome_of.result yes (c.outcome_of.ensures r p on ways (there-if r p _ _ on _ _ _ is yes))

pub returns-else-may_in : goal.returns-else-may_in
returns-else-may_in c = λ r p on ways. not-allowed r p _ _ on _ _ _ (c.may_in.ensures r p on) c.if-may_in.false
