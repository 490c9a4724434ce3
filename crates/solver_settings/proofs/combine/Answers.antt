-- `solver_settings::combine` meets its contract: nothing is wanted at first, and the smallest bits for all trains from the first on decide.
-- Assumes nothing.
use Rattle.game.proofs.Accepted.{facts}
use Rattle.solver_settings.proofs.Trying.{nothing_placed, together-found, together-none}
use Rattle.solver_settings.proofs.combine.Goals as goal

pub returns-then-bits-lt-NO_BITS : goal.returns-then-bits-lt-NO_BITS
returns-then-bits-lt-NO_BITS c =
    λ r p h f.
    let k = facts r h.looks.on.compiled.accepted in
    together-found r k p h.apart _ _ f _ (c.over_train-bits.ensures r p h (nothing_placed r)) c.if-bits-lt-NO_BITS.true

pub returns-else-bits-lt-NO_BITS : goal.returns-else-bits-lt-NO_BITS
returns-else-bits-lt-NO_BITS c =
    λ r p h f.
    let k = facts r h.looks.on.compiled.accepted in
    together-none r k p h.apart _ _ f _ (c.over_train-bits.ensures r p h (nothing_placed r)) c.if-bits-lt-NO_BITS.false
