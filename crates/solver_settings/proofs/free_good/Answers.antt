-- `solver_settings::free_good` meets its contract: where these bits lead the train.
-- Assumes nothing.
use Rattle.game_moves.proofs.Moving.{as-there}
use Rattle.solver_settings.proofs.Stepping.{not-free-good, nowhere-good, y-inside, enters-good}
use Rattle.solver_settings.proofs.free_good.Goals as goal

pub returns-then-y : goal.returns-then-y
returns-then-y c =
    λ r p h l.
    let on = h.on in
    nowhere-good r p _ _ on c.args.bits c.args.t _ (c.leads_to-y.ensures r p on h.laid) _ c.args.aim.figure _
    (as-there r p _ _ on _ l _ _ (c.free_in.ensures r p on)) c.if-free_in.true c.if-y.true

pub returns-else-y : goal.returns-else-y
returns-else-y c =
    λ r p h l.
    let on = h.on in
    let leads = c.leads_to-y.ensures r p on h.laid in
    let inside = y-inside r p _ _ on c.args.bits c.args.t _ leads c.if-y.false in
    enters-good r p _ _ on c.args.bits c.args.t _ leads _ _ _ (as-there r p _ _ on _ l _ _ (c.free_in.ensures r p on))
    c.if-free_in.true c.if-y.false _ (c.ends_good.ensures r p on h.code l inside)

pub returns-else-free_in : goal.returns-else-free_in
returns-else-free_in c =
    λ r p h l.
    let on = h.on in
    not-free-good r _ p c.args.aim.figure c.args.bits _ _ (as-there r p _ _ on _ l _ _ (c.free_in.ensures r p on)) c.if-free_in.false
