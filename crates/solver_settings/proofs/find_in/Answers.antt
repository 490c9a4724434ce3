-- `solver_settings::find_in` meets its contract: an accepted railway has no more trains than a railway can have; a lost placement keeps nothing; else the free
-- trains are looked at. Assumes nothing.
use Rattle.solver_settings.proofs.Asking.{trains-few, asked}
use Rattle.solver_settings.proofs.Trying.{lost-none, found_first}
use Rattle.solver_settings.proofs.find_in.Goals as goal

pub returns-then-k-gt-TRAINS : goal.returns-then-k-gt-TRAINS
returns-then-k-gt-TRAINS c = λ r p on ways e. trains-few r _ on.compiled _ (c.trains_in-k.ensures r on.compiled) c.if-k-gt-TRAINS.true _

pub returns-then-lost_in : goal.returns-then-lost_in
returns-then-lost_in c = λ r p on ways e. lost-none r _ _ _ _ (c.lost_in.ensures r p on) c.if-lost_in.true

pub returns : goal.returns
returns c =
    λ r p on ways e.
    let lost = c.lost_in.ensures r p on in
    let trains = c.trains_in-k.ensures r on.compiled in
    found_first r _ _ _ _ lost c.if-lost_in.false _
    (c.look.ensures r p (asked r p _ _ _ _ _ on ways e trains _ lost c.if-lost_in.false))
