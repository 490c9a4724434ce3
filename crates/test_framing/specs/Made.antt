-- Small railways that no case text is read as: a record may break a row that a text with this record would be refused for. Nothing of document 01 rests on this.
-- Assumes nothing.
use Rattle.std.specs.Prelude.{ℕ}
use Rattle.railway.specs.declared.Side.TheVariants.{Up, Down}
use Rattle.railway.specs.declared.Leg.{Leg}
use Rattle.railway.specs.declared.Leg.TheVariants.{Stem, Plus, Minus}
use Rattle.railway.specs.declared.End.TheVariants.{Port}
use Rattle.railway.specs.declared.Railway.{Railway}
use Rattle.railway.specs.Record.{bare_railway, with_join, with_legs, with_train}

-- Sections and points without joins, and on the first section a train that goes up, with a destination and a weight.
abbrev pub one_train : ℕ → ℕ → ℕ → ℕ → Railway
one_train s p to w =
    with_train (bare_railway s p 1) 0 (record { heading = Up; start = record { 0 = 0 }; destination = record { 0 = to }; weight = w })

-- The same port of the first two points, joined.
abbrev pub join_ports : Leg → Railway → Railway
join_ports l r = with_join r (Port (record { 0 = 0 }) l) (Port (record { 0 = 1 }) l)

-- The first two points in a round.
abbrev pub in_round : Railway → Railway
in_round r = join_ports Minus (join_ports Plus (join_ports Stem (with_legs r 1 Down)))
