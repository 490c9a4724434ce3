-- `test_framing::in_round` meets its contract, call by call.
-- Assumes nothing.
use mathlib.Core.Path.{◌≡◌, ◌∙◌, ap}
use Rattle.railway.specs.declared.Side.TheVariants.{Down}
use Rattle.railway.specs.declared.Leg.TheVariants.{Stem, Plus, Minus}
use Rattle.railway.specs.declared.Railway.{Railway}
use Rattle.railway.specs.Record.{with_legs}
use Rattle.test_framing.specs.Made.{join_ports, in_round}
use Rattle.test_framing.proofs.in_round.Goals as goal

in-turn : (r legs stems pluses all : Railway) → legs ≡ with_legs r 1 Down → stems ≡ join_ports Stem legs → pluses ≡ join_ports Plus stems → all ≡ join_ports Minus pluses
    → all ≡ in_round r
in-turn r legs stems pluses all a b c d = d ∙ ap (join_ports Minus) (c ∙ ap (join_ports Plus) (b ∙ ap (join_ports Stem) a))

pub returns : goal.returns
returns c = in-turn _ _ _ _ _ c.with_legs-legs.ensures c.join_ports-stems.ensures c.join_ports-pluses.ensures c.join_ports.ensures
