-- `game_moves::open_in` meets its contract.
-- Assumes nothing.
use Rattle.std.proofs.Common.{rules, tests}
use Rattle.game_tables.specs.Entries.{opens_in, opens_end}
use Rattle.game_placement.proofs.Ranges.{any_range}
use Rattle.game_moves.proofs.Moving.{opens-is}
use mathlib.Core.Path.{refl}
use Rattle.game_moves.proofs.open_in.Goals as goal

pub returns : goal.returns
returns c = λ r p h. opens-is r p _ _ h c.args.v _ _ (c.trains_in-k.ensures r h.compiled)
    (any_range (opens_end r p (opens_in c.args.v) c.args.i) c.trains_in-k.result _ _ _ c.any.ensures.ran refl (λ x b q k. search (rules, tests)))
