-- `game_moves::names_none` meets its contract.
-- Assumes nothing.
use Rattle.std.proofs.Common.{rules, tests}
use Rattle.game_placement.proofs.Ranges.{any_range}
use Rattle.game_moves.proofs.Placing.{names-is}
use Rattle.game_placement.specs.ByValue.{section_in}
use mathlib.Core.Path.{refl}
use mathlib.Core.Bool.{not}
use lib.Dec.{ltb}
use Rattle.game_moves.proofs.names_none.Goals as goal

pub returns : goal.returns
returns c = λ r h. names-is r _ _ _ (c.trains_in-k.ensures r h) (c.sections_in-s.ensures r h) (any_range (λ t. not (ltb (section_in c.args.q t) c.sections_in-s.result)) c.trains_in-k.result _ _ _ c.any.ensures.ran refl (λ x b q k. search (rules, tests)))
