-- `game_moves::home_in` meets its contract.
-- Assumes nothing.
use Rattle.std.proofs.Common.{rules, tests}
use Rattle.game.specs.Placement.{arrived}
use Rattle.game_placement.proofs.Ranges.{all_range}
use Rattle.game_moves.proofs.Placing.{arrived-is, home-is}
use mathlib.Core.Path.{◌≡◌, refl, ◌∙◌}
use lib.Dec.{eqb}
use Rattle.game_placement.specs.ByValue.{section_in}
use Rattle.railway.specs.Record.{train_of}
use Rattle.game_moves.proofs.home_in.Goals as goal

pub returns : goal.returns
returns c = λ r p h. home-is r p _ (c.trains_in-k.ensures r h.compiled)
    (all_range (arrived r p) c.trains_in-k.result _ _ _ c.all.ensures.ran refl (λ x b q k. (search (rules, tests), λ l. (let e : b ≡ eqb (section_in c.args.q x) (train_of r x).destination.0 = search (rules, tests, h.compiled) in e ∙ arrived-is r p _ _ h x _ _ refl refl))))
