-- `railway_compiled::fill_stands` meets its contract. The loop's invariant: how the train stands on the sections before x is filled in too.
-- Assumes nothing.
use native.Mathlib.Omega.{arith}
use mathlib.Core.Path.{◌∙◌, ap}
use Rattle.railway.specs.declared.Train.{Train}
use Rattle.railway.specs.Ends.{side_index}
use Rattle.railway.proofs.Ends.{side-small}
use Rattle.railway_compiled.proofs.Table.{stands-next, filled-first, filled-last}
use Rattle.railway_compiled.proofs.fill_stands.Goals as goal

pub loop-x-init : goal.loop-x-init
loop-x-init c = λ r g s d f. filled-first r _ _ c.requires f

pub overflow_add-x : goal.overflow_add-x
overflow_add-x c = omega (arith, side-small c.args.train.heading, c.side_index-side.ensures)

pub loop-x-preserved : goal.loop-x-preserved
loop-x-preserved c =
    λ r g s d f.
    stands-next r _ _ _ c.requires c.loop-x-test.true s _ _ _ _ d (c.signal_in.ensures r g) c.stand_byte.ensures (c.loop-x.invariant r g s d f)

pub returns : goal.returns
returns c =
    λ r g is f.
    filled-last r _ _ _ (omega arith)
    (c.loop-x.invariant r g (c.side_index-side.ensures ∙ ap (λ (y : Train). side_index y.heading) is) (ap (λ (y : Train). y.destination.0) is) f)
