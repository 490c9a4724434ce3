-- `railway_compiled::fill_stands` meets its contract. The loop's invariant: how the train stands on the sections before x is filled in too.
-- Assumes nothing.
use mathlib.Core.Path.{◌≡◌}
use Prim.Native.Nat.{◌+◌, ◌*◌}
use Rattle.laws.proofs.Filling.{FilledTo}
use Rattle.railway.specs.declared.Railway.{Railway}
use Rattle.railway.specs.Ends.{side_index}
use Rattle.railway.specs.Record.{train_of}
use Rattle.railway.specs.Lent.{SignalsOf}
use Rattle.railway_compiled.specs.Table.{table_bytes, compiled_byte, FilledBefore}
use Rattle.railway_compiled.proofs.fill_stands.Given as goal

abbrev pub invariant-loop-x : goal.invariant-loop-x
invariant-loop-x l =
    (r : Railway) → SignalsOf r l.signals → l.side ≡ side_index (train_of r l.t).heading
    → l.home ≡ (train_of r l.t).destination.0 → FilledBefore r l.t l.initial.table
    → FilledTo (compiled_byte r) table_bytes l.table (48 * l.t + l.x)
