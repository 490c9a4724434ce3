-- `railway_compiled::compile` meets its contract: the record is judged by its test, and the table filled from the first byte to the last, first how the trains
-- stand, train by train, then what comes behind. The loops' invariants: the bytes of all trains before t are filled in; the bytes before i are the railway's.
-- Assumes nothing.
use Rattle.laws.proofs.Filling.{FilledTo}
use Rattle.railway_compiled.specs.Table.{table_bytes, compiled_byte, FilledBefore}
use Rattle.railway_compiled.proofs.compile.Given as goal

abbrev pub invariant-loop-t : goal.invariant-loop-t
invariant-loop-t l = FilledBefore l.fn.r l.t l.table

abbrev pub invariant-loop-i : goal.invariant-loop-i
invariant-loop-i l = FilledTo (compiled_byte l.fn.r) table_bytes l.table l.i
