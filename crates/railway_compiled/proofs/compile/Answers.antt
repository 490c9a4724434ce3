-- `railway_compiled::compile` meets its contract: the record is judged by its test, and the table filled from the first byte to the last, first how the trains
-- stand, train by train, then what comes behind. The loops' invariants: the bytes of all trains before t are filled in; the bytes before i are the railway's.
-- Assumes nothing.
use native.Mathlib.Omega.{arith}
use mathlib.Core.Path.{refl}
use Rattle.std.proofs.lemmas.Result.{err_from_is_err_and}
use Rattle.laws.proofs.Filling.{fill-next}
use Rattle.railway.proofs.Arrays.{own-signals}
use Rattle.railway_compiled.specs.Table.{table_bytes, compiled_byte}
use Rattle.railway_compiled.proofs.Table.{filled_none, filled-stands, post-refused, post-accepted}
use Rattle.railway_compiled.proofs.compile.Goals as goal

pub returns-in_err-test_record : goal.returns-in_err-test_record
returns-in_err-test_record c =
    let p = err_from_is_err_and c.from_residual.result c.from_residual.ensures.1 in
    rw (p.1, p.2) (post-refused c.args.r _ c.in_err-test_record.ensures _ refl)

pub loop-t-init : goal.loop-t-init
loop-t-init c = filled_none c.args.r 0 _ refl

pub loop-t-preserved : goal.loop-t-preserved
loop-t-preserved c =
    let r = c.args.r in
    c.fill_stands.ensures r (own-signals r _ c.well_formed.0)
    (c.trains_of-trains.ensures.each c.loop-t.t _ c.loop-t-test.true) c.loop-t.invariant

pub loop-i-init : goal.loop-i-init
loop-i-init c = filled-stands c.args.r _ _ c.loop-t.auto.t-end c.loop-t-test.false c.loop-t.invariant

pub tail_byte-requires : goal.tail_byte-requires
tail_byte-requires c = record { stand_bytes_le_i = c.loop-i.auto.i; i_lt_table_bytes = omega arith }

pub loop-i-preserved : goal.loop-i-preserved
loop-i-preserved c =
    let r = c.args.r in
    fill-next (compiled_byte r) table_bytes _ _ c.loop-i.invariant _ c.loop-i-test.true
    (c.tail_byte.ensures r (record { sections = refl; points = refl; trains = refl }) c.trains_of-trains.ensures)

pub returns : goal.returns
returns c =
    post-accepted c.args.r _ c.in_ok-test_record.ensures _ _ refl
    c.loop-i.invariant c.loop-i-test.false
