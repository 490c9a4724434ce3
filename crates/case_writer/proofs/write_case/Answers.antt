-- `case_writer::write_case` meets its contract: the record's refusal, or the text made, and then space or the copy. What is copied is what was made,
-- since an accepted record's text fits into the buffer that it is made in.
-- Assumes nothing.
use mathlib.Core.Path.{refl}
use Rattle.std.proofs.lemmas.Result.{err_from_is_err_and}
use Rattle.text.proofs.Appending.{front_fits, front_cut}
use Rattle.case_writer.proofs.Written.{record-refused, space-refused, case-written}
use Rattle.case_writer.proofs.write_case.Goals as goal

pub returns-then-buffer-n : goal.returns-then-buffer-n
returns-then-buffer-n c =
    space-refused c.args.r c.test_record.ensures c.in_ok-test_record.was refl
    c.put_text-n.ensures c.args.buffer.now c.if-buffer-n.true

pub slice_bounds-text-end : goal.slice_bounds-text-end
slice_bounds-text-end c = front_fits c.put_text-n.ensures c.put_text-n.auto.out

pub slice_bounds-bytes-end : goal.slice_bounds-bytes-end
slice_bounds-bytes-end c = front_cut c.put_text-n.ensures c.put_text-n.auto.out

pub returns-in_err-test_record : goal.returns-in_err-test_record
returns-in_err-test_record c =
    let p = err_from_is_err_and c.from_residual.result c.from_residual.ensures.1 in
    rw (p.1, p.2) (record-refused c.args.r c.args.buffer.now _ c.test_record.ensures (c.in_err-test_record.was))

pub returns : goal.returns
returns c =
    case-written c.args.r c.test_record.ensures c.in_ok-test_record.was refl
    c.put_text-n.ensures c.args.buffer.now _ _ c.if-buffer-n.false c.bytes.ensures
