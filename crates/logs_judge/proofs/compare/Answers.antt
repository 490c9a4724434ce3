-- `logs_judge::compare` meets its contract: the record's refusal, a log that is too long or at fault, or the comparison train by train of the logs that were taken out.
-- Assumes nothing.
use mathlib.Core.Logic.{inl, inr}
use Rattle.std.proofs.Common.{refl}
use Rattle.std.proofs.lemmas.Result.{err_from_is_err_and}
use Rattle.laws.proofs.Bools.{or_left, or_right, or-none}
use Rattle.logs.specs.Logs.{faulty}
use Rattle.logs_judge.proofs.Judging.{compare-record, compare-fault, compare-trains, compare-long, compare-taken}
use Rattle.logs_judge.proofs.compare.Goals as goal

pub returns-in_err-test_record : goal.returns-in_err-test_record
returns-in_err-test_record c =
    let p = err_from_is_err_and c.from_residual.result c.from_residual.ensures.1 in
    rw (p.1, p.2) (compare-record c.args.r _ _ _ c.in_err-test_record.ensures)

pub returns-then-a-gt-MOST : goal.returns-then-a-gt-MOST
returns-then-a-gt-MOST c = compare-long c.args.r _ _ c.in_ok-test_record.ensures _ _ c.take_out-a.ensures c.take_out-b.ensures (elim c.then-a-gt-MOST.either [ inl l ↦ inl l | inr l ↦ inr l.1 ])

pub returns-then-is_faulty : goal.returns-then-is_faulty
unfolding faulty
returns-then-is_faulty c =
    compare-taken c.args.r _ _ _ _ c.take_out-a.ensures c.take_out-b.ensures c.if-a-gt-MOST.false c.if-b-gt-MOST.false _
    (elim c.then-is_faulty.branch [
      | goal.then-is_faulty-via-then-is_faulty w ↦
          compare-fault c.args.r _ _ c.in_ok-test_record.ensures _ (faulty c.args.r _) c.is_faulty.ensures refl
          (or_left _ _ w.if-is_faulty.true)
      | goal.then-is_faulty-via-else-is_faulty+then-is_faulty-2 w ↦
          compare-fault c.args.r _ _ c.in_ok-test_record.ensures _ _ c.is_faulty.ensures w.is_faulty-else-is_faulty.ensures
          (or_right _ _ w.if-is_faulty-2.true)
    ])

pub returns : goal.returns
unfolding faulty
returns c =
    compare-taken c.args.r _ _ _ _ c.take_out-a.ensures c.take_out-b.ensures c.if-a-gt-MOST.false c.if-b-gt-MOST.false _
    (compare-trains c.args.r _ _ c.in_ok-test_record.ensures _ _ c.is_faulty.ensures c.is_faulty-else-is_faulty.ensures
    (or-none _ _ c.if-is_faulty.false c.if-is_faulty-2.false) _ c.verdict.ensures)
