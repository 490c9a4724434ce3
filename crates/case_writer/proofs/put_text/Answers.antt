-- `case_writer::put_text` meets its contract: the first line and the parts, one behind the other, make the text.
-- Assumes nothing.
use Rattle.text.proofs.Appending.{append-then, pieces_none, pieces-next, pieces-all}
use Rattle.railway.specs.Bounds.{most_sections, section_ends, all_ends}
use Rattle.case_writer.specs.Pieces.{point_of, join_of, signal_of, closed_of, train_at}
use Rattle.case_writer.proofs.Lines.{point-piece, join-piece, signal-piece, closed-piece, train-piece}
use Rattle.case_writer.proofs.Pieces.{text-pieces}
use Rattle.case_writer.proofs.put_text.Goals as goal

pub loop-p-init : goal.loop-p-init
loop-p-init c = pieces_none (point_of c.args.r)

pub loop-p-preserved : goal.loop-p-preserved
loop-p-preserved c = pieces-next (point_of c.args.r) c.loop-p.p c.loop-p.invariant (point-piece c.args.r _ _ c.legs_of.ensures c.put_point-at.ensures)

pub loop-e-init : goal.loop-e-init
loop-e-init c = pieces_none (join_of c.args.r)

pub loop-e-preserved : goal.loop-e-preserved
loop-e-preserved c = pieces-next (join_of c.args.r) c.loop-e.e c.loop-e.invariant (join-piece c.args.r _ _ _ c.end_at.ensures c.joined.ensures c.put_join-at.ensures)

pub loop-g-init : goal.loop-g-init
loop-g-init c = pieces_none (signal_of c.args.r)

pub loop-g-preserved : goal.loop-g-preserved
loop-g-preserved c = pieces-next (signal_of c.args.r) c.loop-g.g c.loop-g.invariant (signal-piece c.args.r _ _ _ c.end_at-in-loop-g.ensures c.has_signal.ensures c.put_signal-at.ensures)

pub loop-x-init : goal.loop-x-init
loop-x-init c = pieces_none (closed_of c.args.r)

pub loop-x-preserved : goal.loop-x-preserved
loop-x-preserved c = pieces-next (closed_of c.args.r) c.loop-x.x c.loop-x.invariant (closed-piece c.args.r _ _ c.closed_at.ensures c.put_closed-at.ensures)

pub loop-t-init : goal.loop-t-init
loop-t-init c = pieces_none (train_at c.args.r)

pub loop-t-preserved : goal.loop-t-preserved
loop-t-preserved c = pieces-next (train_at c.args.r) c.loop-t.t c.loop-t.invariant (train-piece c.args.r _ _ c.train_of.ensures c.put_train-at.ensures)

pub returns : goal.returns
returns c =
    let r = c.args.r in
    rw (text-pieces r)
    (append-then c.put_header-at.ensures
    (append-then (pieces-all (point_of r) c.loop-p.p r.points c.loop-p.auto.p-end c.loop-p-test.false c.loop-p.invariant)
    (append-then (pieces-all (join_of r) c.loop-e.e all_ends c.loop-e.auto.e-end c.loop-e-test.false c.loop-e.invariant)
    (append-then (pieces-all (signal_of r) c.loop-g.g section_ends c.loop-g.auto.g-end c.loop-g-test.false c.loop-g.invariant)
    (append-then (pieces-all (closed_of r) c.loop-x.x most_sections c.loop-x.auto.x-end c.loop-x-test.false c.loop-x.invariant)
    (pieces-all (train_at r) c.loop-t.t r.trains c.loop-t.auto.t-end c.loop-t-test.false c.loop-t.invariant))))))
