-- The text's loops, a part each: the pieces before the one that is due are written behind what stood there when the loop began. Assumes nothing.
use Rattle.laws.specs.Below.{gather_below}
use Rattle.text.specs.Appending.{Appended}
use Rattle.case_writer.specs.Pieces.{point_of, join_of, signal_of, closed_of, train_at}
use Rattle.case_writer.proofs.put_text.Given as goal

abbrev pub invariant-loop-p : goal.invariant-loop-p
invariant-loop-p l = Appended l.initial.out l.initial.at (gather_below (point_of l.r) l.p) l.out l.at

abbrev pub invariant-loop-e : goal.invariant-loop-e
invariant-loop-e l = Appended l.initial.out l.initial.at (gather_below (join_of l.r) l.e) l.out l.at

abbrev pub invariant-loop-g : goal.invariant-loop-g
invariant-loop-g l = Appended l.initial.out l.initial.at (gather_below (signal_of l.r) l.g) l.out l.at

abbrev pub invariant-loop-x : goal.invariant-loop-x
invariant-loop-x l = Appended l.initial.out l.initial.at (gather_below (closed_of l.r) l.x) l.out l.at

abbrev pub invariant-loop-t : goal.invariant-loop-t
invariant-loop-t l = Appended l.initial.out l.initial.at (gather_below (train_at l.r) l.t) l.out l.at
