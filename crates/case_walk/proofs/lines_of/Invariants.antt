-- The walk's two loops: the reader has the text, and what is still to be read from where it stands gives what all lines of the kind give; each line
-- that there is leaves less of the text.
use Rattle.std.proofs.Common.{◌≡◌, ◌+◌, ◌-◌, length}
use Rattle.case_draft.specs.Drafting.{line_into, fold_counted, many_into}
use Rattle.case_walk.proofs.lines_of.Given as goal

abbrev pub invariant-loop-i : goal.invariant-loop-i
invariant-loop-i l = record {
  text_is : l.reader.text.now ≡ l.text;
  left : fold_counted (line_into l.text l.kind) l.count 1 l.initial.reader.at.at l.initial.draft
      ≡ fold_counted (line_into l.text l.kind) (l.count - l.i) (l.i + 1) l.reader.at.at l.draft;
}

abbrev pub invariant-loop-kind : goal.invariant-loop-kind
invariant-loop-kind l = record {
  text_is : l.reader.text.now ≡ l.text;
  left : many_into l.text l.kind l.initial.reader.at.at l.initial.draft ≡ many_into l.text l.kind l.reader.at.at l.draft;
}

abbrev pub decreases-loop-kind : goal.decreases-loop-kind
decreases-loop-kind l = length l.text - l.reader.at.at
