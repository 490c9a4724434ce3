-- `runs_text::read_runs` meets its contract. The loop's invariant: the runs of the trains below t are read. Assumes nothing.
use Rattle.runs_text.proofs.Reading.{ReadTo}
use Rattle.runs_text.proofs.read_runs.Given as goal

abbrev pub invariant-loop-t : goal.invariant-loop-t
invariant-loop-t l = ReadTo l.r l.up l.down l.runs l.t
