-- `runs_text::read_runs` meets its contract. The loop's invariant: the runs of the trains below t are read. Assumes nothing.
use native.Mathlib.Omega.{arith}
use mathlib.Core.Path.{refl}
use Rattle.runs_text.proofs.Reading.{none_read, one-read, all_read}
use Rattle.runs_text.proofs.read_runs.Goals as goal

pub loop-t-init : goal.loop-t-init
loop-t-init c = none_read _ _ _ _ refl

pub loop-t-preserved : goal.loop-t-preserved
loop-t-preserved c = one-read _ _ _ _ _ _ _ (omega arith) c.train_of.ensures c.run_of.ensures c.loop-t.invariant

pub returns : goal.returns
returns c = λ t l a b. all_read _ _ _ _ _ t c.loop-t-test.false l a b c.loop-t.invariant
