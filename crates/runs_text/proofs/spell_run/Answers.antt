-- `runs_text::spell_run` meets its contract: the word, the number of the train, and its run. Assumes nothing.
use mathlib.Core.Path.{refl}
use Rattle.text.specs.Text.{bytes}
use Rattle.runs_text.proofs.Spelling.{run_none, run-some}
use Rattle.runs_text.proofs.spell_run.Goals as goal

pub returns-then-v-eq-NO_RUN : goal.returns-then-v-eq-NO_RUN
unfolding bytes
returns-then-v-eq-NO_RUN c = run_none _ _ _ refl c.if-v-eq-NO_RUN.true c.bytes-word.ensures c.number-train.ensures c.bytes.ensures

pub returns : goal.returns
unfolding bytes
returns c = run-some _ _ _ refl c.if-v-eq-NO_RUN.false c.bytes-word.ensures c.number-train.ensures c.number.ensures
