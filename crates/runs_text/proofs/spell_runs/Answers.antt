-- `runs_text::spell_runs` meets its contract: the lines of the trains, and behind them the last. Assumes nothing.
use lib.ListN.{get_or}
use Rattle.text.specs.Text.{bytes}
use Rattle.runs_text.proofs.Spelling.{text-none, text-sum}
use Rattle.runs_text.proofs.spell_runs.Goals as goal

pub returns-then-any_none : goal.returns-then-any_none
unfolding bytes
returns-then-any_none c =
    text-none (λ t. get_or c.args.runs t 0) c.args.k c.spell_trains-next.ensures _ c.any_none.ensures
    c.if-any_none.true c.bytes.ensures

pub returns : goal.returns
unfolding bytes
returns c =
    text-sum (λ t. get_or c.args.runs t 0) c.args.k c.spell_trains-next.ensures _ c.any_none.ensures _
    c.if-any_none.false c.sum_of.ensures c.bytes-word.ensures c.number.ensures
