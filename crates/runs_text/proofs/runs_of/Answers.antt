-- `runs_text::runs_of` meets its contract: the two answers hold the tables of the headings, for the record is accepted. Assumes nothing.
use Rattle.runs_text.proofs.Reading.{trains-run}
use Rattle.runs_text.proofs.runs_of.Goals as goal

pub returns : goal.returns
returns c =
    trains-run c.args.r c.requires _ _ c.run_table.result c.run_table-2.result _ _ _
    c.run_table.ensures c.run_table-2.ensures c.unwrap_or-up.ensures c.unwrap_or-down.ensures c.read_runs.ensures
