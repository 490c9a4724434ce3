-- `runs_api::both_tables` meets its contract: two calls for a table, and the tables of their answers. Assumes nothing.
use Rattle.runs_api.proofs.Exported.{both}
use Rattle.runs_api.proofs.both_tables.Goals as goal

pub returns : goal.returns
returns c =
    both c.args.r c.requires _ _ c.run_table.result c.run_table-2.result _ _
    c.run_table.ensures c.run_table-2.ensures c.unwrap_or.ensures c.unwrap_or-2.ensures
