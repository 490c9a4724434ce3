-- What is promised of a case handed in with two tables. Nothing of document 01 rests on this file: it is `case_refusal` (game_tables/Tables), and
-- the compiled railway.
-- Assumes nothing.
use Rattle.std.specs.Prelude.{◌≡◌, List, ℕ, replicate}
use Rattle.std.proofs.Math.Option.{none, some}
use Rattle.railway.specs.declared.Railway.{Railway}
use Rattle.railway.specs.declared.Refusal.{Refusal}
use Rattle.railway.specs.Refusals.{number_given, number_of}
use Rattle.game_tables.specs.Tables.{case_refusal}
use Rattle.railway_compiled.specs.Compilation.{Compilation}
use Rattle.railway_compiled.specs.Table.{Compiled, table_bytes}

-- The first row of the case that applies is given, by its number, with a table that is all zero; where none applies, the railway's table.
pub record CasePost (r : Railway) (figs sets : List ℕ) (c : Compilation) : Type 0 where
  pub numbered : number_given c.tested ≡ number_of (case_refusal r figs sets)
  pub compiled : case_refusal r figs sets ≡ none → Compiled r c.table
  pub zero : (f : Refusal) → case_refusal r figs sets ≡ some f → c.table ≡ replicate table_bytes 0
