-- The hypothesis that a table is an accepted railway's can be met: every accepted railway has one, its bytes listed.
-- Assumes nothing.
use mathlib.Core.Path.{◌≡◌}
use mathlib.Core.Option.{none}
use Rattle.laws.specs.Below.{list_below}
use Rattle.laws.proofs.Below.{list_get}
use Rattle.railway.specs.declared.Railway.{Railway}
use Rattle.railway.specs.Rows.{record_refusal}
use Rattle.railway_compiled.specs.Table.{table_bytes, compiled_byte, Compiled}

pub compiled-one : (r : Railway) → record_refusal r ≡ none → Compiled r (list_below (compiled_byte r) table_bytes)
compiled-one r a = record { accepted = a; bytes = λ i l. list_get (compiled_byte r) table_bytes i 0 l }
