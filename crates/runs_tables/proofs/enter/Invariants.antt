-- `runs_tables::enter` meets its contract: before way j the first j ways have been gone. A section that no railway has says that there is no way more. Assumes nothing.
use Prim.Native.Nat.{◌<◌}
use Rattle.railway.specs.declared.Railway.{Railway}
use Rattle.railway.specs.Bounds.{section_ends}
use Rattle.railway.specs.Ends.{end_at}
use Rattle.railway.specs.Record.{is_closed}
use Rattle.railway_routes.specs.Routes.{routes_from, Laid}
use Rattle.runs_tables.specs.Filling.{Reached}
use Rattle.runs_tables.proofs.enter.Given as goal

abbrev pub invariant-loop-j : goal.invariant-loop-j
invariant-loop-j l = ((r : Railway) → Laid r (is_closed r) l.ways → l.e < section_ends → Reached (routes_from r (is_closed r) (end_at l.e)) l.j l.n l.initial.row l.row)
