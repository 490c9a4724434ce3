-- The exported call at work: of a text that says Yard A it answers 0 and leaves tables with 1 from 2 to 3, up, and 1
-- from 3 to 1, down; of one that is refused for its form 2, and both tables as they were. Texts, numbers and tables are
-- any of which it is said. Assumes nothing.
use mathlib.Core.Path.{◌≡◌}
use mathlib.Core.List.{List}
use Prim.Native.Nat.{ℕ}
use Rattle.railway.specs.declared.Refusal.TheVariants.{Form}
use Rattle.railway.specs.Yards.{yard_a}
use Rattle.case_file.specs.Given.{RefusedWith, AcceptedWith}
use Rattle.runs.specs.Runs.{entry_at}
use Rattle.runs.proofs.Uses.{one_up, one_down}
use Rattle.runs_api.specs.Exported.{RailwayTables, TablesKept, TextTables}

module _ (text : List ℕ) (up down : List (List ℕ)) (n : ℕ) (up' down' : List (List ℕ)) (told : TextTables text up down n up' down') where
  of-yard-a : AcceptedWith text yard_a → (n ≡ 0) × (entry_at up' 1 2 ≡ 1) × (entry_at down' 2 0 ≡ 1)
  of-yard-a w = let t : RailwayTables yard_a n up' down' = told.accepted yard_a w in (t.zero, one_up up' t.is_up, one_down down' t.is_down)

  refused : RefusedWith text Form → (n ≡ 2) × (up' ≡ up) × (down' ≡ down)
  refused w = let t : TablesKept Form up down n up' down' = told.refused Form w in (t.numbered, t.same_up, t.same-down)
