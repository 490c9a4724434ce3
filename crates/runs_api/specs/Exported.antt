-- What the exported call for tables of runs answers and leaves (document 02, Q-3), for every text. Assumes nothing.
use Rattle.std.specs.Prelude.{◌≡◌, List, ℕ}
use Rattle.railway.specs.declared.Side.TheVariants.{Up, Down}
use Rattle.railway.specs.declared.Railway.{Railway}
use Rattle.railway.specs.declared.Refusal.{Refusal}
use Rattle.railway.specs.Refusals.{number}
use Rattle.case_reader.specs.Answers.{ByCase}
use Rattle.runs.specs.Runs.{RunTable}

-- A railway: 0, and the tables of both headings.
pub record RailwayTables (r : Railway) (n : ℕ) (up' down' : List (List ℕ)) : Type 0 where
  pub zero : n ≡ 0
  pub is_up : RunTable r Up up'
  pub is_down : RunTable r Down down'

-- A refusal: its number, and both tables as they were.
pub record TablesKept (f : Refusal) (up down : List (List ℕ)) (n : ℕ) (up' down' : List (List ℕ)) : Type 0 where
  pub numbered : n ≡ number f
  pub same_up : up' ≡ up
  pub same-down : down' ≡ down

-- A case text: by what the reader answers.
abbrev pub TextTables : List ℕ → List (List ℕ) → List (List ℕ) → ℕ → List (List ℕ) → List (List ℕ) → Type 0
TextTables text up down n up' down' = ByCase text (λ f. TablesKept f up down n up' down') (λ r. RailwayTables r n up' down')
