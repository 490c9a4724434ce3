-- What a railway is answered follows from what the solver promises. Assumes nothing.
use mathlib.Core.Path.{◌≡◌, refl, sym, ◌∙◌, ap}
use Rattle.std.specs.Prelude.{Option as Found, None, Some, Ok}
use mathlib.Core.List.{List}
use mathlib.Core.Option.{Option, none, some, get_or}
use Prim.Native.Nat.{ℕ}
use Rattle.railway.specs.declared.Railway.{Railway}
use Rattle.railway.specs.declared.Refusal.{Refusal}
use Rattle.game_tables.specs.SolverAnswer.{SolverAnswer}
use Rattle.game_tables.specs.Tables.{case_refusal}
use Rattle.game_tables.specs.Solver.{number_given, SolverLeaves, SolverPost}
use Rattle.solver_api.specs.Exported.{Leaves, SolvedRailway}

-- the solver's tables, without its figure
leaves_of : (r : Railway) (a : SolverAnswer) (figs sets figs' sets' : List ℕ) (o : Option Refusal) → SolverLeaves r a figs sets figs' sets' o → Leaves r figs sets figs' sets' o
leaves_of r a figs sets figs' sets' (some f) l = l
leaves_of r a figs sets figs' sets' none l = l.0

-- A figure, or that no plan exists, gives no number.
pub solved-zero : (o : Found ℕ) → 0 ≡ get_or (number_given (Ok o)) 0
solved-zero None = refl
solved-zero (Some n) = refl

pub solved-railway : (r : Railway) (figs sets : List ℕ) (a : SolverAnswer) (figs' sets' : List ℕ) → SolverPost r a figs sets figs' sets' → (v : SolverAnswer) → a ≡ v
    → (n : ℕ) → n ≡ get_or (number_given v) 0 → SolvedRailway r figs sets n figs' sets'
solved-railway r figs sets a figs' sets' p v e n m = record {
  numbered = m ∙ ap (λ (o : Option ℕ). get_or o 0) (ap number_given (sym e) ∙ p.numbered);
  leaves = leaves_of r a figs sets figs' sets' (case_refusal r figs sets) p.leaves;
}
