-- What the solver answers: a refusal and the tables as they were, or the start's figure by tables that are filled. Assumes nothing.
use mathlib.Core.Path.{◌≡◌, refl, sym, ◌∙◌, ap}
use mathlib.Core.List.{List}
use mathlib.Core.Option.{none, some}
use Prim.Native.Nat.{ℕ, ◌≤◌}
use native.Mathlib.Omega.{arith}
use lib.ListN.{length, get_or}
use Rattle.std.specs.Prelude.{Option, None, Some, Ok}
use Rattle.railway.specs.declared.Railway.{Railway}
use Rattle.railway.specs.declared.Refusal.{Refusal}
use Rattle.railway.specs.Refusals.{number_of}
use Rattle.railway.specs.CaseAnswer.{Accepted, Refused}
use Rattle.game.specs.Placement.{placements, start_code}
use Rattle.game_tables.specs.SolverAnswer.{Refused as Refuses}
use Rattle.game_tables.specs.Tables.{no_figure, figure_in, case_refusal}
use Rattle.game_tables.specs.Solver.{number_given, figure_given, SolverTables, SolverPost}
use Rattle.game_tables.proofs.Exists.{few-placements}
use Rattle.game_tables.proofs.Refusals.{case-none}
use Rattle.solver_marks.specs.Marks.{most_codes}
use Rattle.railway_compiled.specs.Compilation.{Compilation}
use Rattle.railway_compiled.specs.Table.{Compiled}
use Rattle.game_case.specs.Cases.{CasePost}
use Rattle.game_case.proofs.Cases.{opened-refused, opened-none, opened-table}
use Rattle.solver_rounds.proofs.Entries.{entry-some, entry-none}

-- THE START'S FIGURE
module _ (r : Railway) (figs : List ℕ) (at f : ℕ) (start : at ≡ start_code r) (entry : f ≡ get_or figs at no_figure) where
  pub start_none : f ≡ no_figure → none ≡ figure_in figs (start_code r)
  start_none e = rw (← start, ← entry) (sym (entry-none f e))

  pub start-some : (f ≡ no_figure → ⊥) → some f ≡ figure_in figs (start_code r)
  start-some h = rw (← start, ← entry) (sym (entry-some f h))

-- THE ANSWER
-- no figure and a figure are no refusal
no-number : (a : Option ℕ) → number_given (Ok a) ≡ none
no-number None = refl
no-number (Some n) = refl

module _ (r : Railway) (figs sets : List ℕ) (c : Compilation) (p : CasePost r figs sets c) where
  pub answer-refused : (f : Refusal) → c.tested ≡ Refused f → SolverPost r (Refuses f) figs sets figs sets
  answer-refused f e =
      let due : case_refusal r figs sets ≡ some f = opened-refused p e in
      record { numbered = ap number_of (sym due); leaves = rw due (refl, refl) }

  module _ (e : c.tested ≡ Accepted) (m : ℕ) (counts : (q : Railway) → Compiled q c.table → m ≡ placements q) where
    fine : case_refusal r figs sets ≡ none
    fine = opened-none p e

    its-table : Compiled r c.table
    its-table = opened-table p e

    -- few enough placements for every round to have a number, and an entry for each
    pub room : (m ≤ most_codes) × ((m ≤ length figs) × (m ≤ length sets))
    room =
        let n : m ≡ placements r = counts r its-table in
        let few = few-placements r its-table.accepted in
        let enough = ((case-none r figs sets).0 fine).1 in
        (omega arith, (omega (arith, enough.figures), omega (arith, enough.settings)))

    pub answer-solved : (a : Option ℕ) (figs' sets' : List ℕ) → (Compiled r c.table → m ≡ placements r → SolverTables r figs sets figs' sets')
        → ((q : Railway) → Compiled q c.table → figure_given (Ok a) ≡ figure_in figs' (start_code q)) → SolverPost r (Ok a) figs sets figs' sets'
    answer-solved a figs' sets' fills starts =
        record { numbered = no-number a ∙ ap number_of (sym fine); leaves = rw fine (fills its-table (counts r its-table), starts r its-table) }
