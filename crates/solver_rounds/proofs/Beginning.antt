-- The marks before the first round: no figure is above 0, and every stretch is due. Assumes nothing.
use mathlib.Core.Path.{◌≡◌, refl, sym, ◌∙◌, ap}
use mathlib.Core.Logic.{inl, inr}
use mathlib.Core.List.{List}
use mathlib.Core.Option.{none, some}
use Prim.Native.Nat.{ℕ, ◌+◌, ◌*◌, ◌≤◌, ◌<◌}
use native.Mathlib.Omega.{arith}
use lib.ListN.{get_or, replicate, length-replicate, get_or-replicate, get_or-eq_default}
use Rattle.laws.proofs.Bools.{lt?}
use Rattle.railway.specs.declared.Railway.{Railway}
use Rattle.railway.specs.Bounds.{most_trains}
use Rattle.railway.specs.Rows.{record_refusal}
use Rattle.game.specs.Placement.{placements}
use Rattle.game_tables.specs.Tables.{figure_in}
use Rattle.game_tables.specs.Rounds.{RoundTables}
use Rattle.game_tables.proofs.Exists.{few-placements, solution}
use Rattle.game_tables.proofs.RoundTables.{of-up-to}
use Rattle.solver_marks.specs.Marks.{stretch_of, stretches, due_at}
use Rattle.solver_rounds.specs.Visits.{MarkedFor}

-- the marks of the largest table
abbrev pub mark_count : ℕ
mark_count = (most_trains + 1) * stretches

zeros : (n i : ℕ) → get_or {A = ℕ} (replicate n 0) i 0 ≡ 0
zeros n i = elim (lt? i n) [
  | inl l ↦ get_or-replicate n i 0 0 l
  | inr l ↦ get_or-eq_default (replicate n 0) 0 (omega (arith, length-replicate {A = ℕ} n 0))
]

pub first-marked : (r : Railway) (figs sets : List ℕ) → record_refusal r ≡ none → RoundTables r 0 figs sets
    → MarkedFor r 1 figs (replicate mark_count 0)
first-marked r figs sets accepted t =
    record {
      room = record { enough = length-replicate {A = ℕ} mark_count 0 };
      few = few-placements r accepted;
      most = λ q j l e. omega (arith, none_yet q j l e);
      due = λ q j t l lt first e h. blank (replicate mark_count 0) mark_count refl t q _;
    }
  where
    none_yet : (q j : ℕ) → q < placements r → figure_in figs q ≡ some j → j ≤ 0
    none_yet q j l e =
        let s = solution r accepted in
        (of-up-to 0 (s.figure q) j (sym (t.figures q l (s.figure q) (s.figures q l)) ∙ e)).1

    blank : (marks : List ℕ) (count : ℕ) → marks ≡ replicate count 0 → (t q k : ℕ) → due_at marks t q ≤ k
    blank marks count e t q k =
        let z : due_at marks t q ≡ 0 =
        ap (λ (xs : List ℕ). due_at xs t q) e ∙ zeros count (t * stretches + stretch_of q) in
        omega arith
