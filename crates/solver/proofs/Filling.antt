-- Round after round. Each leaves the tables of its number, and goes on to the next round that is due: so the tables of all rounds before that are the same.
-- Behind the round of the largest weight for each placement every figure has come, and the tables are filled. Assumes nothing.
use mathlib.Core.Path.{◌≡◌, refl, ◌∙◌}
use mathlib.Core.List.{List}
use Prim.Native.Nat.{ℕ, suc, ◌-◌, ◌*◌, ◌≤◌, ◌<◌}
use native.Mathlib.Omega.{arith}
use lib.ListN.{length, replicate, length-replicate}
use Rattle.railway.specs.declared.Railway.{Railway}
use Rattle.railway.specs.Bounds.{most_weight}
use Rattle.railway.specs.Record.{is_closed}
use Rattle.game.specs.Placement.{placements}
use Rattle.game_tables.specs.Solver.{Kept, SolverTables}
use Rattle.game_tables.specs.Rounds.{RoundTables, most_figure}
use Rattle.game_tables.proofs.Rounds.{accepted-go}
use Rattle.railway_routes.specs.Routes.{Laid}
use Rattle.railway_compiled.specs.Table.{Compiled}
use Rattle.solver_predecessors.specs.Behind.{Behind}
use Rattle.solver_rounds.specs.Rounds.{After, RoundPost}
use Rattle.solver_rounds.specs.Visits.{MarkedFor}
use Rattle.solver_rounds.proofs.Beginning.{mark_count, first-marked}
use Rattle.solver_rounds.proofs.Clearing.{kept_self, kept_on}

-- round n is the next
pub record Played (r : Railway) (n : ℕ) (figs₀ sets₀ figs sets marks : List ℕ) : Type 0 where
  pub tables : RoundTables r (n - 1) figs sets
  pub kept-figs : Kept r figs₀ figs
  pub kept_sets : Kept r sets₀ sets
  pub marked : MarkedFor r n figs marks

pub record Filling (table ways behind : List ℕ) (m : ℕ) (figs₀ sets₀ figs sets marks : List ℕ) (n : ℕ) : Type 0 where
  pub some-round : 1 ≤ n
  pub long-figs : length figs ≡ length figs₀
  pub long-sets : length sets ≡ length sets₀
  pub long-marks : length marks ≡ mark_count
  pub played : (r : Railway) → Compiled r table → Laid r (is_closed r) ways → Behind r behind → m ≡ placements r → Played r n figs₀ sets₀ figs sets marks

-- what a round promises of every railway of these tables
abbrev pub Rounds : List ℕ → List ℕ → List ℕ → ℕ → List ℕ → List ℕ → List ℕ → List ℕ → List ℕ → List ℕ → ℕ → Type 0
Rounds table ways behind n figs sets marks figs' sets' marks' e =
    (r : Railway) (k : ℕ) → Compiled r table → Laid r (is_closed r) ways → Behind r behind → placements r ≤ length figs
    → placements r ≤ length sets → n ≤ most_figure → n ≡ suc k → RoundTables r k figs sets
    → MarkedFor r n figs marks → RoundPost r n figs sets figs' sets' e × MarkedFor r e figs' marks'

-- what stands before the rounds
abbrev pub Clears : List ℕ → List ℕ → List ℕ → List ℕ → List ℕ → Type 0
Clears table figs sets figs' sets' = (r : Railway) → Compiled r table → placements r ≤ length figs → placements r ≤ length sets → After r 0 figs sets figs' sets'

module _ (table ways behind : List ℕ) (m : ℕ) (figs sets figs₀ sets₀ : List ℕ) (clears : Clears table figs sets figs₀ sets₀) (long : (m ≤ length figs) × (m ≤ length sets)) where
  cleared : (r : Railway) → Compiled r table → m ≡ placements r → After r 0 figs sets figs₀ sets₀
  cleared r h e = clears r h (rw (← e) long.0) (rw (← e) long.1)

  pub filling-start : Filling table ways behind m figs₀ sets₀ figs₀ sets₀ (replicate mark_count 0) 1
  filling-start =
      record {
        some-round = omega arith;
        long-figs = refl;
        long-sets = refl;
        long-marks = length-replicate {A = ℕ} mark_count 0;
        played = λ r h w d e.
            record {
              tables = (cleared r h e).tables;
              kept-figs = kept_self r figs₀;
              kept_sets = kept_self r sets₀;
              marked = first-marked r figs₀ sets₀ h.accepted (cleared r h e).tables;
            };
      }

  module _ (figs₁ sets₁ marks₁ : List ℕ) (n : ℕ) (x : Filling table ways behind m figs₀ sets₀ figs₁ sets₁ marks₁ n) where
    -- behind the last round that there can be all figures are there
    pub filling-over : most_weight * m < n → (r : Railway) → Compiled r table → Laid r (is_closed r) ways → Behind r behind → m ≡ placements r → SolverTables r figs sets figs₁ sets₁
    filling-over l r h w d e =
        let p = x.played r h w d e in
        let go = accepted-go r h.accepted in
        let below : most_weight * placements r < n = rw (← e) l in
        record {
          filled = (go.filled (n - 1) figs₁ sets₁ p.tables).0 (λ q j lq i. omega (arith, go.most q j lq i));
          kept-figs = kept_on r figs figs₀ figs₁ (cleared r h e).kept-figs p.kept-figs;
          kept_sets = kept_on r sets sets₀ sets₁ (cleared r h e).kept_sets p.kept_sets;
        }

    pub filling-next : (figs' sets' marks' : List ℕ) (e : ℕ) → n < e → n ≤ most_figure → m ≤ length figs₁
        → m ≤ length sets₁ → Rounds table ways behind n figs₁ sets₁ marks₁ figs' sets' marks' e
        → length figs' ≡ length figs₁ → length sets' ≡ length sets₁ → length marks' ≡ length marks₁
        → Filling table ways behind m figs₀ sets₀ figs' sets' marks' e
    filling-next figs' sets' marks' e on small lf ls round ef es em =
        record {
          some-round = omega arith;
          long-figs = ef ∙ x.long-figs;
          long-sets = es ∙ x.long-sets;
          long-marks = em ∙ x.long-marks;
          played = λ r h w d eq.
              let p = x.played r h w d eq in
              let y = round r (n - 1) h w d (rw (← eq) lf) (rw (← eq) ls) small (omega (arith, x.some-round)) p.tables p.marked in
              let post : RoundPost r n figs₁ sets₁ figs' sets' e = y.0 in
              record {
                tables = (accepted-go r h.accepted).quiet n (e - 1) figs' sets' post.after.tables (omega arith) (λ k due lk. omega (arith, post.quiet k due lk));
                kept-figs = kept_on r figs₀ figs₁ figs' p.kept-figs post.after.kept-figs;
                kept_sets = kept_on r sets₀ sets₁ sets' p.kept_sets post.after.kept_sets;
                marked = y.1;
              };
        }
