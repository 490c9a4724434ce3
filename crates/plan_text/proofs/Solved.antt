-- A plan can be made of what a solver leaves that answered a figure. Assumes nothing.
use mathlib.Core.Path.{◌≡◌, refl, sym, ◌∙◌, subst}
use mathlib.Core.List.{List}
use mathlib.Core.Option.{none}
use Prim.Native.Nat.{ℕ}
use lib.ListN.{length-replicate}
use Rattle.railway.specs.declared.Railway.{Railway}
use Rattle.game_tables.specs.SolverAnswer.{SolverAnswer, Figure}
use Rattle.game_tables.specs.Lengths.{entries}
use Rattle.game_tables.specs.Solver.{SolverLeaves, SolverPost}
use Rattle.game_tables.proofs.Refusals.{case-none}
use Rattle.game_tables.proofs.Exists.{filled-most}
use Rattle.game_tables.proofs.Solver.{solver-accepted}
use Rattle.plan.proofs.Emitter.{none-refused}
use Rattle.plan_text.specs.Listable.{Listable}
use Rattle.plan_text.specs.Written.{blank}

pub solved-by : (r : Railway) (n : ℕ) (figs sets : List ℕ) → SolverPost r (Figure n) blank blank figs sets → Listable r figs sets
solved-by r n figs sets post =
    let fine = solver-accepted post refl in
    let k = (case-none r blank blank).0 fine in
    let leaves : SolverLeaves r (Figure n) blank blank figs sets none = subst (SolverLeaves r (Figure n) blank blank figs sets) fine post.leaves in
    record {
      long = leaves.0.kept-figs.as_long ∙ length-replicate {A = ℕ} entries 0;
      unrefused = none-refused r figs sets k.0 (rw leaves.0.kept-figs.as_long k.1.figures) (rw leaves.0.kept_sets.as_long k.1.settings);
      bounded = filled-most r k.0 figs sets leaves.0.filled;
      figure = n;
      start = sym leaves.1;
    }

-- the same of an answer that is known to be a figure
pub figure-solved : (r : Railway) (a : SolverAnswer) (figs sets : List ℕ) (m : ℕ) → SolverPost r a blank blank figs sets → a ≡ Figure m → Listable r figs sets
figure-solved r a figs sets m post e = solved-by r m figs sets (subst (λ (x : SolverAnswer). SolverPost r x blank blank figs sets) e post)
