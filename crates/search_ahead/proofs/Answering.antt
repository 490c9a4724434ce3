-- What a look ahead says of the round: a placement that gains has the round's figure, and where nothing gains of what
-- is one move before the frontier, no placement has it. Assumes nothing.
use mathlib.Core.Path.{◌≡◌, refl}
use mathlib.Core.Logic.{◌↔◌, inl, inr}
use mathlib.Core.Bool.{Bool, true, false}
use mathlib.Core.List.{List}
use mathlib.Core.Option.{none}
use Prim.Native.Nat.{ℕ, suc, ◌≤◌}
use native.Mathlib.Omega.{arith}
use Rattle.laws.proofs.Bools.{option?, clash}
use Rattle.railway.specs.declared.Railway.{Railway}
use Rattle.railway.specs.Rows.{record_refusal}
use Rattle.game.specs.Placement.{placements}
use Rattle.game_tables.specs.Tables.{figure_in}
use Rattle.game_tables.specs.Rounds.{RoundTables, HasFigure}
use Rattle.game_tables.specs.Find.{find}
use Rattle.game_tables.proofs.Rounds.{round-brings, round-misses}
use Rattle.solver_rounds.specs.Visits.{Weighed, Before}
use Rattle.solver_rounds.proofs.Gaining.{gains-before}
use Rattle.solver_rounds.proofs.Loops.{codes-less}
use Rattle.search_ahead.specs.Bringing.{Told, gains, rests}
use Rattle.search_ahead.proofs.Telling.{Resting}

module _ {r : Railway} (accepted : record_refusal r ≡ none) {k : ℕ} {figs sets : List ℕ}
    (t : RoundTables r k figs sets) where
  one-gains : {K : ℕ → Type 0} {b : Bool} → Told r (suc k) figs K b → b ≡ true → HasFigure r (suc k)
  one-gains (gains p l g) e = record {
    code = p;
    there = l;
    is = round-brings r accepted k figs sets t p l g.entry g.waits g.going g.found;
  }
  one-gains (rests h) e = clash e refl

  none-gains : Resting r (suc k) figs (Before r (suc k) figs 0 (placements r)) → HasFigure r (suc k) → ⊥
  none-gains h x =
      round-misses r accepted k figs sets t x.code x.there
      (λ e o. elim (option? (find r (figure_in figs) x.code (suc k))) [
        | inl y ↦ y
        | inr y ↦
            h x.code x.there (gains-before r accepted k figs sets t x.code y.0 x.there e o y.1) e o
      ])
      x.is

  module _ {n : ℕ} (is : n ≡ suc k) where
    pub says-yes : {K : ℕ → Type 0} {b : Bool} → Told r n figs K b → b ≡ true → (true ≡ true) ↔ HasFigure r n
    says-yes {K} {b} h e = let h' : Told r (suc k) figs K b = rw is at h in (λ z. rw is (one-gains h' e), λ x. refl)

    pub says-no : {m i : ℕ} → m ≡ placements r → r.trains ≤ i → Resting r n figs (Weighed r n figs 0 m i)
        → (false ≡ true) ↔ HasFigure r n
    says-no {m} {i} counted all h = (λ z. clash z refl, λ x. absurd (none-gains (rw is at before) (rw is at x)))
      where
        before : Resting r n figs (Before r n figs 0 (placements r))
        before p l k =
            h p l (record {
              train = k.train;
              below = omega (arith, k.below);
              ahead = codes-less (omega arith) k.ahead;
            })
