-- What a look ahead tells, of a kind of placements, and its loops: up to the place where a loop has come, none of a
-- kind gains. The kind at the next place is the one here or what is new. Assumes nothing.
use mathlib.Core.Path.{◌≡◌, refl}
use mathlib.Core.Logic.{◌⊎◌, inl, inr}
use mathlib.Core.Bool.{Bool, true, false}
use mathlib.Core.List.{List}
use mathlib.Core.Option.{none}
use Prim.Native.Nat.{ℕ, ◌<◌}
use Rattle.laws.proofs.Bools.{clash}
use Rattle.railway.specs.declared.Railway.{Railway}
use Rattle.game.specs.Game.{over}
use Rattle.game.specs.Placement.{placements}
use Rattle.game.specs.Moves.{game_of}
use Rattle.game_tables.specs.Tables.{figure_in}
use Rattle.game_tables.specs.Find.{find}
use Rattle.search_ahead.specs.Bringing.{Told, gains, rests}

-- None of a kind gains.
abbrev pub Resting : Railway → ℕ → List ℕ → (ℕ → Type 0) → Type 0
Resting r n figs K =
    (p : ℕ) → p < placements r → K p → figure_in figs p ≡ none → over (game_of r) p ≡ false
    → find r (figure_in figs) p n ≡ none

module _ {r : Railway} {n : ℕ} {figs : List ℕ} {K : ℕ → Type 0} where
  -- one gains, of whatever kind
  pub told-yes : {L : ℕ → Type 0} {b : Bool} → Told r n figs K b → b ≡ true → Told r n figs L true
  told-yes (gains p l g) e = gains p l g
  told-yes (rests h) e = clash e refl

  pub told-no : {b : Bool} → Told r n figs K b → b ≡ false → Resting r n figs K
  told-no (gains p l g) e = clash refl e
  told-no (rests h) e = h

  -- none is of the kind
  pub told_none : ((p : ℕ) → p < placements r → K p → ⊥) → Told r n figs K false
  told_none h = rests (λ p l k. absurd (h p l k))

-- A LOOP that has come to i, of every railway of which something is given
pub record RestsTo (Given : Railway → Type 0) (n : ℕ) (figs : List ℕ) (Kind : Railway → ℕ → ℕ → Type 0)
    (i : ℕ) : Type 0 where
  pub resting : (r : Railway) → Given r → Resting r n figs (Kind r i)

module _ {Given : Railway → Type 0} {n : ℕ} {figs : List ℕ} {Kind : Railway → ℕ → ℕ → Type 0} {i : ℕ} where
  pub rests-start : ((r : Railway) (p : ℕ) → Kind r i p → ⊥) → RestsTo Given n figs Kind i
  rests-start h = record { resting = λ r g p l k. absurd (h r p k) }

  module _ (s : RestsTo Given n figs Kind i) where
    pub rests-next : {New : Railway → ℕ → Type 0} {j : ℕ} → ((r : Railway) → Given r → Resting r n figs (New r))
        → ((r : Railway) → Given r → (p : ℕ) → p < placements r → Kind r j p → Kind r i p ⊎ New r p)
        → RestsTo Given n figs Kind j
    rests-next body covers =
        record {
          resting = λ r g p l k. elim (covers r g p l k) [
            | inl x ↦ s.resting r g p l x
            | inr x ↦ body r g p l x
          ];
        }

    pub rests-end : {End : Railway → ℕ → Type 0}
        → ((r : Railway) → Given r → (p : ℕ) → p < placements r → End r p → Kind r i p) → (r : Railway) → Given r
        → Told r n figs (End r) false
    rests-end h r g = rests (λ p l k. s.resting r g p l (h r g p l k))
