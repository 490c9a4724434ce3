-- Whether a line is a change: the library finds the word in front. A line over 64 bytes is none, and 65 bytes of it show that.
-- Assumes nothing.
use mathlib.Core.Path.{◌≡◌, refl, sym, ◌∙◌, ap}
use mathlib.Core.Logic.{inl, inr}
use mathlib.Core.Bool.{Bool, false, ◌&&◌}
use mathlib.Core.List.{List, [], ◌∷◌}
use Prim.Native.Nat.{ℕ, ◌≤◌, ◌<◌, min}
use native.Mathlib.Omega.{arith}
use lib.Dec.{eqb}
use Rattle.std.specs.Cmp.Lexicographic.{pointwise}
use lib.ListN.{length, take, length-take}
use lib.Seq.{take_all}
use borrow.Author.Tests.{lt-ltb, le-ltb}
use Rattle.laws.proofs.Bools.{lt?}
use Rattle.text.specs.Text.{bytes}
use Rattle.desk_lines.specs.Changes.{starts_with, is_change, CutChanges}

-- (Examples is named so that it is checked before: a wrong definition then shows at a computed value.)

-- THE WORD in front, as the library looks for it
pub same-word : (word l : List ℕ) → pointwise eqb word (take (length word) l) ≡ starts_with word l
unfolding starts_with
same-word [] l = refl
same-word (b ∷ word) [] = refl
same-word (b ∷ word) (x ∷ l) = ap (λ (z : Bool). eqb b x && z) (same-word word l)

-- A CHANGE
module _ (l : List ℕ) where
  pub change-long : 65 ≤ length l → false ≡ is_change l
  unfolding is_change
  change-long e = rw (le-ltb (length l) 65 e) refl

  pub change-short : length l < 65 → (b : Bool) → b ≡ starts_with (bytes "change\t") l → b ≡ is_change l
  unfolding is_change
  change-short e b q = rw (lt-ltb (length l) 65 e) q

pub cut-changes : CutChanges
cut-changes l = elim (lt? (length l) 65) [
  | inl e ↦ ap is_change (take_all 65 l (omega arith))
  | inr e ↦ (let m : length (take 65 l) ≡ min 65 (length l) = length-take 65 l in sym (change-long (take 65 l) (omega arith)) ∙ change-long l e)
]
