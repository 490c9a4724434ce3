-- The line of a state, from the pieces put one behind the other, and its length: no number has more than ten digits, so a train has 38 bytes at most. Assumes nothing.
use mathlib.Core.Path.{◌≡◌, refl, sym, ◌∙◌}
use mathlib.Core.Logic.{inl, inr}
use mathlib.Core.Bool.{Bool, true, false}
use mathlib.Core.List.{List, [], ◌∷◌}
use Prim.Native.Nat.{ℕ, zero, suc, ◌+◌, ◌*◌, ◌≤◌}
use native.Mathlib.Omega.{arith}
use native.Mathlib.Nat.{mul-suc}
use lib.ListN.{length, length-append}
use lib.Dec.{eqb}
use borrow.Author.Tests.{eq-eqb, ne_eqb}
use Rattle.laws.specs.Below.{gather_below}
use Rattle.laws.specs.Bits.{bit}
use Rattle.laws.proofs.Bools.{bool?}
use Rattle.text.specs.Text.{line_end, line, bytes}
use Rattle.text.specs.Appending.{Appended}
use Rattle.text.proofs.Appending.{append-then}
use Rattle.text.proofs.Decimal.{digits-length}
use Rattle.railway.specs.Bounds.{most_points, most_trains}
use Rattle.game_tables.specs.Entries.{opens_in}
use Rattle.game_placement.specs.declared.Placement.{Placement}
use Rattle.game_placement.specs.ByValue.{section_in}
use Rattle.plan_lines.specs.Spelling.{point_piece}
use Rattle.desk_lines.specs.Panel.{spaced, train_piece, points_part, state_line, home_line, most_state_bytes}

-- (Examples is named so that it is checked before: a wrong definition then shows at a computed value.)

-- A TRAIN, by its bit
module _ (q : Placement) (v t x : ℕ) (b : Bool) {o o₁ o₂ o₃ o₄ o₅ : List ℕ} {a a₁ a₂ a₃ a₄ a₅ : ℕ} (on : x ≡ section_in q t) (is : b ≡ opens_in v t)
    (word : Appended o a (bytes "train ") o₁ a₁) (number : Appended o₁ a₁ (spaced (t + 1)) o₂ a₂) (at : Appended o₂ a₂ (bytes "at ") o₃ a₃) (section : Appended o₃ a₃ (spaced (x + 1)) o₄ a₄) where
  pub train-open : b ≡ true → Appended o₄ a₄ (bytes "open | ") o₅ a₅ → Appended o a (train_piece q v t) o₅ a₅
  train-open e end = let z : opens_in v t ≡ true = sym is ∙ e in rw (z, ← on) (append-then (append-then (append-then (append-then word number) at) section) end)

  pub train-closed : b ≡ false → Appended o₄ a₄ (bytes "| ") o₅ a₅ → Appended o a (train_piece q v t) o₅ a₅
  train-closed e end = let z : opens_in v t ≡ false = sym is ∙ e in rw (z, ← on) (append-then (append-then (append-then (append-then word number) at) section) end)

-- THE POINTS, by whether there are any
module _ (m v : ℕ) {o o₁ : List ℕ} {a a₁ : ℕ} where
  pub points_none : m ≡ 0 → Appended o a (bytes "none") o₁ a₁ → Appended o a (points_part m v) o₁ a₁
  points_none e p = rw (eq-eqb m 0 e) p

  pub points-some : (m ≡ 0 → ⊥) → Appended o a (gather_below (point_piece (bit v)) m) o₁ a₁ → Appended o a (points_part m v) o₁ a₁
  points-some e p = rw (ne_eqb m 0 e) p

-- THE LINE
pub state-made : (k m : ℕ) (q : Placement) (n v : ℕ) {o o₁ o₂ o₃ o₄ o₅ : List ℕ} {a a₁ a₂ a₃ a₄ a₅ : ℕ} → Appended o a (gather_below (train_piece q v) k) o₁ a₁
    → Appended o₁ a₁ (spaced n) o₂ a₂ → Appended o₂ a₂ (bytes "left | points ") o₃ a₃ → Appended o₃ a₃ (points_part m v) o₄ a₄ → Appended o₄ a₄ (line_end ∷ []) o₅ a₅
    → Appended o a (state_line k m q n v) o₅ a₅
state-made k m q n v trains figure words points end = append-then (append-then (append-then (append-then trains figure) words) points) end

-- ITS LENGTH
gather-short : (f : ℕ → List ℕ) (c : ℕ) → ((i : ℕ) → length (f i) ≤ c) → (k : ℕ) → length (gather_below f k) ≤ c * k
unfolding gather_below
gather-short f c h zero = omega arith
gather-short f c h (suc k) = rw (length-append (gather_below f k) (f k), mul-suc) (omega (arith, h k, gather-short f c h k))

-- the words
words : (length (bytes "train ") ≡ 6) × (length (bytes "at ") ≡ 3) × (length (bytes " ") ≡ 1) × (length (bytes "open | ") ≡ 7) × (length (bytes "| ") ≡ 2)
    × (length (bytes "left | points ") ≡ 14)
unfolding bytes
words = (refl, refl, refl, refl, refl, refl)

train-short : (q : Placement) (v t : ℕ) → length (train_piece q v t) ≤ 38
train-short q v t = elim (bool? (opens_in v t)) [
  | inl e ↦ rw e (simp length-append (omega (arith, words, digits-length 10 (t + 1), digits-length 10 (section_in q t + 1))))
  | inr e ↦ rw e (simp length-append (omega (arith, words, digits-length 10 (t + 1), digits-length 10 (section_in q t + 1))))
]

points-short : (m v : ℕ) → m ≤ most_points → length (points_part m v) ≤ most_points
unfolding bytes
points-short m v l = elim (bool? (eqb m 0)) [
  | inl e ↦ rw e (omega arith)
  | inr e ↦ rw e (omega (arith, gather-short (point_piece (bit v)) 1 (λ i. omega arith) m))
]

pub state-short : (k m : ℕ) (q : Placement) (n v : ℕ) → k ≤ most_trains → m ≤ most_points → length (state_line k m q n v) ≤ most_state_bytes
state-short k m q n v few-trains few-points =
    simp length-append (omega (arith, words, gather-short (train_piece q v) 38 (train-short q v) k, digits-length 10 n, points-short m v few-points))

pub home-short : length home_line ≤ most_state_bytes
unfolding line bytes
home-short = omega arith
