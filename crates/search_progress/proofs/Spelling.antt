-- The line of a round, from the bytes put one behind the other, and its length. Assumes nothing.
use mathlib.Core.List.{List, [], ◌∷◌, ◌++◌}
use Prim.Native.Nat.{ℕ, ◌≤◌}
use native.Mathlib.Omega.{arith}
use lib.ListN.{length, length-append}
use Rattle.text.specs.Text.{decimal, tab, line_end, line, bytes}
use Rattle.text.specs.Appending.{Appended}
use Rattle.text.proofs.Appending.{line-more, line-last}
use Rattle.text.proofs.Decimal.{digits-length}
use Rattle.search_progress.specs.declared.Progress.{Progress}
use Rattle.search_progress.specs.Telling.{round_line}

pub line_made : {o o₁ o₂ o₃ o₄ : List ℕ} {b b₁ b₂ b₃ b₄ : ℕ} (n : ℕ) (a : Progress) → Appended o b (bytes "round" ++ (tab ∷ [])) o₁ b₁ → Appended o₁ b₁ (decimal n ++ (tab ∷ [])) o₂ b₂
    → Appended o₂ b₂ (decimal a.count ++ (tab ∷ [])) o₃ b₃ → Appended o₃ b₃ (decimal a.largest ++ (line_end ∷ [])) o₄ b₄ → Appended o b (round_line n a) o₄ b₄
line_made n a word number count largest =
    line-more (bytes "round") (decimal n) _ word
    (line-more (decimal n) (decimal a.count) _ number (line-more (decimal a.count) (decimal a.largest) [] count (line-last (decimal a.largest) largest)))

-- no number has more than ten digits
pub line-short : (n : ℕ) (a : Progress) → length (round_line n a) ≤ 40
unfolding line bytes
line-short n a = simp length-append (omega (arith, digits-length 10 n, digits-length 10 a.count, digits-length 10 a.largest))
