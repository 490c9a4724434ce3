-- Numbers and lines by computation: one table of what is written and the bytes that it is written with, and one of
-- numbers read at a cursor. Assumes nothing.
use Prim.Native.Nat.{ℕ}
use mathlib.Core.Path.{◌≡◌, refl}
use mathlib.Core.Bool.{true}
use mathlib.Core.List.{List, [], ◌∷◌}
use Rattle.laws.specs.Lists.{all}
use Rattle.text.specs.Text.{digits, decimal, line}
use Rattle.text.specs.Reading.{is_digit, bad, got, digits_at, number_at, same_text}

record Wrote : Type 0 where
  text : List ℕ
  bytes : List ℕ

-- 0, 7, 10, 305, 999, 1000, the largest figure; a line of no field, of one, of three
abbrev wrote : List Wrote
wrote =
    record { text = decimal 0; bytes = 48 ∷ [] }
    ∷ record { text = decimal 7; bytes = 55 ∷ [] }
    ∷ record { text = decimal 10; bytes = 49 ∷ 48 ∷ [] }
    ∷ record { text = decimal 305; bytes = 51 ∷ 48 ∷ 53 ∷ [] }
    ∷ record { text = decimal 999; bytes = 57 ∷ 57 ∷ 57 ∷ [] }
    ∷ record { text = decimal 1000; bytes = 49 ∷ 48 ∷ 48 ∷ 48 ∷ [] }
    ∷ record { text = decimal 4294967294; bytes = 52 ∷ 50 ∷ 57 ∷ 52 ∷ 57 ∷ 54 ∷ 55 ∷ 50 ∷ 57 ∷ 52 ∷ [] }
    ∷ record { text = line []; bytes = 10 ∷ [] }
    ∷ record { text = line ((72 ∷ []) ∷ []); bytes = 72 ∷ 10 ∷ [] }
    ∷ record { text = line ((72 ∷ []) ∷ decimal 12 ∷ (117 ∷ []) ∷ []); bytes = 72 ∷ 9 ∷ 49 ∷ 50 ∷ 9 ∷ 117 ∷ 10 ∷ [] }
    ∷ []

as_said : all (λ w. same_text w.text w.bytes) wrote ≡ true
unfolding all same_text digits line
as_said = refl

-- Three digits at most: `0`, `7`, `305` before a tab; a fourth digit, and what stands behind a leading zero, are left
-- unread; a tab is no number.
numbers : (number_at (48 ∷ 9 ∷ []) 2 0 ≡ got 0 1)
    × (number_at (9 ∷ 55 ∷ 9 ∷ []) 2 1 ≡ got 7 2)
    × (number_at (51 ∷ 48 ∷ 53 ∷ 9 ∷ []) 2 0 ≡ got 305 3)
    × (number_at (49 ∷ 48 ∷ 48 ∷ 48 ∷ 9 ∷ []) 2 0 ≡ got 100 3)
    × (number_at (48 ∷ 55 ∷ 9 ∷ []) 2 0 ≡ got 0 1)
    × (number_at (9 ∷ []) 2 0 ≡ bad)
    × (number_at [] 2 0 ≡ bad)
unfolding number_at digits_at is_digit
numbers = (refl, refl, refl, refl, refl, refl, refl)
