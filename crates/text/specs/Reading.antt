-- Reading numbers and lines, as a program does it. Nothing of document 01 rests on this file: what a text says is stated by how it is written,
-- and the laws in proofs/ tie these functions to that. Past the end of a text stands byte 0, which begins no field. Assumes nothing.
use Rattle.std.specs.Prelude.{Bool, true, false, cond, not, ◌&&◌, List, [], ◌∷◌, ℕ, zero, suc, ◌+◌, ◌-◌, ◌*◌, ltb, eqb, get_or}
use Rattle.std.proofs.Math.Option.{Option, none, some}
use Rattle.laws.specs.Lists.{on_first}
use Rattle.text.specs.Text.{byte, tab, line_end}

-- A byte that is a digit: `0` is byte 48, `9` is 57.
unfoldable pub is_digit : ℕ → Bool
is_digit b = ltb 47 b && ltb b 58

-- A byte that neither parts fields nor ends a line.
unfoldable pub is_plain : ℕ → Bool
is_plain b = not (eqb b tab) && not (eqb b line_end)

-- WITH A CURSOR. What was read, with the cursor past it; or it is not in form, which ends the reading.
pub data Got (A : Type 0) : Type 0 where
  bad : Got A
  got : A → ℕ → Got A

-- Go on behind what was read.
abbrev pub then : {A B : Type 0} → Got A → (A → ℕ → Got B) → Got B
then bad k = bad
then (got x c) k = k x c

-- What was read, without the cursor.
abbrev pub value : {A : Type 0} → Got A → Option A
value bad = none
value (got x c) = some x

module _ (s : List ℕ) where
  -- The byte b.
  unfoldable pub byte_at : ℕ → ℕ → Got ℕ
  byte_at b c = cond (eqb (get_or s c 0) b) (got b (c + 1)) bad

  -- Up to so many digits behind those whose number is n.
  unfoldable pub digits_at : ℕ → ℕ → ℕ → Got ℕ
  digits_at zero n c = got n c
  digits_at (suc most) n c = cond (is_digit (get_or s c 0)) (digits_at most (n * 10 + (get_or s c 0 - byte "0")) (c + 1)) (got n c)

  -- A number of 1 + most digits at most: as many as there are, and a zero by itself.
  unfoldable pub number_at : ℕ → ℕ → Got ℕ
  number_at most c =
      cond (is_digit (get_or s c 0))
      (cond (eqb (get_or s c 0) (byte "0")) (got 0 (c + 1)) (digits_at most (get_or s c 0 - byte "0") (c + 1)))
      bad

-- BY CUTTING. A text cut at its tabs; line ends fall away.
unfoldable pub fields : List ℕ → List (List ℕ)
fields [] = [] ∷ []
fields (b ∷ bs) = cond (eqb b tab) ([] ∷ fields bs) (cond (eqb b line_end) (fields bs) (on_first b (fields bs)))

-- The number that digits write, behind those whose number is n.
unfoldable pub value_of : ℕ → List ℕ → ℕ
value_of n [] = n
value_of n (b ∷ bs) = value_of (n * 10 + (b - byte "0")) bs

-- Two texts are the same.
unfoldable pub same_text : List ℕ → List ℕ → Bool
same_text [] [] = true
same_text [] (b ∷ m) = false
same_text (a ∷ l) [] = false
same_text (a ∷ l) (b ∷ m) = eqb a b && same_text l m
