-- How numbers and lines are written, in a case file and in a plan alike (document 01, "The case file": lines, fields, numbers; "The two tables
-- and the plan": figures). A text is the list of its bytes. Assumes nothing.
use Rattle.std.specs.Prelude.{cond, List, [], ◌∷◌, ◌++◌, ℕ, zero, suc, ◌+◌, ◌/◌, ◌%◌, ltb}
use Prim.Native.String as Str
use Prim.Native.String.{String}
use Prim.Native.Char.{Char, code}

-- The byte of a character.
abbrev pub byte : Char → ℕ
byte c = code c

-- The decimal digits of a number, none in front that is zero; `0` is zero. At most as many as the first number says.
unfoldable pub digits : ℕ → ℕ → List ℕ
digits zero n = []
digits (suc left) n = cond (ltb n 10) ((byte "0" + n) ∷ []) (digits left (n / 10) ++ ((byte "0" + n % 10) ∷ []))

-- A number as it is written. Ten digits are enough for both formats: a case file writes numbers below 1,000, a plan figures below 4,294,967,295.
abbrev pub decimal : ℕ → List ℕ
decimal n = digits 10 n

-- The byte that parts fields.
abbrev pub tab : ℕ
tab = 9

-- The byte that ends a line.
abbrev pub line_end : ℕ
line_end = 10

-- A line: its fields, a tab between one and the next, a line end behind the last.
unfoldable pub line : List (List ℕ) → List ℕ
line [] = line_end ∷ []
line (f ∷ []) = f ++ (line_end ∷ [])
line (f ∷ g ∷ fs) = f ++ (tab ∷ line (g ∷ fs))

-- The bytes of a text that is written out in a table.
unfoldable pub bytes : String → List ℕ
bytes Str.[] = []
bytes (Str.◌∷◌ c s) = byte c ∷ bytes s
