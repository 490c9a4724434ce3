-- Writing into a buffer at a cursor, as code does it. Contracts cite this file; nothing of document 01 rests on it: `StandsWhole`, at its end, says
-- what a text leaves where there is room. Assumes nothing.
use Rattle.std.specs.Prelude.{◌≡◌, cond, List, [], ◌∷◌, ◌++◌, ℕ, suc, ◌+◌, ◌≤◌, ltb, length, take, drop, set}

-- The cursor behind one byte: further on where there was room for it.
abbrev pub next : List ℕ → ℕ → ℕ
next out at = cond (ltb at (length out)) (suc at) at

-- The buffer after a text, byte by byte; a byte that finds no room is lost.
unfoldable pub bytes_after : List ℕ → ℕ → List ℕ → List ℕ
bytes_after out at [] = out
bytes_after out at (b ∷ text) = bytes_after (set out at b) (next out at) text

-- The cursor after it: it stops at the buffer's end.
unfoldable pub cursor_after : List ℕ → ℕ → List ℕ → ℕ
cursor_after out at [] = at
cursor_after out at (b ∷ text) = cursor_after (set out at b) (next out at) text

-- What is left of a buffer and a cursor when a text has been written there.
pub record Appended (out : List ℕ) (at : ℕ) (text : List ℕ) (out' : List ℕ) (at' : ℕ) : Type 0 where
  pub bytes : out' ≡ bytes_after out at text
  pub cursor : at' ≡ cursor_after out at text

-- Where there is room the text stands whole at the cursor, and the bytes before and behind it are as they were.
abbrev pub StandsWhole : Type 0
StandsWhole = (text out : List ℕ) (at : ℕ) → at + length text ≤ length out → bytes_after out at text ≡ take at out ++ text ++ drop (at + length text) out
