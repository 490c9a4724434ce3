-- What program `deskrun` takes for a change of case (document 02, Q-11): `change`, a tab, and the name of the file that has the new case. Lines are taken without their end. Assumes nothing.
use Rattle.std.specs.Prelude.{◌≡◌, Bool, true, false, ◌&&◌, List, [], ◌∷◌, ℕ, eqb, ltb, length, take}
use Rattle.text.specs.Text.{bytes}

-- A text begins with this word.
unfoldable pub starts_with : List ℕ → List ℕ → Bool
starts_with [] l = true
starts_with (b ∷ w) [] = false
starts_with (b ∷ w) (x ∷ l) = eqb b x && starts_with w l

-- A change. No line of more than 64 bytes is one, so that a name has 57 at most.
unfoldable pub is_change : List ℕ → Bool
is_change l = ltb (length l) 65 && starts_with (bytes "change\t") l

-- So many bytes of a line decide.
abbrev pub CutChanges : Type 0
CutChanges = (l : List ℕ) → is_change (take 65 l) ≡ is_change l
