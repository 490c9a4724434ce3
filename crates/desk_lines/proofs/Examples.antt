-- The lines written out, by computation: two states, home, and what is a report and what is not. Assumes nothing.
use mathlib.Core.Path.{◌≡◌, refl}
use mathlib.Core.Bool.{Bool, true, false}
use mathlib.Core.List.{[], ◌∷◌}
use mathlib.Core.Option.{none, some}
use Prim.Native.Nat.{ℕ}
use Prim.Native.String.{String}
use Rattle.laws.specs.Below.{gather_below}
use Rattle.text.specs.Text.{digits, line, bytes}
use Rattle.text.specs.Reading.{is_digit, byte_at, digits_at, number_at}
use Rattle.game_placement.specs.declared.Placement.{Placement}
use Rattle.desk_lines.specs.Panel.{state_line, home_line}
use Rattle.desk_lines.specs.Reports.{report_at, report_in, place_of}
use Rattle.desk_lines.specs.Changes.{starts_with, is_change}

abbrev on : ℕ → ℕ → Placement
on a b = record { sections = a ∷ b ∷ 0 ∷ 0 ∷ [] }

-- Yard A at the start and behind the move of train 2; then train 1 has the only open signal
states : (state_line 2 1 (on 1 2) 2 1 ≡ bytes "train 1 at 2 | train 2 at 3 | 2 left | points +\n")
    × (state_line 2 1 (on 1 0) 1 65536 ≡ bytes "train 1 at 2 open | train 2 at 1 | 1 left | points -\n")
    × (state_line 2 0 (on 9 47) 300 131072 ≡ bytes "train 1 at 10 | train 2 at 48 open | 300 left | points none\n")
    × (state_line 1 3 (on 0 0) 4 5 ≡ bytes "train 1 at 1 | 4 left | points +-+\n")
    × (home_line ≡ bytes "home\n")
unfolding bytes line digits gather_below
states = (refl, refl, refl, refl, refl)

-- reports; other signs, numbers and ends are none
abbrev no-report : String → Type 0
no-report s = report_in (bytes s) ≡ none

reports : (report_in (bytes "1\t3") ≡ some (record { train = 1; section = 3 })) × (report_in (bytes "999\t0") ≡ some (record { train = 999; section = 0 }))
    × no-report "" × no-report "1" × no-report "1 3" × no-report "01\t3" × no-report "1\t3\t" × no-report "1\t1000" × no-report "\t3"
unfolding bytes report_at number_at digits_at byte_at is_digit
reports = (refl, refl, refl, refl, refl, refl, refl, refl, refl)

places : (place_of 1 ≡ 0) × (place_of 48 ≡ 47) × (place_of 0 ≡ 255) × (place_of 255 ≡ 254) × (place_of 256 ≡ 255) × (place_of 999 ≡ 255)
places = (refl, refl, refl, refl, refl, refl)

-- changes; another word, no tab, or 65 bytes are none
abbrev change : String → Bool
change s = is_change (bytes s)

changes : (change "change\tnew.txt" ≡ true) × (change "change\t" ≡ true) × (change "change" ≡ false) × (change "Change\tnew.txt" ≡ false) × (change "change new.txt" ≡ false) × (change "1\t3" ≡ false)
    × (change "change\t123456789012345678901234567890123456789012345678901234567" ≡ true) × (change "change\t1234567890123456789012345678901234567890123456789012345678" ≡ false)
unfolding bytes is_change starts_with
changes = (refl, refl, refl, refl, refl, refl, refl, refl)
