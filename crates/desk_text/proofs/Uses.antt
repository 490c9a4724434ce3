-- What the promise says, drawn upon: that a line which is no report changes nothing at any desk, what is put for it, and how long a text can be. Assumes nothing.
use mathlib.Core.Path.{◌≡◌}
use mathlib.Core.Bool.{Bool, true}
use mathlib.Core.List.{List}
use Prim.Native.Nat.{ℕ, ◌≤◌}
use lib.ListN.{length, replicate}
use Rattle.text.specs.Text.{digits, line, bytes}
use Rattle.text.specs.Reading.{is_digit, number_at}
use Rattle.railway.specs.declared.Railway.{Railway}
use Rattle.railway.specs.Refusals.{first}
use Rattle.case_file.specs.Written.{Written, Bytes}
use Rattle.desk.specs.Desk.{Desk}
use Rattle.desk_lines.specs.Reports.{report_at}
use Rattle.desk_text.specs.Said.{Said, line_said, SaidPost}

module _ (r : Railway) (figs sets : List ℕ) (d e : Desk) (w : Written) (g : Bool) (new : List ℕ) where
  stays : SaidPost (line_said r figs sets d (bytes "hello")) (replicate 11 7) e w g new → (e ≡ d) × (g ≡ true) × (w ≡ Bytes 11) × (new ≡ bytes "refused\t12\n")
  unfolding bytes report_at number_at is_digit line digits first
  stays p = (p.desk, p.going, p.put.answer, p.put.buffer)

  few : (s : Said) → SaidPost s (replicate 11 7) e w g new → length s.text ≤ 200
  few s p = p.short
