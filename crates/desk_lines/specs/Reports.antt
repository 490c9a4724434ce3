-- What program `deskrun` takes for a report: a line with the numbers of a train and of a section, a tab between them (document 02, Q-1: each report of a train's movement). Lines are
-- taken without their end. Assumes nothing.
use Rattle.std.specs.Prelude.{◌≡◌, ◌↔◌, cond, ◌||◌, List, ◌∷◌, ◌++◌, ℕ, ◌-◌, ◌<◌, eqb, ltb, length, take}
use Rattle.std.proofs.Math.Option.{Option, none, some}
use Rattle.text.specs.Text.{decimal, tab}
use Rattle.text.specs.Reading.{Got, bad, got, then, value, byte_at, number_at}
use Rattle.desk_lines.specs.ReportLine.{ReportLine, NoReport, Of}

-- A train and a section, by the document's numbers.
pub record Told : Type 0 where
  pub train : ℕ
  pub section : ℕ

-- A report as it is written: two numbers of three digits at most.
pub record Spells (s : List ℕ) (y : Told) : Type 0 where
  pub small-train : y.train < 1000
  pub small-section : y.section < 1000
  pub text : s ≡ decimal y.train ++ (tab ∷ decimal y.section)

-- Nothing stands behind the cursor.
abbrev pub end_at : List ℕ → Told → ℕ → Got Told
end_at s y c = cond (ltb c (length s)) bad (got y c)

-- Reading it, as a program does.
unfoldable pub report_at : List ℕ → Got Told
report_at s = then (number_at s 2 0) (λ t c. then (byte_at s tab c) (λ b d. then (number_at s 2 d) (λ x e. end_at s (record { train = t; section = x }) e)))

-- The report that a line is, if it is one.
abbrev pub report_in : List ℕ → Option Told
report_in s = value (report_at s)

-- A line is read as a report exactly if it is written as one.
abbrev pub ReadsExactly : Type 0
ReadsExactly = (s : List ℕ) (y : Told) → (report_in s ≡ some y) ↔ Spells s y

-- So many bytes of a line decide, and any more: no report has more than seven.
abbrev pub CutReads : Type 0
CutReads = (s : List ℕ) (n : ℕ) → 7 < n → report_in (take n s) ≡ report_in s

-- What was read, in code.
abbrev pub report_read : ReportLine → Option Told
report_read NoReport = none
report_read (Of t x) = some (record { train = t; section = x })

-- A train or a section as the desk counts them, from 0. Numbers that none can have, 0 and those over 255, are 255, which is never there.
abbrev pub place_of : ℕ → ℕ
place_of n = cond (eqb n 0 || ltb 255 n) 255 (n - 1)
