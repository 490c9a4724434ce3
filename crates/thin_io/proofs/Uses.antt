-- What the call promises, drawn upon: no more than 4,097 bytes of a case and 368,686 of a plan are looked at, and where the case is refused with 2, whatever the plan, ten bytes are
-- written. Assumes nothing.
use mathlib.Core.Path.{◌≡◌, ◌∙◌, ap}
use Prim.Native.Nat.{ℕ, ◌≤◌}
use lib.ListN.{length}
use Rattle.text.specs.Text.{digits, line, bytes}
use Rattle.railway.specs.declared.Refusal.TheVariants.{Form}
use Rattle.case_file.specs.Given.{RefusedWith}
use Rattle.thin_io.specs.Thinned.{ThinnedBytes}

few-read : (n : ℕ) (a : ThinnedBytes n) → (length a.case ≤ 4097) × (length a.plan ≤ 368686)
few-read n a = (a.short-case, a.short-plan)

ten-written : (n : ℕ) (a : ThinnedBytes n) → RefusedWith a.case Form → n ≡ 10
unfolding bytes line digits
ten-written n a w = a.count ∙ ap length (a.output.refused Form w)
