-- What the call promises, drawn upon: no more than 4,097 bytes of a case and 368,686 of a plan are judged, and where the case is the empty text, whatever the plan,
-- ten bytes are written: a refusal with 2. Assumes nothing.
use mathlib.Core.Path.{◌≡◌, ◌∙◌, ap}
use mathlib.Core.List.{List, []}
use Prim.Native.Nat.{ℕ, ◌≤◌}
use lib.ListN.{length}
use Rattle.text.specs.Text.{bytes}
use Rattle.check_text.specs.Verdict.{CheckOutput}
use Rattle.check_text.proofs.Uses.{writes-form}
use Rattle.check_io.specs.Answered.{Answered}

few-judged : (n : ℕ) (a : Answered n) → (length a.case ≤ 4097) × (length a.plan ≤ 368686)
few-judged n a = (a.short-case, a.short-plan)

ten-written : (n : ℕ) (a : Answered n) → a.case ≡ [] → n ≡ 10
unfolding bytes
ten-written n a e = a.count ∙ ap length (writes-form a.plan a.line (empty a.case e a.output))
  where
    empty : (case : List ℕ) → case ≡ [] → CheckOutput case a.plan a.line → CheckOutput [] a.plan a.line
    empty case e o = rw e at o
