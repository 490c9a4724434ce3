-- A line is made in a buffer of its own and copied. Whatever is written there, the cursor stays within; a
-- line of 45 bytes at most stands there whole. Assumes nothing.
use Prim.Native.Nat.{ℕ, ◌<◌, ◌≤◌}
use mathlib.Core.Path.{◌≡◌, ◌∙◌, ap}
use mathlib.Core.List.{List, [], ◌∷◌}
use native.Mathlib.Omega.{arith}
use lib.ListN.{length, take, replicate, length-replicate, length-append}
use borrow.Author.Tests.{lt-ltb, le-ltb}
use Rattle.text.specs.Text.{decimal, line_end, line, bytes}
use Rattle.text.specs.Appending.{Appended}
use Rattle.text.proofs.Appending.{front-bytes, front-text}
use Rattle.text.proofs.Decimal.{digits-length}
use Rattle.railway.specs.declared.Refusal.TheVariants.{Space}
use Rattle.plan.specs.declared.PlanPlace.{PlanPlace}
use Rattle.plan.specs.Emitted.{Line, Refused}
use Rattle.plan.specs.Lines.{start_line, spell, most_line_bytes}
use Rattle.plan.specs.Emitter.{Wrote, leaves}
use Rattle.plan.specs.Steps.{line_written}

-- THE LENT BUFFER: too short, or with the line in front
module _ (l : List ℕ) (place : PlanPlace) (old : List ℕ) where
  pub line-short : length old < length l → leaves (Refused Space) old ≡ line_written l place old
  line-short h = rw (lt-ltb (length old) (length l) h)

  pub line-put : {new : List ℕ} {n : ℕ} → length l ≤ length old → Appended old 0 l new n → leaves (Line (length l) place) new ≡ line_written l place old
  line-put h p = rw (le-ltb (length old) (length l) h, front-bytes p h)

-- THE OWN BUFFER
pub own-written : {own l text : List ℕ} {n : ℕ} {w : Wrote} → own ≡ replicate most_line_bytes 0 → Appended own 0 l text n → (place : PlanPlace) (old : List ℕ) → length l ≤ most_line_bytes
    → w ≡ line_written (take n text) place old → w ≡ line_written l place old
own-written {own} {l} blank made place old h e =
    let long : length own ≡ most_line_bytes = ap length blank ∙ length-replicate {A = ℕ} most_line_bytes 0 in
    let room : length l ≤ length own = omega arith in
    e ∙ ap (λ (s : List ℕ). line_written s place old) (front-text made room)

-- THE FIRST LINE is short, whatever its figure
pub start-short : (n : ℕ) → length (spell (start_line n)) ≤ most_line_bytes
unfolding bytes spell line
start-short n = omega (arith, length-append (decimal n) (line_end ∷ []), digits-length 10 n)
