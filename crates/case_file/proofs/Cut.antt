-- The first bytes of a text decide its answer: a text that is cut is too long before and after, and any other is not changed by the cut.
-- Assumes nothing.
use mathlib.Core.Path.{◌≡◌, sym, ◌∙◌, ap}
use mathlib.Core.Logic.{inl, inr}
use mathlib.Core.List.{List}
use Prim.Native.Nat.{ℕ, ◌<◌}
use native.Mathlib.Omega.{arith}
use lib.Dec.{ltb}
use lib.ListN.{length, take}
use lib.Seq.{take_all, length-take-le}
use borrow.Author.Tests.{lt-ltb, ltb-true, ltb-false}
use Rattle.laws.proofs.Bools.{bool?}
use Rattle.railway.specs.declared.Refusal.TheVariants.{Length}
use Rattle.railway.specs.Refusals.{first}
use Rattle.case_file.specs.Rows.{most_bytes}
use Rattle.case_file.specs.Given.{refused}
use Rattle.case_file.specs.Reading.{case_answer}
use Rattle.case_file.specs.Claims.{CutDecides}

too_long : (text : List ℕ) → most_bytes < length text → case_answer text ≡ refused Length
unfolding case_answer first
too_long text h = rw (lt-ltb most_bytes (length text) h)

pub cut-decides : CutDecides
cut-decides text n h = elim (bool? (ltb n (length text))) [
  | inl e ↦
      let longer : n < length text = ltb-true n (length text) e in
      let left : length (take n text) ≡ n = length-take-le n text (omega (arith, longer)) in
      too_long (take n text) (omega (arith, left, h)) ∙ sym (too_long text (omega (arith, longer, h)))
  | inr e ↦ ap case_answer (take_all n text (ltb-false n (length text) e))
]
