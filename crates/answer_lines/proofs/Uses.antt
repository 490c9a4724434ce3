-- What the promises say of a line and a buffer that are written out, by computation: the line's bytes; with room it stands in front of what was there, and
-- without room nothing is written. Assumes nothing.
use mathlib.Core.Path.{◌≡◌, refl}
use mathlib.Core.List.{List, [], ◌∷◌, ◌++◌}
use mathlib.Core.Option.{none, some}
use Prim.Native.Nat.{ℕ}
use Rattle.text.specs.Text.{digits, line, bytes}
use Rattle.railway.specs.declared.Refusal.TheVariants.{Form, Weight, Space, PlanFault}
use Rattle.railway.specs.Refusals.{first}
use Rattle.case_file.specs.Written.{Written, Bytes, Refused}
use Rattle.case_file.specs.Writing.{written_number}
use Rattle.plan.specs.TestAnswer as tested
use Rattle.answer_lines.specs.Lines.{refusal_line, none_line, test_line, PutPost}

-- the lines
spelled : (refusal_line Form ≡ bytes "refused\t2\n") × (refusal_line Weight ≡ bytes "refused\t16\n") × (none_line ≡ bytes "none\n")
    × (test_line tested.Pass ≡ bytes "pass\n") × (test_line (tested.Refused PlanFault) ≡ bytes "refused\t11\n")
unfolding bytes line digits
spelled = (refl, refl, refl, refl, refl)

module _ (w : Written) (new : List ℕ) where
  -- with room to the last byte, and for two more
  just-fits : PutPost none_line (1 ∷ 2 ∷ 3 ∷ 4 ∷ 5 ∷ []) w new → (w ≡ Bytes 5) × (written_number w ≡ none) × (new ≡ bytes "none\n")
  unfolding bytes line first
  just-fits p = (p.answer, p.numbered, p.buffer)

  fits : PutPost none_line (1 ∷ 2 ∷ 3 ∷ 4 ∷ 5 ∷ 6 ∷ 7 ∷ []) w new → (w ≡ Bytes 5) × (written_number w ≡ none) × (new ≡ bytes "none\n" ++ (6 ∷ 7 ∷ []))
  unfolding bytes line first
  fits p = (p.answer, p.numbered, p.buffer)

  -- one byte short
  short : PutPost none_line (1 ∷ 2 ∷ 3 ∷ 4 ∷ []) w new → (w ≡ Refused Space) × (written_number w ≡ some 9) × (new ≡ 1 ∷ 2 ∷ 3 ∷ 4 ∷ [])
  unfolding bytes line first
  short p = (p.answer, p.numbered, p.buffer)
