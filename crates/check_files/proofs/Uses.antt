-- What is promised of files, put to use: a buffer without a byte has room for the empty text alone, for which `refused` and 2 stand in the third.
-- Assumes nothing.
use mathlib.Core.Path.{◌≡◌}
use mathlib.Core.List.{List, [], ◌++◌}
use Prim.Native.Nat.{ℕ}
use native.Mathlib.Omega.{arith}
use lib.ListN.{take, replicate}
use Rattle.text.specs.Text.{bytes}
use Rattle.railway.specs.Refusals.{first}
use Rattle.case_file.specs.Written.{Written, Bytes}
use Rattle.answer_lines.specs.Lines.{PutPost}
use Rattle.check_text.specs.Verdict.{CheckOutput}
use Rattle.check_text.proofs.Uses.{writes-form}
use Rattle.check_files.specs.Hearing.{HeardPost}

no-case : (plan line line' : List ℕ) (n m : ℕ) (w : Written) → HeardPost [] plan line n m w line' → n ≡ 0
no-case plan line line' n m w p = omega (arith, p.case-within)

no-plan : (case line line' : List ℕ) (n m : ℕ) (w : Written) → HeardPost case [] line n m w line' → m ≡ 0
no-plan case line line' n m w p = omega (arith, p.plan-within)

put_two : (text line' : List ℕ) (w : Written) → text ≡ bytes "refused\t2\n" → PutPost text (replicate 16 7) w line' → (w ≡ Bytes 10) × (line' ≡ bytes "refused\t2\n" ++ replicate 6 7)
unfolding bytes first
put_two text line' w e p = let q : PutPost (bytes "refused\t2\n") (replicate 16 7) w line' = rw e at p in (q.answer, q.buffer)

writes-two : (plan line' : List ℕ) (n m : ℕ) (w : Written) → HeardPost [] plan (replicate 16 7) n m w line' → (w ≡ Bytes 10) × (line' ≡ bytes "refused\t2\n" ++ replicate 6 7)
writes-two plan line' n m w p =
    let o : CheckOutput [] (take m plan) p.put.text = rw (no-case plan (replicate 16 7) line' n m w p) at p.put.output in
    put_two p.put.text line' w (writes-form (take m plan) p.put.text o) p.put.put
