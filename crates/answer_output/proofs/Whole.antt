-- Where there is room for the longest text that a program may write, all that was put stands in front, whole, and is counted. Assumes nothing.
use mathlib.Core.Path.{◌≡◌, refl}
use mathlib.Core.List.{List}
use Prim.Native.Nat.{ℕ, ◌≤◌}
use lib.ListN.{length}
use borrow.Author.Tests.{le-leb}
use Rattle.case_file.specs.Written.{Written, Bytes, Refused}
use Rattle.answer_lines.specs.Lines.{Puts, FrontIs}
use Rattle.answer_lines.proofs.Puts.{puts_whole, puts-never}
use Rattle.answer_output.specs.Front.{front_bytes}

module _ {Output : List ℕ → Type 0} {most : ℕ} {old new : List ℕ} {w : Written} (p : Puts Output most old w new) (room : most ≤ length old) where
  by_answer : (v : Written) → w ≡ v → FrontIs Output (front_bytes v new) new
  by_answer (Bytes n) e = let h = puts_whole p n e in rw (le-leb n (length new) h.within) h
  by_answer (Refused f) e = puts-never p room f e

  pub stands-whole : (n : ℕ) → n ≡ front_bytes w new → FrontIs Output n new
  stands-whole n e = rw e (by_answer w refl)
