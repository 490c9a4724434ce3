-- What came in and what is written for it, from the three buffers: the third has room for every line that may be put there, so none is refused. Assumes nothing.
use mathlib.Core.Path.{◌≡◌, refl}
use mathlib.Core.List.{List}
use mathlib.Core.Option.{get_or}
use Prim.Native.Nat.{ℕ, suc, ◌≤◌}
use native.Mathlib.Omega.{arith}
use lib.ListN.{length, take}
use lib.Seq.{length-take-le}
use Rattle.case_file.specs.Written.{Written, Bytes, Refused}
use Rattle.case_file.specs.Rows.{most_bytes}
use Rattle.case_file.specs.Writing.{written_count}
use Rattle.answer_lines.specs.Lines.{most_answer_bytes}
use Rattle.answer_lines.proofs.Puts.{puts_whole, puts-never}
use Rattle.check_text.specs.Claims.{read_bytes}
use Rattle.check_files.specs.Hearing.{HeardPost}
use Rattle.check_io.specs.Answered.{Answered}

module _ (case plan line : List ℕ) (n m : ℕ) (line' : List ℕ) (some-case : length case ≡ suc most_bytes) (some-plan : length plan ≡ read_bytes) (room : most_answer_bytes ≤ length line) where
  pub answered : (w : Written) → HeardPost case plan line n m w line' → (k : ℕ) → k ≡ get_or (written_count w) 0 → Answered k
  answered (Refused f) p k e = puts-never p.put room f refl
  answered (Bytes j) p k e =
      let f = puts_whole p.put j refl in
      record {
        case = take n case;
        short-case = omega (arith, length-take-le n case p.case-within, p.case-within, some-case);
        plan = take m plan;
        short-plan = omega (arith, length-take-le m plan p.plan-within, p.plan-within, some-plan);
        line = take j line';
        output = f.output;
        count = (let z : length (take j line') ≡ j = length-take-le j line' f.within in rw (e, z) refl);
      }
