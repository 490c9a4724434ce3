-- What came in and what is written for it, from the three buffers. Assumes nothing.
use mathlib.Core.Path.{◌≡◌, sym}
use mathlib.Core.List.{List}
use Prim.Native.Nat.{ℕ, suc, ◌≤◌}
use native.Mathlib.Omega.{arith}
use lib.ListN.{length, take}
use lib.Seq.{length-take-le}
use Rattle.case_file.specs.Rows.{most_bytes}
use Rattle.answer_lines.specs.Lines.{FrontIs}
use Rattle.check_text.specs.Claims.{read_bytes}
use Rattle.thin_text.specs.Lean.{LeanOutput}
use Rattle.thin_io.specs.Thinned.{ThinnedBytes}

pub thinned : (case plan text : List ℕ) (n m k : ℕ) → length case ≡ suc most_bytes → n ≤ length case → length plan ≡ read_bytes → m ≤ length plan
    → FrontIs (LeanOutput (take n case) (take m plan)) k text → ThinnedBytes k
thinned case plan text n m k some-case case-within some-plan plan-within w =
    record {
      case = take n case;
      short-case = omega (arith, length-take-le n case case-within, case-within, some-case);
      plan = take m plan;
      short-plan = omega (arith, length-take-le m plan plan-within, plan-within, some-plan);
      text = take k text;
      output = w.output;
      count = sym (length-take-le k text w.within);
    }
