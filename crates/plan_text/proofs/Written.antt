-- How long a text for a solver's answer can be: a line for each entry of a table and one more, each of the most bytes, are never too few. So one is
-- put, whatever the answer. Assumes nothing.
use mathlib.Core.Path.{◌≡◌, sym, ap, subst, ◌∙◌}
use mathlib.Core.List.{List}
use Prim.Native.Nat.{ℕ, ◌≤◌}
use native.Mathlib.Omega.{arith}
use lib.ListN.{length, take}
use Rattle.text.specs.Text.{line, bytes}
use Rattle.railway.specs.declared.Railway.{Railway}
use Rattle.game_tables.specs.SolverAnswer.{SolverAnswer, Refused, Unsolvable, Figure}
use Rattle.game_tables.specs.Solver.{SolverPost}
use Rattle.plan.specs.Lines.{most_line_bytes}
use Rattle.case_file.specs.Written.{Written}
use Rattle.answer_lines.specs.Lines.{none_line, PutPost, Puts}
use Rattle.answer_lines.proofs.Lines.{refusal-short}
use Rattle.plan_text.specs.Written.{output_text, blank, RailwayOutput, text_bytes, CutWrites}
use Rattle.plan_text.proofs.Sizes.{plan-short}
use Rattle.plan_text.proofs.Solved.{solved-by}
use Rattle.case_file.proofs.Cut.{cut-decides}
use Rattle.case_file.proofs.Given.{refused-exactly, accepted-exactly}

none-short : length none_line ≤ most_line_bytes
unfolding line bytes
none-short = omega arith

output-short : (r : Railway) (a : SolverAnswer) (figs sets : List ℕ) → SolverPost r a blank blank figs sets → length (output_text r a figs sets) ≤ text_bytes
output-short r (Refused f) figs sets post = omega (arith, refusal-short f, none-short)
output-short r Unsolvable figs sets post = omega (arith, none-short)
output-short r (Figure n) figs sets post = plan-short r figs sets (solved-by r n figs sets post)

-- with the answer known, the text put is that for it
pub answered : (r : Railway) (a : SolverAnswer) (figs sets old new : List ℕ) (w : Written) → SolverPost r a blank blank figs sets
    → (x : SolverAnswer) → a ≡ x → PutPost (output_text r x figs sets) old w new → Puts (RailwayOutput r) text_bytes old w new
answered r a figs sets old new w post x e p =
    record {
      text = output_text r x figs sets;
      output = record { answer = a; figs = figs; sets = sets; solved = post; written = ap (λ (y : SolverAnswer). output_text r y figs sets) (sym e) };
      short = output-short r x figs sets (subst (λ (y : SolverAnswer). SolverPost r y blank blank figs sets) e post);
      put = p;
    }

-- What a program writes that reads no more than one byte over the most that a case text may have: a text is refused or accepted as its first bytes are.
pub cut-writes : CutWrites
cut-writes case text n enough o =
    let same = cut-decides case n enough in
    record {
      refused = λ f w. o.refused f ((refused-exactly (take n case) f).0 (same ∙ (refused-exactly case f).1 w));
      accepted = λ r w. o.accepted r ((accepted-exactly (take n case) r).0 (same ∙ (accepted-exactly case r).1 w));
    }
