-- So many bytes of a case text and of a plan decide what is written. A plan that is longer has bytes left behind the lines that are taken, whether it is cut or not, and the same lines are taken
-- (check_text/Cut), so that the same refusal is given at the end. Assumes nothing.
use mathlib.Core.Path.{◌≡◌, refl, sym, ◌∙◌, ap, subst}
use mathlib.Core.Logic.{inl, inr}
use mathlib.Core.List.{List, [], ◌∷◌}
use mathlib.Core.Option.{none}
use Prim.Native.Nat.{ℕ, ◌≤◌, ◌<◌}
use native.Mathlib.Omega.{arith}
use lib.ListN.{length, take, drop, replicate, length-replicate, length-drop}
use lib.Seq.{take_all, length-take-le}
use Rattle.laws.proofs.Bools.{option?, lt?, some-none}
use Rattle.railway.specs.declared.Railway.{Railway}
use Rattle.game.specs.Placement.{placements}
use Rattle.game_tables.specs.Lengths.{entries}
use Rattle.game_tables.specs.Tables.{case_refusal}
use Rattle.game_tables.proofs.Refusals.{case-none}
use Rattle.plan.specs.declared.CheckerState.TheVariants.{Fresh}
use Rattle.plan.specs.FrontAnswer.{FrontAnswer}
use Rattle.plan.specs.Checker.{Checking, Left, freshened}
use Rattle.plan.specs.Several.{take_front}
use Rattle.case_file.proofs.Cut.{cut-decides}
use Rattle.case_file.proofs.Given.{refused-exactly, accepted-exactly}
use Rattle.check_text.specs.Claims.{read_bytes}
use Rattle.check_text.specs.Pieces.{bytes_taken, stops}
use Rattle.check_text.proofs.Cut.{FrontCut, front_cut}
use Rattle.thin_text.specs.Lean.{EndOutput, PlanOutput}
use Rattle.thin_text.specs.Claims.{CutThins}

-- AT THE END it matters only that bytes are left, and not which
left-alike : (r : Railway) (c : Checking) (text xs ys : List ℕ) → 0 < length xs → 0 < length ys → EndOutput r c xs text → EndOutput r c ys text
left-alike r c text [] ys l m o = absurd (omega (arith, l))
left-alike r c text (x ∷ xs) [] l m o = absurd (omega (arith, m))
left-alike r c text (x ∷ xs) (y ∷ ys) l m o =
    record { answer = o.answer; ended = record { answer = o.ended.answer; numbered = o.ended.numbered }; written = o.written }

-- A RAILWAY AND A PLAN that is cut
module _ (r : Railway) (plan text : List ℕ) (m : ℕ) (enough : read_bytes ≤ m) (o : PlanOutput r (take m plan) text) where
  abbrev table : List ℕ
  table = replicate entries 0

  -- no line was taken before, and there are no more placements than entries if the case is not refused
  begun : o.start.state ≡ Fresh
  begun = elim (option? (case_refusal r table table)) [
    | inl e ↦ ap (λ (c : Checking). c.state) (o.fresh.checking ∙ ap (freshened r table table) e)
    | inr e ↦ ap (λ (c : Checking). c.state) (o.fresh.checking ∙ ap (freshened r table table) e.1)
  ]

  room : case_refusal r o.start.figs o.start.sets ≡ none → placements r ≤ entries
  room fine = elim (option? (case_refusal r table table)) [
    | inl e ↦ (let k = ((case-none r table table).0 e).1.figures in omega (arith, k, length-replicate {A = ℕ} entries 0))
    | inr e ↦ (let s : o.start ≡ record { state = Fresh; figs = table; sets = table } = o.fresh.checking ∙ ap (freshened r table table) e.1 in
        some-none e.1 (ap (λ (c : Checking). case_refusal r c.figs c.sets) (sym s) ∙ fine))
  ]

  -- the plan is longer
  module _ (longer : m < length plan) where
    cut : FrontCut r o.start plan m
    cut = front_cut r o.start plan m begun room enough

    taken : o.bytes ≡ bytes_taken (take_front r o.start plan).answer
    taken = o.lines.bytes ∙ ap (λ (x : Left FrontAnswer). bytes_taken x.answer) cut.same

    left_over : PlanOutput r plan text
    left_over =
        let n : length (take m plan) ≡ m = length-take-le m plan (omega (arith, longer)) in
        record {
          made = o.made;
          start = o.start;
          fresh = o.fresh;
          bytes = o.bytes;
          stopped = stops plan (take_front r o.start plan).answer;
          end = o.end;
          lines = record { bytes = taken; stop = refl; checking = o.lines.checking ∙ ap (λ (x : Left FrontAnswer). x.checking) cut.same };
          ends = left-alike r o.end text (drop o.bytes (take m plan)) (drop o.bytes plan)
              (omega (arith, length-drop o.bytes (take m plan), n, taken, cut.few)) (omega (arith, length-drop o.bytes plan, longer, taken, cut.few)) o.ends;
        }

  pub plan-cut : PlanOutput r plan text
  plan-cut = elim (lt? m (length plan)) [
    | inl l ↦ left_over l
    | inr l ↦ subst (λ (xs : List ℕ). PlanOutput r xs text) (take_all m plan l) o
  ]

-- A CASE TEXT that is cut, too
pub cut-thins : CutThins
cut-thins case plan text n m enough-case enough-plan o =
    let same = cut-decides case n enough-case in
    record {
      refused = λ f w. o.refused f ((refused-exactly (take n case) f).0 (same ∙ (refused-exactly case f).1 w));
      accepted = λ r w. plan-cut r plan text m enough-plan (o.accepted r ((accepted-exactly (take n case) r).0 (same ∙ (accepted-exactly case r).1 w)));
    }
