-- What is said of the texts that `thinplan` writes, put to use: of any text of which it holds something is drawn from each field. Nothing rests on these facts; they hold the fields fast.
-- Assumes nothing.
use mathlib.Core.Path.{◌≡◌, refl, ap}
use mathlib.Core.List.{List, []}
use mathlib.Core.Option.{none}
use Prim.Native.Nat.{ℕ, ◌<◌}
use native.Mathlib.Omega.{arith}
use lib.ListN.{length, take}
use Rattle.laws.proofs.Lists.{every-none}
use Rattle.text.specs.Text.{digits, line, bytes}
use Rattle.railway.specs.declared.Railway.{Railway}
use Rattle.railway.specs.declared.Refusal.TheVariants.{Length, PlanForm, PlanFault}
use Rattle.railway.specs.Yards.{yard_a}
use Rattle.case_file.specs.Rows.{most_bytes}
use Rattle.case_file.specs.Given.{AcceptedWith}
use Rattle.plan.specs.TestAnswer.{TestAnswer, Pass, Refused}
use Rattle.plan.specs.Checker.{test_number}
use Rattle.check_text.specs.Verdict.{PlanPost}
use Rattle.thin_text.specs.Lean.{PlanOutput, LeanOutput}
use Rattle.thin_text.specs.Claims.{LeanSays, LeanPasses, CutThins}
use Rattle.thin_text.proofs.Claims.{lean-passes}
use Rattle.thin_text.proofs.Cut.{cut-thins}

module _ (r : Railway) (text : List ℕ) where
  -- a plan that fails its test: `refused` and 11
  writes-eleven : LeanSays r text (Refused PlanFault) → text ≡ bytes "refused\t11\n"
  unfolding bytes line digits
  writes-eleven h = h.refused PlanFault refl

  -- a plan that passes: what is written gets no number
  no_number : LeanSays r text Pass → (again : TestAnswer) → PlanPost r text again → test_number again ≡ none
  no_number h again post = ap test_number (h.passes refl again post)

  -- so with what the program writes for any plan that passes
  written-passes : (plan : List ℕ) → PlanOutput r plan text → PlanPost r plan Pass → (again : TestAnswer) → PlanPost r text again → test_number again ≡ none
  written-passes plan o post = no_number (lean-passes r plan text o Pass post)

-- SO MANY BYTES DECIDE. Of what is written for the first 4,097 bytes of a case and the first 368,686 of a plan: a longer case has `refused` and 1, and where the whole plan is out of form, read as one
-- for Yard A, it has `refused` and 10.
module _ (decides : CutThins) (case plan text : List ℕ) where
  longer-case : most_bytes < length case → LeanOutput (take 4097 case) (take 368686 plan) text → text ≡ bytes "refused\t1\n"
  unfolding bytes line digits
  longer-case l o =
      (decides case plan text 4097 368686 (omega arith) (omega arith) o
      ).refused Length (record { before = []; after = _; order = refl; here = l; not-before = every-none _ })

  longer-plan : AcceptedWith case yard_a → LeanPasses → PlanPost yard_a plan (Refused PlanForm) → LeanOutput (take 4097 case) (take 368686 plan) text → text ≡ bytes "refused\t10\n"
  unfolding bytes line digits
  longer-plan read says post o =
      (says yard_a plan text ((decides case plan text 4097 368686 (omega arith) (omega arith) o).accepted yard_a read) (Refused PlanForm) post).refused PlanForm refl

-- and it holds
long-refused : (case plan text : List ℕ) → most_bytes < length case → LeanOutput (take 4097 case) (take 368686 plan) text → text ≡ bytes "refused\t1\n"
long-refused = longer-case cut-thins
