-- What a text is answered follows from what the reader answered. Assumes nothing.
use mathlib.Core.Path.{◌≡◌, sym, ◌∙◌, ap}
use mathlib.Core.List.{List}
use Prim.Native.Nat.{ℕ}
use Rattle.laws.proofs.Bools.{some-none, some_one}
use Rattle.railway.specs.declared.Railway.{Railway}
use Rattle.railway.specs.declared.Refusal.{Refusal}
use Rattle.railway.specs.Refusals.{number_given}
use Rattle.railway.proofs.Refusals.{number-one}
use Rattle.case_file.specs.CaseRead.{CaseRead}
use Rattle.railway.specs.CaseAnswer.{CaseAnswer, Accepted, Refused}
use Rattle.case_file.specs.Given.{railway_given, ReaderPost}
use Rattle.case_reader.specs.Answers.{ByCase}

module _ (R : Refusal → Type 0) (A : Railway → Type 0) (text : List ℕ) (a : CaseRead) (p : ReaderPost text a) where
  -- what is read where the answer is known
  beside : {x : CaseAnswer} → a.answer ≡ x → railway_given a.answer a.railway ≡ railway_given x a.railway
  beside e = ap (λ (y : CaseAnswer). railway_given y a.railway) e

  pub by-refused : (f : Refusal) → a.answer ≡ Refused f → R f → ByCase text R A
  by-refused f e h =
      record {
        refused = λ g w. let same : f ≡ g = number-one f g (some_one (sym (ap number_given e) ∙ (p.numbered g).1 w)) in rw same at h;
        accepted = λ r w. some-none ((p.railway r).1 w) (beside e);
      }

  pub by-accepted : a.answer ≡ Accepted → A a.railway → ByCase text R A
  by-accepted e h =
      record {
        refused = λ f w. some-none ((p.numbered f).1 w) (ap number_given e);
        accepted = λ r w. let same : a.railway ≡ r = some_one (sym (beside e) ∙ (p.railway r).1 w) in rw same at h;
      }
