-- What is known of a record by the answer of its test, for numbers tell refusals apart. Assumes nothing.
use mathlib.Core.Path.{◌≡◌, sym, ◌∙◌, ap}
use mathlib.Core.Option.{none, some}
use Rattle.railway.specs.declared.Railway.{Railway}
use Rattle.railway.specs.declared.Refusal.{Refusal}
use Rattle.railway.specs.Refusals.{number_given}
use Rattle.railway.specs.Rows.{record_refusal}
use Rattle.railway.proofs.Refusals.{number-tells}
use Rattle.railway.specs.CaseAnswer.{CaseAnswer, Accepted, Refused}
use Rattle.railway_acceptance.specs.Answers.{Judged}

module _ (r : Railway) {t : CaseAnswer} (judged : Judged r t) where
  pub judged-refused : {f : Refusal} → t ≡ Refused f → record_refusal r ≡ some f
  judged-refused {f} e = number-tells (record_refusal r) (some f) (sym judged ∙ ap number_given e)

  pub judged-accepted : t ≡ Accepted → record_refusal r ≡ none
  judged-accepted e = number-tells (record_refusal r) none (sym judged ∙ ap number_given e)
