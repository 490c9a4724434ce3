-- What a call answers that is handed a case text and makes something of its railway. Assumes nothing.
use Rattle.std.specs.Prelude.{List, ℕ}
use Rattle.railway.specs.declared.Railway.{Railway}
use Rattle.railway.specs.declared.Refusal.{Refusal}
use Rattle.case_file.specs.Given.{RefusedWith, AcceptedWith}

-- Every text is refused with one refusal or accepted with one railway: something holds for the refusal, or something for the railway.
pub record ByCase (text : List ℕ) (Refused : Refusal → Type 0) (Accepted : Railway → Type 0) : Type 0 where
  pub refused : (f : Refusal) → RefusedWith text f → Refused f
  pub accepted : (r : Railway) → AcceptedWith text r → Accepted r
