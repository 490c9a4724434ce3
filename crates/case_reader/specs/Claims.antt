-- What follows from the reader's promise, a sentence to each, of every call; proofs/ has the proofs. `r` is what `read_case` answers to the text.
-- Assumes nothing.
use Rattle.std.specs.Prelude.{◌≡◌, ◌↔◌, ◌⊎◌, List, ℕ}
use Rattle.std.proofs.Math.Option.{none}
use Rattle.railway.specs.declared.Railway.{Railway}
use Rattle.railway.specs.declared.Refusal.{Refusal}
use Rattle.railway.specs.Rows.{record_refusal}
use Rattle.case_file.specs.CaseRead.{CaseRead}
use Rattle.case_file.specs.Form.{Description, Describes}
use Rattle.case_file.specs.Claims.{AsDescribed}
use Rattle.case_file.specs.Given.{accepted, refused, RefusedWith, AcceptedWith, ReaderPost}

-- A reader accepts exactly the texts to which no row applies, each with the railway that it describes.
abbrev pub ReaderAccepts : Type 0
ReaderAccepts = (text : List ℕ) (r : CaseRead) → ReaderPost text r → (q : Railway) → (r ≡ accepted q) ↔ AcceptedWith text q

-- A reader refuses exactly where a row applies, with the first that does.
abbrev pub ReaderRefuses : Type 0
ReaderRefuses = (text : List ℕ) (r : CaseRead) → ReaderPost text r → (f : Refusal) → (r ≡ refused f) ↔ RefusedWith text f

-- A reader accepts or refuses every text.
abbrev pub ReaderSettles : Type 0
ReaderSettles = (text : List ℕ) (r : CaseRead) → ReaderPost text r → ((q : Railway) × (r ≡ accepted q)) ⊎ ((f : Refusal) × (r ≡ refused f))

-- A railway that a reader gives passes the test of a record.
abbrev pub ReaderGives : Type 0
ReaderGives = (text : List ℕ) (r : CaseRead) → ReaderPost text r → (q : Railway) → r ≡ accepted q → record_refusal q ≡ none

-- It has what the text's lines say.
abbrev pub ReaderDescribes : Type 0
ReaderDescribes = (text : List ℕ) (r : CaseRead) → ReaderPost text r → (q : Railway) → r ≡ accepted q → (d : Description) × Describes text d × AsDescribed d q
