-- Each change can be answered as promised, whatever is handed in: a text is refused with one number or read as one railway, and not both. Assumes nothing.
use mathlib.Core.Path.{◌≡◌, refl, sym, ◌∙◌, ap}
use mathlib.Core.Logic.{inl, inr}
use mathlib.Core.List.{List}
use mathlib.Core.Option.{Option, some}
use Prim.Native.Nat.{ℕ}
use Rattle.laws.proofs.Bools.{some-none, some_one}
use Rattle.railway.specs.declared.Railway.{Railway}
use Rattle.railway.specs.declared.Refusal.{Refusal}
use Rattle.railway.specs.Refusals.{number, number_given}
use Rattle.railway.specs.Rows.{record_refusal}
use Rattle.railway.proofs.Refusals.{number-one}
use Rattle.case_file.specs.CaseRead.{CaseRead}
use Rattle.case_file.specs.Given.{accepted, refused, RefusedWith, AcceptedWith}
use Rattle.case_file.specs.Reading.{case_answer}
use Rattle.case_file.proofs.Given.{accepted-one, refused-exactly, accepted-exactly, always-answered}
use Rattle.desk.specs.ChangeAnswer.{Refused}
use Rattle.desk.specs.Desk.{Desk}
use Rattle.desk.specs.Change.{sooner, Changing, change_to, ChangePost}

-- the number that a text is answered with
abbrev number_read : CaseRead → Option ℕ
number_read a = number_given a.answer

not-both : {A : Type 0} (text : List ℕ) (f : Refusal) (s : Railway) → case_answer text ≡ refused f → case_answer text ≡ accepted s → A
not-both text f s p q = some-none (ap number_read p) (ap number_read q)

refused-one : (text : List ℕ) (f g : Refusal) → case_answer text ≡ refused f → case_answer text ≡ refused g → f ≡ g
refused-one text f g p q = number-one f g (some_one (ap number_read (sym p ∙ q)))

-- An answer that is promised.
pub record Answered (r : Railway) (text : List ℕ) (d : Desk) (figs sets : List ℕ) : Type 0 where
  pub changing : Changing
  pub promised : ChangePost r text d figs sets changing

module _ (r : Railway) (text : List ℕ) (d : Desk) (figs sets : List ℕ) where
  -- of a text that is read
  pub read_made : (s : Railway) → AcceptedWith text s → ChangePost r text d figs sets (change_to r s d figs sets)
  read_made s a =
      record {
        not-read = λ g w. not-both text g s ((refused-exactly text g).1 w) ((accepted-exactly text s).1 a);
        read = λ q b. ap (λ (z : Railway). change_to r z d figs sets) (accepted-one text s q ((accepted-exactly text s).1 a) ((accepted-exactly text q).1 b));
      }

  -- and of one that is refused
  pub refused-made : (f : Refusal) → RefusedWith text f → ChangePost r text d figs sets (record { answer = Refused (sooner (record_refusal r) f); desk = d })
  refused-made f w =
      record {
        not-read = λ g v. (ap (λ (z : Refusal). some (number (sooner (record_refusal r) z))) (refused-one text f g ((refused-exactly text f).1 w) ((refused-exactly text g).1 v)), refl);
        read = λ s a. not-both text f s ((refused-exactly text f).1 w) ((accepted-exactly text s).1 a);
      }

  pub change-made : Answered r text d figs sets
  change-made = elim (always-answered text) [
    | inl a ↦ record { changing = change_to r a.0 d figs sets; promised = read_made a.0 ((accepted-exactly text a.0).0 a.1) }
    | inr a ↦ record { changing = record { answer = Refused (sooner (record_refusal r) a.0); desk = d }; promised = refused-made a.0 ((refused-exactly text a.0).0 a.1) }
  ]
