-- What follows from the reader's promise: the answer is the one that case_file defines, of which its theorems speak.
-- Assumes nothing.
use mathlib.Core.Path.{◌≡◌, sym, ◌∙◌}
use mathlib.Core.List.{List}
use mathlib.Core.Logic.{inl, inr}
use Prim.Native.Nat.{ℕ}
use Rattle.case_file.specs.CaseRead.{CaseRead}
use Rattle.case_file.specs.Given.{ReaderPost}
use Rattle.case_file.specs.Reading.{case_answer}
use Rattle.case_file.proofs.Given.{accepted-exactly, refused-exactly, always-answered, reader-answers}
use Rattle.case_file.proofs.Recording.{read-as-described}
use Rattle.case_file.proofs.Again.{accepted-again}
use Rattle.case_reader.specs.Claims.{ReaderAccepts, ReaderRefuses, ReaderSettles, ReaderGives, ReaderDescribes}

answer-is : (text : List ℕ) (r : CaseRead) → ReaderPost text r → r ≡ case_answer text
answer-is text r = (reader-answers text r).1

pub reader-accepts : ReaderAccepts
reader-accepts text r p q = let h = answer-is text r p in let e = accepted-exactly text q in (λ x. e.0 (sym h ∙ x), λ w. h ∙ e.1 w)

pub reader-refuses : ReaderRefuses
reader-refuses text r p f = let h = answer-is text r p in let e = refused-exactly text f in (λ x. e.0 (sym h ∙ x), λ w. h ∙ e.1 w)

pub reader-settles : ReaderSettles
reader-settles text r p = let h = answer-is text r p in elim (always-answered text) [ inl a ↦ inl (a.0, h ∙ a.1) | inr a ↦ inr (a.0, h ∙ a.1) ]

pub reader-gives : ReaderGives
reader-gives text r p q e = accepted-again text q (sym (answer-is text r p) ∙ e)

pub reader-describes : ReaderDescribes
reader-describes text r p q e = read-as-described text q (sym (answer-is text r p) ∙ e)
