-- What the statements on the reader are for: facts of its answers, drawn from them alone. Nothing rests on these; they hold the statements fast,
-- for without one, or with a weaker one in its place, its fact is lost. `a` is what a call answers.
-- Assumes nothing.
use mathlib.Core.Path.{◌≡◌, refl, ◌∙◌, ap}
use mathlib.Core.Logic.{◌⊎◌, inl, inr}
use mathlib.Core.List.{List, [], ◌∷◌, Memᴰ}
use mathlib.Core.Option.{none, some}
use Prim.Native.Nat.{ℕ, ◌<◌, ◌≤◌}
use native.Mathlib.Omega.{arith}
use lib.ListN.{length}
use Rattle.laws.proofs.Lists.{every-none, every_more}
use Rattle.text.specs.Text.{bytes}
use Rattle.railway.specs.declared.Side.TheVariants.{Down}
use Rattle.railway.specs.declared.Railway.{Railway}
use Rattle.railway.specs.declared.Refusal.TheVariants.{Length, Form, Weight, Chain, Place}
use Rattle.railway.specs.Refusals.{number_given, first, number_of}
use Rattle.railway.specs.Record.{empty_railway, train_of, weight_of, with_join, with_signal, with_train}
use Rattle.railway.specs.Rows.{record_refusal}
use Rattle.railway.specs.Yards.{head_on}
use Rattle.case_file.specs.CaseRead.{CaseRead}
use Rattle.case_file.specs.Given.{accepted, refused, Applies, ReaderPost}
use Rattle.case_file.specs.YardTexts.{YardText, yard_texts, AllAccepted}
use Rattle.case_file.proofs.Uses.{nothing_said, text_shut_out, shut-out, text_round, round-chain, text_seven, text_with_one, weighing, read-seven, read-with-one, text_zero, text256, weight-zero, weight-256}
use Rattle.case_file.proofs.YardTexts.{yards-accepted}
use Rattle.case_reader.proofs.Claims.{reader-accepts, reader-refuses, reader-settles, reader-gives}

-- THE YARDS. The reader gives of each text in the table the yard that stands beside it; so train 2 of the last one heads down.
each_read : (xs : List YardText) → AllAccepted xs → (x : YardText) → Memᴰ x xs → (a : CaseRead) → ReaderPost (bytes x.text) a → a ≡ accepted x.yard
each_read [] h x x5 a p = elim x5 [ ]
each_read (y ∷ ys) h x (Memᴰ.head e) a p = rw e ((reader-accepts (bytes y.text) a (rw (← e) p) y.yard).1 h.0)
each_read (y ∷ ys) h x (Memᴰ.tail m) a p = each_read ys h.1 x m a p

yards-read : (x : YardText) → Memᴰ x yard_texts → (a : CaseRead) → ReaderPost (bytes x.text) a → a ≡ accepted x.yard
yards-read = each_read yard_texts yards-accepted

head-on-read : (a : CaseRead) → ReaderPost (bytes "H\t2\t0\t2\nJ\t1u\t2d\nG\t1u\nG\t2d\nT\t1\tu\t1\t2\nT\t2\td\t2\t1\n") a → (train_of a.railway 1).heading ≡ Down
unfolding yard_texts train_of with_join with_signal with_train
head-on-read a p =
    let e : a ≡ accepted head_on =
    yards-read _ (Memᴰ.tail (Memᴰ.tail (Memᴰ.tail (Memᴰ.tail (Memᴰ.tail (Memᴰ.tail (Memᴰ.tail (Memᴰ.head refl)))))))) a p in
    ap (λ (x : CaseRead). (train_of x.railway 1).heading) e

-- No text of more than 4,096 bytes is accepted.
short-accepted : (text : List ℕ) (a : CaseRead) → ReaderPost text a → (q : Railway) → a ≡ accepted q → length text ≤ 4096
short-accepted text a p q e = ((reader-accepts text a p q).0 e).short

-- The empty text gets 2, with the empty record beside it.
empty-refused : (a : CaseRead) → ReaderPost [] a → (number_given a.answer ≡ some 2) × (a.railway ≡ empty_railway)
empty-refused a p =
    let e : a ≡ refused Form =
    (reader-refuses [] a p Form).1
    (record {
      before = Length ∷ [];
      after = _;
      order = refl;
      here = nothing_said;
      not-before = every_more (λ f. Applies [] f → ⊥) Length [] (λ h. omega (arith, h)) (every-none (λ f. Applies [] f → ⊥));
    }) in
    (ap (λ (x : CaseRead). number_given x.answer) e, ap (λ (x : CaseRead). x.railway) e)

-- A text whose train starts on a closed section gets 8.
shut-out-refused : (a : CaseRead) → ReaderPost (bytes text_shut_out) a → number_given a.answer ≡ some 8
shut-out-refused a p = ap (λ (x : CaseRead). number_given x.answer) ((reader-refuses (bytes text_shut_out) a p Place).1 shut-out)

-- A text with a round of two points gets 13, though its signal is named twice.
round-refused : (a : CaseRead) → ReaderPost (bytes text_round) a → number_given a.answer ≡ some 13
round-refused a p = ap (λ (x : CaseRead). number_given x.answer) ((reader-refuses (bytes text_round) a p Chain).1 round-chain)

-- A text whose T line ends with 7 is read with that weight, and one whose T line ends with 1 with 1.
seven-read : (a : CaseRead) → ReaderPost (bytes text_seven) a → weight_of a.railway 0 ≡ 7
unfolding weight_of train_of with_train
seven-read a p = ap (λ (x : CaseRead). weight_of x.railway 0) ((reader-accepts (bytes text_seven) a p (weighing 7)).1 read-seven)

one-read : (a : CaseRead) → ReaderPost (bytes text_with_one) a → weight_of a.railway 0 ≡ 1
unfolding weight_of train_of with_train
one-read a p = ap (λ (x : CaseRead). weight_of x.railway 0) ((reader-accepts (bytes text_with_one) a p (weighing 1)).1 read-with-one)

-- A weight of 0 gets 16, and so does one of 256, though the train starts on a section that is not there.
zero-refused : (a : CaseRead) → ReaderPost (bytes text_zero) a → number_given a.answer ≡ some 16
zero-refused a p = ap (λ (x : CaseRead). number_given x.answer) ((reader-refuses (bytes text_zero) a p Weight).1 weight-zero)

above-refused : (a : CaseRead) → ReaderPost (bytes text256) a → number_given a.answer ≡ some 16
above-refused a p = ap (λ (x : CaseRead). number_given x.answer) ((reader-refuses (bytes text256) a p Weight).1 weight-256)

-- A text that is refused with 1 has more than 4,096 bytes.
long-refused : (text : List ℕ) (a : CaseRead) → ReaderPost text a → a ≡ refused Length → 4096 < length text
long-refused text a p e = ((reader-refuses text a p Length).0 e).here

-- Whatever comes in, the record that comes out gets no number, or 3.
record-given : (text : List ℕ) (a : CaseRead) → ReaderPost text a
    → (number_of (record_refusal a.railway) ≡ none) ⊎ (number_of (record_refusal a.railway) ≡ some 3)
unfolding record_refusal first
record-given text a p = elim (reader-settles text a p) [
  | inl h ↦ inl (ap number_of (ap (λ (x : CaseRead). record_refusal x.railway) h.1 ∙ reader-gives text a p h.0 h.1))
  | inr h ↦ inr (ap (λ (x : CaseRead). number_of (record_refusal x.railway)) h.1)
]
