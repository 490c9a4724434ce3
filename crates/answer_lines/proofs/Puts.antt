-- A text put into a buffer, by whether there is room: it stands there whole, or the buffer is as it was. With room for the longest text that a program may
-- write nothing is refused. Assumes nothing.
use mathlib.Core.Path.{◌≡◌, refl, sym, ◌∙◌, ap, subst}
use mathlib.Core.Logic.{◌⊎◌, inl, inr}
use mathlib.Core.Bool.{Bool}
use mathlib.Core.List.{List, [], ◌∷◌, ◌++◌}
use mathlib.Core.Option.{none, some}
use Prim.Native.Nat.{ℕ, suc, ◌≤◌, ◌<◌}
use native.Mathlib.Omega.{arith}
use lib.ListN.{length, take, drop, replicate, length-append, length-replicate}
use lib.Seq.{take-append_seam, length-take-le}
use borrow.Author.Tests.{lt-ltb, le-ltb}
use Rattle.laws.proofs.Bools.{clash, lt?}
use Rattle.text.specs.Text.{line, bytes}
use Rattle.text.specs.Appending.{Appended}
use Rattle.text.proofs.Appending.{front-bytes}
use Rattle.railway.specs.declared.Refusal.{Refusal}
use Rattle.railway.specs.declared.Refusal.TheVariants.{Space}
use Rattle.railway.specs.Refusals.{row, first}
use Rattle.case_file.specs.Written.{Written, Bytes}
use Rattle.case_file.specs.Written as written
use Rattle.case_file.specs.Rows.{most_bytes}
use Rattle.case_file.specs.Writing.{writer_answer, writer_buffer, written_count}
use Rattle.plan.specs.Text.{is_some}
use Rattle.plan.specs.TestAnswer.{TestAnswer, Pass, Refused}
use Rattle.answer_lines.specs.Lines.{refusal_line, test_line, most_answer_bytes, put_refusal, PutPost, Puts, FrontIs}
use Rattle.answer_lines.specs.Input.{WrittenFor}
use Rattle.answer_lines.proofs.Lines.{refusal-short}

-- THE REFUSAL, by the two lengths
module _ (text old : List ℕ) where
  fits-none : length text ≤ length old → put_refusal text old ≡ none
  unfolding first
  fits-none h = ap (λ (short : Bool). first (row Space short ∷ [])) (le-ltb (length old) (length text) h)

  short-some : length old < length text → put_refusal text old ≡ some Space
  unfolding first
  short-some h = ap (λ (short : Bool). first (row Space short ∷ [])) (lt-ltb (length old) (length text) h)

  -- what a call does keeps the promise
  pub put_refused : length old < length text → PutPost text old (written.Refused Space) old
  put_refused h = let e = short-some h in record { answer = rw e; numbered = rw e; buffer = rw e }

  pub put_written : length text ≤ length old → (new : List ℕ) (n : ℕ) → Appended old 0 text new n → PutPost text old (Bytes (length text)) new
  put_written h new n p = let e = fits-none h in record { answer = rw e; numbered = rw e; buffer = rw e (front-bytes p h) }

  -- and the promise tells what there is
  module _ {w : Written} {new : List ℕ} (p : PutPost text old w new) where
    pub put-fits : length text ≤ length old → (w ≡ Bytes (length text)) × (new ≡ text ++ drop (length text) old)
    put-fits h = let e = fits-none h in (p.answer ∙ ap (writer_answer text) e, p.buffer ∙ ap (writer_buffer text old) e)

    pub put-short : length old < length text → (w ≡ written.Refused Space) × (new ≡ old)
    put-short h = let e = short-some h in (p.answer ∙ ap (writer_answer text) e, p.buffer ∙ ap (writer_buffer text old) e)

-- a text in front of a buffer, and its length
pub front-whole : (text rest : List ℕ) {new : List ℕ} {n : ℕ} → new ≡ text ++ rest → n ≡ length text → FrontIs (λ t. t ≡ text) n new
front-whole text rest stands count =
    record { within = rw stands (rw (length-append text rest) (omega (arith, count))); output = rw (stands, count) (take-append_seam text rest) }

same_count : {n m : ℕ} → some n ≡ some m → n ≡ m
same_count e = cc

abbrev counts : Written → Bool
counts w = is_some (written_count w)

-- a count of bytes is answered only where there is room, and is the text's
module _ {text old new : List ℕ} {w : Written} (n : ℕ) (p : PutPost text old w new) (given : w ≡ Bytes n) where
  put-room : (length old < length text) ⊎ (length text ≤ length old) → length text ≤ length old
  put-room (inl h) = clash refl (ap counts (sym given ∙ (put-short text old p h).0))
  put-room (inr h) = h

  put_whole : FrontIs (λ t. t ≡ text) n new
  put_whole =
      let fits = put-fits text old p (put-room (lt? (length old) (length text))) in
      front-whole text _ fits.1 (same_count (ap written_count (sym given ∙ fits.0)))

-- ALL THAT A PROGRAM WRITES
module _ {Output : List ℕ → Type 0} {most : ℕ} {old new : List ℕ} {w : Written} (p : Puts Output most old w new) where
  pub puts_whole : (n : ℕ) → w ≡ Bytes n → FrontIs Output n new
  puts_whole n e = let h = put_whole n p.put e in record { within = h.within; output = subst Output (sym h.output) p.output }

  -- with room for the longest text none is refused
  pub puts-never : most ≤ length old → (f : Refusal) → w ≡ written.Refused f → {A : Type 0} → A
  puts-never h f e =
      let fits : length p.text ≤ length old = omega (arith, p.short, h) in
      clash (ap counts (put-fits p.text old p.put fits).0) (ap counts e)

-- the same text, for something else
pub puts-map : {P Q : List ℕ → Type 0} {most : ℕ} {old new : List ℕ} {w : Written} → ((text : List ℕ) → P text → Q text) → Puts P most old w new → Puts Q most old w new
puts-map f p = record { text = p.text; output = f p.text p.output; short = p.short; put = p.put }

-- the line of a refusal
pub puts-refusal : {Output : List ℕ → Type 0} {most : ℕ} {old new : List ℕ} {w : Written} (f : Refusal) → most_answer_bytes ≤ most → Output (refusal_line f)
    → PutPost (refusal_line f) old w new → Puts Output most old w new
puts-refusal f enough o p = record { text = refusal_line f; output = o; short = omega (arith, refusal-short f, enough); put = p }

-- A BUFFER OF A CALL'S OWN has its length
pub own-length : (own : List ℕ) (n : ℕ) → own ≡ replicate n 0 → length own ≡ n
own-length own n blank = ap length blank ∙ length-replicate {A = ℕ} n 0

pub own_room : (own : List ℕ) (n : ℕ) → own ≡ replicate n 0 → n ≤ length own
own_room own n blank = omega (arith, own-length own n blank)

-- what came into such a buffer is a case text, and what stands in front of another is written for it
pub written-for : {Output : List ℕ → List ℕ → Type 0} (case text : List ℕ) (came n : ℕ) → length case ≡ suc most_bytes → came ≤ length case
    → FrontIs (Output (take came case)) n text → WrittenFor Output n
written-for case text came n most within w =
    record {
      case = take came case;
      short = omega (arith, length-take-le came case within, most, within);
      text = take n text;
      output = w.output;
      count = sym (length-take-le n text w.within);
    }

pub test_short : (a : TestAnswer) → length (test_line a) ≤ most_answer_bytes
unfolding line bytes
test_short Pass = omega arith
test_short (Refused f) = omega (arith, refusal-short f)
