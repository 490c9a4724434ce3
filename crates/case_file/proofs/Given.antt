-- A case text gets the refusal of the earliest row that applies to it, and is accepted if there is none.
-- The rows that the reading computes apply exactly where those of the table do, since what is read is what the text says, and it says one thing
-- at most. Of two rows that are first in one table, neither stands before the other, so they are one. An answer is made up of its refusal, which its
-- number tells, and its railway.
-- Assumes nothing.
use Prim.Native.Nat.{ℕ}
use mathlib.Core.Path.{◌≡◌, refl, sym, ◌∙◌, ap}
use mathlib.Core.Logic.{inl, inr}
use mathlib.Core.Bool.{Bool, true, false}
use mathlib.Core.List.Memᴰ
use mathlib.Core.List.{List, [], ◌∷◌, ◌++◌, map, append_assoc}
use mathlib.Core.Option.{Option, none, some}
use native.Mathlib.Omega.{arith}
use lib.Dec.{ltb}
use lib.ListN.{length}
use borrow.Author.Tests.{ltb-true, ltb-false, le-ltb}
use Rattle.laws.specs.Lists.{Every}
use Rattle.laws.proofs.Bools.{clash, some-none, some_one, not-true}
use Rattle.laws.proofs.Lists.{every-none, every_more, map-in, map-append, parted}
use Rattle.railway.specs.declared.Railway.{Railway}
use Rattle.railway.specs.declared.Refusal.{Refusal}
use Rattle.railway.specs.declared.Refusal.TheVariants.{Length, Form}
use Rattle.railway.specs.Refusals.{number, number_given, Row, row, NotApplying, first, FirstOf, FirstRow}
use Rattle.railway.specs.Record.{empty_railway}
use Rattle.railway.proofs.Refusals.{first-is, first-none, none_first, number-one}
use Rattle.case_file.specs.CaseRead.{CaseRead}
use Rattle.railway.specs.CaseAnswer.{CaseAnswer, Accepted, Refused}
use Rattle.case_file.specs.Form.{Description, Describes}
use Rattle.case_file.specs.Rows.{most_bytes, count_row, weight_row, unknown_row, join_row, loose_row, chain_row, double_row, place_row, description_rows, description_table}
use Rattle.case_file.specs.Recording.{railway_of}
use Rattle.case_file.specs.Given.{accepted, refused, railway_given, Says, Applies, case_table, RefusedWith, AcceptedWith, ReaderPost}
use Rattle.case_file.specs.Reading.{read, case_rows, judged, case_answer}
use Rattle.case_file.specs.Claims.{RefusedExactly, AcceptedExactly, ReaderAnswers, AlwaysAnswered}
use Rattle.case_file.proofs.Reading.{read-sound, read-complete, describes-one, form-decided}

-- (Examples is named so that it is checked before: a wrong definition then shows at a computed value.)

-- a computed row applies exactly where the table's does
pub record Agrees (text : List ℕ) (x : Row) : Type 0 where
  pub on : x.applies ≡ true → Applies text x.refusal
  pub off : x.applies ≡ false → Applies text x.refusal → ⊥

module _ (text : List ℕ) where
  length-agrees : Agrees text (row Length (ltb most_bytes (length text)))
  length-agrees = record { on = ltb-true most_bytes (length text); off = λ e h. let l = ltb-false most_bytes (length text) e in omega arith }

  module _ (d : Description) (w : Describes text d) where
    says : (test : Description → Bool) → test d ≡ true → Says text test
    says test e = record { description = d; described = w; passes = e }

    unsaid : (test : Description → Bool) → test d ≡ false → Says text test → ⊥
    unsaid test e s = let z : s.description ≡ d = describes-one text s.description d s.described w in clash (rw z at s.passes) e

    description-agrees : Every (Agrees text) (description_rows d)
    description-agrees =
        every_more (Agrees text) _ _ (record { on = says count_row; off = unsaid count_row })
        (every_more (Agrees text) _ _ (record { on = says weight_row; off = unsaid weight_row })
        (every_more (Agrees text) _ _ (record { on = says unknown_row; off = unsaid unknown_row })
        (every_more (Agrees text) _ _ (record { on = says join_row; off = unsaid join_row })
        (every_more (Agrees text) _ _ (record { on = says loose_row; off = unsaid loose_row })
        (every_more (Agrees text) _ _ (record { on = says chain_row; off = unsaid chain_row })
        (every_more (Agrees text) _ _ (record { on = says double_row; off = unsaid double_row })
        (every_more (Agrees text) _ _ (record { on = says place_row; off = unsaid place_row })
        (every-none (Agrees text)))))))))

  rows_agree : (o : Option Description) → read text ≡ o → Every (Agrees text) (case_rows text o)
  rows_agree none e =
      every_more (Agrees text) _ _ length-agrees
      (every_more (Agrees text) (row Form true) [] (record { on = λ h. (form-decided text).0 e; off = λ h. clash refl h }) (every-none (Agrees text)))
  rows_agree (some d) e =
      let w = read-sound text d e in
      every_more (Agrees text) _ _ length-agrees
      (every_more (Agrees text) (row Form false) (description_rows d) (record { on = λ h. clash h refl; off = λ h f. f d w }) (description-agrees d w))

  -- the computed rows stand in the table's order, where nothing is read as far as row 2
  rest_of : Option Description → List Refusal
  rest_of none = description_table
  rest_of (some d) = []

  in_order : (o : Option Description) → case_table ≡ map (λ x. x.refusal) (case_rows text o) ++ rest_of o
  unfolding rest_of
  in_order none = refl
  in_order (some d) = refl

  order-of : (rows before after : List Row) (f : Refusal) (rest table : List Refusal) → table ≡ map (λ x. x.refusal) rows ++ rest
      → rows ≡ before ++ (row f true ∷ after) → table ≡ map (λ x. x.refusal) before ++ (f ∷ (map (λ x. x.refusal) after ++ rest))
  order-of rows before after f rest table p q =
      p ∙ rw (q, map-append (λ x. x.refusal) before (row f true ∷ after)) (append_assoc (map (λ x. x.refusal) before) (f ∷ map (λ x. x.refusal) after) rest)

  -- the row that is computed is first in the table
  chosen-first : (o : Option Description) (f : Refusal) → read text ≡ o → FirstRow (case_rows text o) f → RefusedWith text f
  chosen-first o f e c =
      let a = rows_agree o e in
      record {
        before = map (λ x. x.refusal) c.before;
        after = map (λ x. x.refusal) c.after ++ rest_of o;
        order = order-of (case_rows text o) c.before c.after f (rest_of o) case_table (in_order o) c.order;
        here = (a (row f true) (rw c.order (Memᴰ.append_right c.before (Memᴰ.head refl)))).on refl;
        not-before = λ g m.
            let t = map-in (λ x. x.refusal) c.before g m in
            rw t.is ((a t.element (rw c.order (Memᴰ.append_left (row f true ∷ c.after) t.member))).off (not-true t.element.applies (c.not-before t.element t.member)));
      }

  -- two rows that are first in a table are one
  first_one : (table : List Refusal) (f g : Refusal) → FirstOf (Applies text) table f → FirstOf (Applies text) table g → f ≡ g
  first_one table f g p q = elim (parted p.before q.before f g p.after q.after (sym p.order ∙ q.order)) [
    | inl e ↦ e
    | inr m ↦ elim m [ inl m ↦ absurd (q.not-before f m p.here) | inr m ↦ absurd (p.not-before g m q.here) ]
  ]

  -- where no computed row applies, no row of the table does
  none-applies : (d : Description) → read text ≡ some d → Every NotApplying (case_rows text (some d)) → Every (λ f. Applies text f → ⊥) case_table
  none-applies d e h f m =
      let t = map-in (λ x. x.refusal) (case_rows text (some d)) f m in
      rw t.is ((rows_agree (some d) e t.element t.member).off (h t.element t.member))

  -- THE ANSWER, by what is read and what is given
  pub data Answered : Type 0 where
    refusing : (f : Refusal) → case_answer text ≡ refused f → RefusedWith text f → Answered
    accepting : (d : Description) → case_answer text ≡ accepted (railway_of d) → read text ≡ some d → Every NotApplying (case_rows text (some d)) → Answered

  by_first : (o : Option Description) (g : Option Refusal) → read text ≡ o → first (case_rows text o) ≡ g → case_answer text ≡ judged o g → Answered
  by_first o (some f) e h a = refusing f a (chosen-first o f e (first-is (case_rows text o) f h))
  by_first none none e h a = clash refl (first-none (case_rows text none) h (row Form true) (Memᴰ.tail (Memᴰ.head refl)))
  by_first (some d) none e h a = accepting d a e (first-none (case_rows text (some d)) h)

  pub answered : Answered
  unfolding case_answer
  answered = by_first (read text) (first (case_rows text (read text))) refl refl refl

  not-both : {A : Type 0} (f : Refusal) (r : Railway) → case_answer text ≡ refused f → case_answer text ≡ accepted r → A
  not-both f r p q = let z : Refused f ≡ Accepted = ap (λ (x : CaseRead). x.answer) (sym p ∙ q) in let z : ◌≡◌ {A = ℕ} 0 1 = cc in absurd (omega arith)

  refused-one : (f g : Refusal) → case_answer text ≡ refused f → case_answer text ≡ refused g → f ≡ g
  refused-one f g p q = let z : Refused f ≡ Refused g = ap (λ (x : CaseRead). x.answer) (sym p ∙ q) in cc

  refused-is : (f : Refusal) → Answered → case_answer text ≡ refused f → RefusedWith text f
  refused-is f (refusing g a w) e = rw (refused-one f g e a) w
  refused-is f (accepting d a e' h) e = not-both f (railway_of d) e a

  is-refused : (f : Refusal) → Answered → RefusedWith text f → case_answer text ≡ refused f
  is-refused f (refusing g a w) v = rw (first_one case_table f g v w) a
  is-refused f (accepting d a e h) v = absurd (none-applies d e h f (rw v.order (Memᴰ.append_right v.before (Memᴰ.head refl))) v.here)

  pub accepted-one : (r q : Railway) → case_answer text ≡ accepted r → case_answer text ≡ accepted q → r ≡ q
  accepted-one r q a b = ap (λ (x : CaseRead). x.railway) (sym a ∙ b)

  accepted-is : (r : Railway) → Answered → case_answer text ≡ accepted r → AcceptedWith text r
  accepted-is r (refusing f a w) e = not-both f r a e
  accepted-is r (accepting d a e' h) e =
      record {
        short = ltb-false most_bytes (length text) (h (row Length (ltb most_bytes (length text))) (Memᴰ.head refl));
        description = d;
        described = read-sound text d e';
        no_row = λ x m. h x (Memᴰ.tail (Memᴰ.tail m));
        railway = accepted-one r (railway_of d) e a;
      }

  is-accepted : (r : Railway) → AcceptedWith text r → case_answer text ≡ accepted r
  unfolding case_answer
  is-accepted r w =
      let d = w.description in
      let off : Every NotApplying (case_rows text (some d)) =
      every_more NotApplying _ _ (le-ltb most_bytes (length text) w.short) (every_more NotApplying (row Form false) (description_rows d) refl w.no_row) in
      rw (read-complete text d w.described, none_first (case_rows text (some d)) off, w.railway)

-- the answer to a text that says something, by its rows
pub answer-of : (text : List ℕ) (d : Description) → Describes text d → case_answer text ≡ judged (some d) (first (case_rows text (some d)))
unfolding case_answer
answer-of text d w = rw (read-complete text d w)

-- GIVEN EXACTLY IF
pub refused-exactly : RefusedExactly
refused-exactly text f = (refused-is text f (answered text), is-refused text f (answered text))

pub accepted-exactly : AcceptedExactly
accepted-exactly text r = (accepted-is text r (answered text), is-accepted text r)

pub always-answered : AlwaysAnswered
always-answered text = elim (answered text) [ refusing f a w ↦ inr (f, a) | accepting d a e h ↦ inl (railway_of d, a) ]

-- THE ANSWER READ OFF
number_in : (x : CaseAnswer) (f : Refusal) → number_given x ≡ some (number f) → x ≡ Refused f
number_in Accepted f e = some-none e refl
number_in (Refused g) f e = ap (λ (h : Refusal). Refused h) (number-one g f (some_one e))

railway-in : (x : CaseAnswer) (q r : Railway) → railway_given x q ≡ some r → (x ≡ Accepted) × (q ≡ r)
railway-in Accepted q r e = (refl, cc)
railway-in (Refused f) q r e = some-none e refl

built : (a : CaseRead) (x : CaseAnswer) (r : Railway) → a.answer ≡ x → a.railway ≡ r → a ≡ record { answer = x; railway = r }
built a x r p q = rw (← p, ← q)

abbrev number_read : CaseRead → Option ℕ
number_read a = number_given a.answer

abbrev railway_read : CaseRead → Option Railway
railway_read a = railway_given a.answer a.railway

module _ (text : List ℕ) where
  number_is : (f : Refusal) → Answered text → number_read (case_answer text) ≡ some (number f) → RefusedWith text f
  number_is f (refusing g a w) e = rw (number-one f g (some_one (sym e ∙ ap number_read a))) w
  number_is f (accepting d a e' h) e = some-none e (ap number_read a)

  read-accepted : (a : CaseRead) (r : Railway) → railway_read a ≡ some r → a ≡ accepted r
  read-accepted a r e = let z = railway-in a.answer a.railway r e in built a Accepted r z.0 z.1

  -- the answer keeps a reader's promise, and what keeps it is the answer
  promised : ReaderPost text (case_answer text)
  promised =
      record {
        numbered = λ f. (number_is f (answered text), λ w. ap number_read (is-refused text f (answered text) w));
        railway = λ r.
            (λ e. accepted-is text r (answered text) (read-accepted (case_answer text) r e), λ w. ap railway_read (is-accepted text r w));
        nothing-beside = λ f w. ap (λ (x : CaseRead). x.railway) (is-refused text f (answered text) w);
      }

  kept : (a : CaseRead) → Answered text → ReaderPost text a → a ≡ case_answer text
  kept a (refusing f e w) p = built a (Refused f) empty_railway (number_in a.answer f ((p.numbered f).1 w)) (p.nothing-beside f w) ∙ sym e
  kept a (accepting d e e' h) p = read-accepted a (railway_of d) ((p.railway (railway_of d)).1 (accepted-is text (railway_of d) (answered text) e)) ∙ sym e

pub reader-answers : ReaderAnswers
reader-answers text a = (λ e. rw e (promised text), kept text a (answered text))
