-- A text that comes piece by piece. What the calls have taken are the lines in front of all that has come (`Standing`), since a call goes on where the
-- last one stopped; at the end bytes are left exactly if a line is refused, and the test follows where none is. In a case that is refused nothing
-- is taken, and the end says so. Tables made fresh answer as tables filled throughout. Assumes nothing.
use mathlib.Core.Path.{◌≡◌, refl, sym, ◌∙◌, ap, subst}
use mathlib.Core.Logic.{◌⊎◌, inl, inr, ◌↔◌}
use mathlib.Core.Bool.{Bool, true, false, not, ◌||◌}
use mathlib.Core.List.{List, [], ◌∷◌, ◌++◌, flatten}
use mathlib.Core.Option.{Option, none, some}
use Prim.Native.Nat.{ℕ, suc, ◌+◌, ◌-◌, ◌≤◌, ◌<◌}
use native.Mathlib.Omega.{arith}
use lib.ListN.{length, length-append, length-drop, get_or, take, drop, drop_of_length-le, length-replicate}
use lib.Seq.{take_all, drop-cons, drop-drop, drop-append-le}
use Rattle.laws.specs.Lists.{any, all}
use Rattle.laws.proofs.Bools.{lt?, clash, some-none}
use Rattle.railway.specs.declared.Railway.{Railway}
use Rattle.railway.specs.CaseAnswer.{CaseAnswer}
use Rattle.railway.specs.declared.Refusal.{Refusal}
use Rattle.railway.specs.declared.Refusal.TheVariants.{PlanForm, PlanFault}
use Rattle.railway.specs.Refusals.{Row, row, first, number_of}
use Rattle.game_tables.specs.Lengths.{entries}
use Rattle.game_tables.specs.Tables.{no_figure, tables_short, case_refusal}
use Rattle.game_tables.proofs.Refusals.{case-then, case-none}
use Rattle.plan.specs.FrontAnswer.{FrontAnswer, Took, Refused as FrontRefused}
use Rattle.plan.specs.TestAnswer.{TestAnswer, Refused}
use Rattle.plan.specs.Checker.{Checking, Left, test_number, freshened, nothing_taken, plan_fails, test_answer, test_plan, call_lines, is_taken}
use Rattle.plan.specs.Several.{lines_of, Front, no_front, front_behind, front_of, front_leaves, take_front, FrontPost}
use Rattle.plan.specs.Promises.{TestPost, FreshPost}
use Rattle.plan.proofs.Fresh.{fresh-length, fresh-made}
use Rattle.plan.proofs.Several.{lines-all, lines-filled}
use Rattle.check_text.specs.Verdict.{check_lines, fresh, check_refusal, check_text, PlanPost}
use Rattle.check_text.specs.Pieces.{has_line_end, bytes_taken, stops, PiecePost, is_left, form_refused, end_rows, EndPost, Coming, nothing_yet, one_more, whole, Decided, PiecesDecide}
use Rattle.check_text.proofs.Calls.{refused-case, AllInFront, SomeInFront, by_front}
use Rattle.check_text.proofs.Fronts.{front_text, nothing-in-front, in-front}
use Rattle.check_text.proofs.Claims.{behind-case, fresh-alike, fresh-enough, promised}

-- THE END, from where the lines in front leave it
module _ (r : Railway) (c : Checking) where
  abbrev fault : Row
  fault = row PlanFault (plan_fails r c c.state)

  pub end_refused : (f : Refusal) → case_refusal r c.figs c.sets ≡ some f → (rest : List ℕ) → test_answer (first (end_rows r c rest)) ≡ Refused f
  end_refused f e rest =
      let given : first (end_rows r c rest) ≡ some f = case-then r c.figs c.sets (row PlanForm (is_left rest || nothing_taken c.state) ∷ fault ∷ []) ∙ rw e in ap test_answer given

  end-tested : test_answer (first (end_rows r c [])) ≡ (test_plan r c).answer
  unfolding test_plan
  end-tested = refl

  pub end-left : case_refusal r c.figs c.sets ≡ none → (b : ℕ) (bs : List ℕ) → test_answer (first (end_rows r c (b ∷ bs))) ≡ Refused PlanForm
  unfolding first
  end-left fine b bs = ap test_answer (behind-case r c.figs c.sets fine (row PlanForm true ∷ fault ∷ []))

-- the call at the end: bytes are left, or none
numbered-so : (o : Option Refusal) → test_number (test_answer o) ≡ number_of o
numbered-so none = refl
numbered-so (some f) = refl

module _ (r : Railway) (c : Checking) where
  end-so : (rest : List ℕ) (a : TestAnswer) → a ≡ test_answer (first (end_rows r c rest)) → EndPost r c rest a
  end-so rest a e = record { answer = e; numbered = ap test_number e ∙ numbered-so (first (end_rows r c rest)) }

  left-by : (b : ℕ) (bs : List ℕ) (o : Option Refusal) → case_refusal r c.figs c.sets ≡ o → form_refused o ≡ test_answer (first (end_rows r c (b ∷ bs)))
  left-by b bs none e = sym (end-left r c e b bs)
  left-by b bs (some f) e = sym (end_refused r c f e (b ∷ bs))

  pub ends-left : (rest : List ℕ) (a : TestAnswer) → 0 < length rest → a ≡ form_refused (case_refusal r c.figs c.sets) → EndPost r c rest a
  ends-left [] a l e = absurd (omega (arith, l))
  ends-left (b ∷ bs) a l e = end-so (b ∷ bs) a (e ∙ left-by b bs (case_refusal r c.figs c.sets) refl)

  pub ends-tested : (rest : List ℕ) (a : TestAnswer) (c' : Checking) → length rest ≤ 0 → TestPost r c a c' → EndPost r c rest a
  ends-tested [] a c' l p = end-so [] a (p.answer ∙ sym (end-tested r c))
  ends-tested (b ∷ bs) a c' l p = absurd (omega (arith, l))

module _ (r : Railway) (c : Checking) (text : List ℕ) (fine : case_refusal r c.figs c.sets ≡ none) where
  abbrev x : Front
  x = front_text r c text

  long : length (flatten (lines_of text)) ≡ length text
  long = ap length (lines-all text)

  some_left : x.bytes < length text → test_answer (first (end_rows r x.checking (drop x.bytes text))) ≡ Refused PlanForm
  some_left l =
      ap (λ (rest : List ℕ). test_answer (first (end_rows r x.checking rest))) (drop-cons text x.bytes 0 l)
      ∙ end-left r x.checking (in-front r c text fine).fine (get_or text x.bytes 0) (drop (suc x.bytes) text)

  end_by : AllInFront r (lines_of text) c ⊎ SomeInFront r (lines_of text) c → test_answer (first (end_rows r x.checking (drop x.bytes text))) ≡ check_lines r (lines_of text) c
  end_by (inl h) =
      ap (λ (rest : List ℕ). test_answer (first (end_rows r x.checking rest))) (drop_of_length-le text {i = x.bytes} (omega (arith, h.bytes, long))) ∙ end-tested r x.checking ∙ sym h.same
  end_by (inr h) = some_left (omega (arith, h.fewer, long)) ∙ sym h.same

  pub end-answer : test_answer (first (end_rows r x.checking (drop x.bytes text))) ≡ check_lines r (lines_of text) c
  end-answer = end_by (by_front r (lines_of text) c fine (lines-filled text))

  line_refused : x.bytes < length text → check_lines r (lines_of text) c ≡ Refused PlanForm
  line_refused l = sym end-answer ∙ some_left l

ended-inside : (n : ℕ) (text : List ℕ) → has_line_end (drop n text) ≡ true → n < length text
unfolding any
ended-inside n text e = elim (lt? n (length text)) [
  | inl l ↦ l
  | inr l ↦ clash (subst (λ (u : List ℕ). has_line_end u ≡ true) (drop_of_length-le text {i = n} l) e) refl
]

-- a whole line that was refused is refused whatever follows
still-refused : (r : Railway) (c : Checking) → case_refusal r c.figs c.sets ≡ none → (text more : List ℕ) → has_line_end (drop (front_text r c text).bytes text) ≡ true
    → check_lines r (lines_of (text ++ more)) c ≡ check_lines r (lines_of text) c
still-refused r c fine text more e =
    let l : (front_text r c text).bytes < length text = ended-inside (front_text r c text).bytes text e in
    let same : (front_text r c (text ++ more)).bytes ≡ (front_text r c text).bytes = ap (λ (y : Front). y.bytes) ((in-front r c text fine).stays e more) in
    line_refused r c (text ++ more) fine (rw (length-append text more) (omega (arith, l, same))) ∙ sym (line_refused r c text fine l)

-- A CALL for what has come, in a case that is refused and in one that is not
module _ (r : Railway) (c : Checking) (rest : List ℕ) where
  front-by : {o : Option Refusal} → case_refusal r c.figs c.sets ≡ o → take_front r c rest ≡ front_leaves c (front_of r (lines_of rest) c) o
  unfolding take_front
  front-by e = ap (front_leaves c (front_of r (lines_of rest) c)) e

module _ {r : Railway} {c : Checking} {rest : List ℕ} {a : FrontAnswer} {c' : Checking} (p : FrontPost r c rest a c') where
  pub piece-refused : {f : Refusal} → a ≡ FrontRefused f → PiecePost r c rest 0 true c'
  piece-refused e = let is = sym e ∙ p.answer in record { bytes = ap bytes_taken is; stop = ap (stops rest) is; checking = p.checking }

  pub piece-taken : {n : ℕ} → a ≡ Took n → (stopped : Bool) → stopped ≡ has_line_end (drop n rest) → PiecePost r c rest n stopped c'
  piece-taken e stopped s = let is = sym e ∙ p.answer in record { bytes = ap bytes_taken is; stop = s ∙ ap (stops rest) is; checking = p.checking }

-- no more is taken than there is
pub piece-within : (r : Railway) (c : Checking) (rest : List ℕ) (n : ℕ) (stopped : Bool) (c' : Checking) → PiecePost r c rest n stopped c' → n ≤ length rest
piece-within r c rest n stopped c' p = go (case_refusal r c.figs c.sets) refl
  where
    go : (o : Option Refusal) → case_refusal r c.figs c.sets ≡ o → n ≤ length rest
    go none e = let is : n ≡ (front_text r c rest).bytes = p.bytes ∙ ap (λ (y : Left FrontAnswer). bytes_taken y.answer) (front-by r c rest e) in omega (arith, is, (in-front r c rest e).within)
    go (some f) e = let is : n ≡ 0 = p.bytes ∙ ap (λ (y : Left FrontAnswer). bytes_taken y.answer) (front-by r c rest e) in omega (arith, is)

-- WHERE THE CALLS STAND when a text has come: behind the lines in front of it
record Standing (r : Railway) (start : Checking) (text : List ℕ) (at : ℕ) (c : Checking) (stopped : Bool) : Type 0 where
  bytes : at ≡ (front_text r start text).bytes
  checking : c ≡ (front_text r start text).checking
  stop : stopped ≡ has_line_end (drop at text)

module _ (r : Railway) (start : Checking) (fine : case_refusal r start.figs start.sets ≡ none) where
  standing-more : (text piece : List ℕ) (at n : ℕ) (c c' : Checking) (before stopped : Bool) → Standing r start text at c before
      → PiecePost r c (drop at (text ++ piece)) n stopped c' → Standing r start (text ++ piece) (at + n) c' stopped
  standing-more text piece at n c c' before stopped w p =
      let x : Front = front_text r start text in
      let h = in-front r start text fine in
      let fine' : case_refusal r c.figs c.sets ≡ none = subst (λ (k : Checking). case_refusal r k.figs k.sets ≡ none) (sym w.checking) h.fine in
      let rest : drop at (text ++ piece) ≡ drop at text ++ piece = drop-append-le at text piece (omega (arith, w.bytes, h.within)) in
      let f : take_front r c (drop at (text ++ piece)) ≡ front_leaves c (front_text r c (drop at (text ++ piece))) none = front-by r c (drop at (text ++ piece)) fine' in
      let on : front_text r start (text ++ piece) ≡ front_behind at (front_text r c (drop at (text ++ piece))) =
      h.onward piece ∙ ap (λ (k : Checking). front_behind x.bytes (front_text r k (drop x.bytes text ++ piece))) (sym w.checking)
      ∙ ap (λ (k : ℕ). front_behind k (front_text r c (drop k text ++ piece))) (sym w.bytes)
      ∙ ap (λ (u : List ℕ). front_behind at (front_text r c u)) (sym rest) in
      let many : n ≡ (front_text r c (drop at (text ++ piece))).bytes = p.bytes ∙ ap (λ (y : Left FrontAnswer). bytes_taken y.answer) f in
      record {
        bytes = ap (λ (k : ℕ). at + k) many ∙ sym (ap (λ (y : Front). y.bytes) on);
        checking = p.checking ∙ ap (λ (y : Left FrontAnswer). y.checking) f ∙ sym (ap (λ (y : Front). y.checking) on);
        stop = p.stop ∙ ap (λ (y : Left FrontAnswer). stops (drop at (text ++ piece)) y.answer) f ∙ ap (λ (k : ℕ). has_line_end (drop k (drop at (text ++ piece)))) (sym many)
            ∙ ap has_line_end (drop-drop n at (text ++ piece));
      }

  standing : (text : List ℕ) (at : ℕ) (c : Checking) (stopped : Bool) → Coming r start text at c stopped → Standing r start text at c stopped
  unfolding any
  standing text at c stopped nothing_yet =
      let e : front_text r start [] ≡ no_front start = nothing-in-front r start in
      record { bytes = sym (ap (λ (y : Front). y.bytes) e); checking = sym (ap (λ (y : Front). y.checking) e); stop = refl }
  standing text at c stopped (one_more before piece at' n c₁ c₂ b₁ b₂ calls p) = standing-more before piece at' n c₁ c₂ b₁ b₂ (standing before at' c₁ b₁ calls) p

-- where the case is refused they stand at the beginning
record Unmoved (start : Checking) (at : ℕ) (c : Checking) : Type 0 where
  bytes : at ≡ 0
  checking : c ≡ start

module _ (r : Railway) (start : Checking) (f : Refusal) (out : case_refusal r start.figs start.sets ≡ some f) where
  unmoved : (text : List ℕ) (at : ℕ) (c : Checking) (stopped : Bool) → Coming r start text at c stopped → Unmoved start at c
  unmoved text at c stopped nothing_yet = record { bytes = refl; checking = refl }
  unmoved text at c stopped (one_more before piece at' n c₁ c₂ b₁ b₂ calls p) =
      let w = unmoved before at' c₁ b₁ calls in
      let out' : case_refusal r c₁.figs c₁.sets ≡ some f = subst (λ (k : Checking). case_refusal r k.figs k.sets ≡ some f) (sym w.checking) out in
      let g : take_front r c₁ (drop at' (before ++ piece)) ≡ front_leaves c₁ (front_text r c₁ (drop at' (before ++ piece))) (some f) = front-by r c₁ (drop at' (before ++ piece)) out' in
      let none_more : n ≡ 0 = p.bytes ∙ ap (λ (y : Left FrontAnswer). bytes_taken y.answer) g in
      record { bytes = omega (arith, w.bytes, none_more); checking = p.checking ∙ ap (λ (y : Left FrontAnswer). y.checking) g ∙ w.checking }

-- TABLES MADE FRESH, as many entries as the programs' have
same_case : (r : Railway) (figs sets figs' sets' : List ℕ) → length figs ≡ length figs' → length sets ≡ length sets' → case_refusal r figs sets ≡ case_refusal r figs' sets'
unfolding case_refusal tables_short
same_case r figs sets figs' sets' e₁ e₂ = rw (e₁, e₂) refl

pub record Made (r : Railway) (start : Checking) : Type 0 where
  pub same : case_refusal r start.figs start.sets ≡ check_refusal r
  pub alike : (ls : List (List ℕ)) → check_lines r ls start ≡ check_lines r ls fresh

module _ (r : Railway) (figs sets : List ℕ) (made : CaseAnswer) (start : Checking) (e₁ : length figs ≡ entries) (e₂ : length sets ≡ entries) (p : FreshPost r figs sets made start) where
  as-fresh : case_refusal r figs sets ≡ check_refusal r
  as-fresh = same_case r figs sets fresh.figs fresh.sets (e₁ ∙ sym (length-replicate {A = ℕ} entries no_figure)) (e₂ ∙ sym (length-replicate {A = ℕ} entries 0))

  made-refused : (f : Refusal) → case_refusal r figs sets ≡ some f → Made r start
  made-refused f e =
      let is : start ≡ freshened r figs sets (some f) = p.checking ∙ ap (freshened r figs sets) e in
      let same : case_refusal r start.figs start.sets ≡ case_refusal r figs sets = ap (λ (c : Checking). case_refusal r c.figs c.sets) is in
      record { same = same ∙ as-fresh; alike = λ ls. refused-case r ls start f (same ∙ e) ∙ sym (refused-case r ls fresh f (sym as-fresh ∙ e)) }

  made-fine : case_refusal r figs sets ≡ none → Made r start
  made-fine e =
      let k = (case-none r figs sets).0 e in
      let is : start ≡ freshened r figs sets none = p.checking ∙ ap (freshened r figs sets) e in
      let l₁ : length start.figs ≡ length figs = ap (λ (c : Checking). length c.figs) is ∙ fresh-length r no_figure figs k.1.figures in
      let l₂ : length start.sets ≡ length sets = ap (λ (c : Checking). length c.sets) is ∙ fresh-length r 0 sets k.1.settings in
      let made' = fresh-made r figs sets made start k.0 k.1.figures k.1.settings p in
      let filled = fresh-enough r (sym as-fresh ∙ e) in
      record { same = same_case r start.figs start.sets figs sets l₁ l₂ ∙ as-fresh; alike = fresh-alike r k.0 start fresh made' filled.1 }

  pub made_so : Made r start
  made_so = go (case_refusal r figs sets) refl
    where
      go : (o : Option Refusal) → case_refusal r figs sets ≡ o → Made r start
      go none e = made-fine e
      go (some f) e = made-refused f e

-- ALL CALLS
opposite : (a b : Bool) → a ≡ not b → (b ≡ true) ↔ (a ≡ false)
opposite a true e = (λ q. e, λ q. refl)
opposite a false e = (λ q. let z : ◌≡◌ {A = ℕ} 0 1 = cc in absurd (omega arith), λ q. let z : ◌≡◌ {A = ℕ} 0 1 = cc in absurd (omega arith))

module _ (r : Railway) (start : Checking) (m : Made r start) (text : List ℕ) (at : ℕ) (c : Checking) (stopped : Bool) (calls : Coming r start text at c stopped) where
  decided-refused : (f : Refusal) → case_refusal r start.figs start.sets ≡ some f → Decided r start text at c stopped
  decided-refused f out =
      let w = unmoved r start f out text at c stopped calls in
      let out' : case_refusal r c.figs c.sets ≡ some f = subst (λ (k : Checking). case_refusal r k.figs k.sets ≡ some f) (sym w.checking) out in
      let all-refused : (t : List ℕ) → check_text r t ≡ Refused f = λ t. refused-case r (lines_of t) fresh f (sym m.same ∙ out) in
      record {
        answer = λ a p. promised r text a (p.answer ∙ end_refused r c f out' (drop at text) ∙ sym (all-refused text));
        soon = λ e. some-none out e;
        final = λ e more. all-refused (text ++ more) ∙ sym (all-refused text);
      }

  decided-fine : case_refusal r start.figs start.sets ≡ none → Decided r start text at c stopped
  decided-fine fine =
      let w = standing r start fine text at c stopped calls in
      let x : Front = front_text r start text in
      let h = in-front r start text fine in
      let behind : has_line_end (drop at text) ≡ has_line_end (drop x.bytes text) = ap (λ (k : ℕ). has_line_end (drop k text)) w.bytes in
      let end : test_answer (first (end_rows r c (drop at text))) ≡ check_text r text =
      ap (λ (k : Checking). test_answer (first (end_rows r k (drop at text)))) w.checking ∙ ap (λ (k : ℕ). test_answer (first (end_rows r x.checking (drop k text)))) w.bytes
      ∙ end-answer r start text fine ∙ m.alike (lines_of text) in
      record {
        answer = λ a p. promised r text a (p.answer ∙ end);
        soon = λ e. opposite (all is_taken (call_lines r (whole (lines_of text)) start).answers) stopped (h.soon ∙ ap not (sym (w.stop ∙ behind)));
        final = λ e more. sym (m.alike (lines_of (text ++ more))) ∙ still-refused r start fine text more (sym behind ∙ sym w.stop ∙ e) ∙ m.alike (lines_of text);
      }

  pub decided : Decided r start text at c stopped
  decided = go (case_refusal r start.figs start.sets) refl
    where
      go : (o : Option Refusal) → case_refusal r start.figs start.sets ≡ o → Decided r start text at c stopped
      go none e = decided-fine e
      go (some f) e = decided-refused f e

pub pieces-decide : PiecesDecide
pieces-decide r figs sets made start e₁ e₂ p text at c stopped calls = decided r start (made_so r figs sets made start e₁ e₂ p) text at c stopped calls

-- in one piece; the bytes behind a place are as many as there are
behind-all : (plan : List ℕ) (n : ℕ) → take (length plan - n) (drop n plan) ≡ drop n plan
behind-all plan n = take_all (length plan - n) (drop n plan) (let l : length (drop n plan) ≡ length plan - n = length-drop n plan in omega (arith, l))

pub one_piece : (r : Railway) (figs sets : List ℕ) (made : CaseAnswer) (start : Checking) → length figs ≡ entries → length sets ≡ entries → FreshPost r figs sets made start
    → (plan : List ℕ) (n : ℕ) (stopped : Bool) (c : Checking) → PiecePost r start plan n stopped c → (a : TestAnswer) → EndPost r c (take (length plan - n) (drop n plan)) a
    → PlanPost r plan a
one_piece r figs sets made start e₁ e₂ p plan n stopped c q a w =
    let z : 0 + n ≡ n = omega arith in
    (pieces-decide r figs sets made start e₁ e₂ p plan (0 + n) c stopped (one_more [] plan 0 n start c false stopped nothing_yet q)).answer a
    (rw z (subst (λ (l : List ℕ). EndPost r c l a) (behind-all plan n) w))
