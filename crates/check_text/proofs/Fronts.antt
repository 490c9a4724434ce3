-- The lines in front of a text, when more of it comes: those that were taken have their line ends and stay what they are, so what is taken later is
-- taken behind them; and a whole line that was refused is refused still. Assumes nothing.
use mathlib.Core.Path.{◌≡◌, refl, sym, ◌∙◌, ap, subst}
use mathlib.Core.Logic.{inl, inr}
use mathlib.Core.Bool.{Bool, true, false, not, ◌||◌}
use mathlib.Core.List.{List, [], ◌∷◌, ◌++◌}
use mathlib.Core.Option.{Option, none, some}
use Prim.Native.Nat.{ℕ, zero, suc, ◌+◌, ◌-◌, ◌≤◌, ◌<◌}
use native.Mathlib.Omega.{arith}
use lib.Dec.{eqb}
use lib.ListN.{length, take, drop, length-drop}
use lib.Seq.{drop-length, take-append-le, drop-append-le, drop-drop}
use Rattle.laws.specs.Lists.{any, all}
use Rattle.laws.proofs.Bools.{bool?, clash, either, or_left, or_right, or-false}
use Rattle.text.specs.Text.{tab, line_end, line}
use Rattle.railway.specs.declared.Railway.{Railway}
use Rattle.railway.specs.declared.Refusal.{Refusal}
use Rattle.railway.specs.declared.Refusal.TheVariants.{PlanForm}
use Rattle.game_tables.specs.Tables.{case_refusal}
use Rattle.game_tables.proofs.Refusals.{case-none}
use Rattle.plan.specs.declared.CheckerState.{CheckerState}
use Rattle.plan.specs.declared.CheckerState.TheVariants.{Fresh, Begun}
use Rattle.plan.specs.LineAnswer.{LineAnswer, Taken, Refused}
use Rattle.plan.specs.Lines.{PlanLine, line_fields, spell}
use Rattle.plan.specs.Reading.{read_line}
use Rattle.plan.specs.Checker.{Checking, Left, left, take_line, call_lines, is_taken}
use Rattle.plan.specs.FirstLine.{line_bytes, first_of}
use Rattle.plan.specs.Several.{lines_of, Front, no_front, front_behind, front_of}
use Rattle.plan.specs.Steps.{takes}
use Rattle.plan.proofs.FirstLine.{first-line, line-within, line-not-empty, first-length}
use Rattle.plan.proofs.Steps.{line-steps}
use Rattle.plan_checker.proofs.Fronts.{no_lines, none_left, one-taken, one-refused, behind-twice, zero-behind}
use Rattle.check_text.specs.Pieces.{has_line_end, whole}
use Rattle.check_text.proofs.Calls.{still-fine}
use Rattle.check_text.proofs.Cut.{behind_first, spells}

-- LINE ENDS in a text that is made of two
ended-front : (l s : List ℕ) → has_line_end l ≡ true → has_line_end (l ++ s) ≡ true
unfolding any
ended-front [] s e = clash e refl
ended-front (b ∷ bs) s e = elim (either (eqb b line_end) (has_line_end bs) e) [
  | inl h ↦ or_left (eqb b line_end) (has_line_end (bs ++ s)) h
  | inr h ↦ or_right (eqb b line_end) (has_line_end (bs ++ s)) (ended-front bs s h)
]

ended-behind : (l s : List ℕ) → has_line_end s ≡ true → has_line_end (l ++ s) ≡ true
unfolding any
ended-behind [] s e = e
ended-behind (b ∷ bs) s e = or_right (eqb b line_end) (has_line_end (bs ++ s)) (ended-behind bs s e)

-- a line as it is spelled has its end
line-ends : (fs : List (List ℕ)) → has_line_end (line fs) ≡ true
unfolding line any
line-ends [] = refl
line-ends (f ∷ []) = ended-behind f (line_end ∷ []) refl
line-ends (f ∷ g ∷ fs) = ended-behind f (tab ∷ line (g ∷ fs)) (or_right (eqb tab line_end) (has_line_end (line (g ∷ fs))) (line-ends (g ∷ fs)))

pub spelled-ends : (p : PlanLine) → has_line_end (spell p) ≡ true
unfolding spell
spelled-ends p = line-ends (line_fields p)

-- a text has a line end exactly if its first line has; that line is then the same whatever follows, and else all of the text
first_ended : (t : List ℕ) → has_line_end (first_of t) ≡ has_line_end t
unfolding line_bytes any
first_ended [] = refl
first_ended (b ∷ bs) = elim (bool? (eqb b line_end)) [
  | inl e ↦ let n : line_bytes (b ∷ bs) ≡ 1 = rw e refl in rw n (or_left (eqb b line_end) false e ∙ sym (or_left (eqb b line_end) (has_line_end bs) e))
  | inr e ↦ let n : line_bytes (b ∷ bs) ≡ suc (line_bytes bs) = rw e refl in rw n (ap (λ (x : Bool). eqb b line_end || x) (first_ended bs))
]

first-stays : (t s : List ℕ) → has_line_end t ≡ true → line_bytes (t ++ s) ≡ line_bytes t
unfolding line_bytes any
first-stays [] s e = clash e refl
first-stays (b ∷ bs) s e = elim (bool? (eqb b line_end)) [ inl h ↦ rw h refl | inr h ↦ let k = (rw h at e) in rw h (ap suc (first-stays bs s k)) ]

all_first : (t : List ℕ) → has_line_end t ≡ false → line_bytes t ≡ length t
unfolding line_bytes any
all_first [] e = refl
all_first (b ∷ bs) e = let h = or-false (eqb b line_end) (has_line_end bs) e in rw h.0 (ap suc (all_first bs h.1))

lines_stay : (b : ℕ) (bs s : List ℕ) → has_line_end (b ∷ bs) ≡ true → lines_of ((b ∷ bs) ++ s) ≡ first_of (b ∷ bs) ∷ lines_of (behind_first (b ∷ bs) ++ s)
lines_stay b bs s e =
    let n : line_bytes (b ∷ (bs ++ s)) ≡ line_bytes (b ∷ bs) = first-stays (b ∷ bs) s e in
    let t : take (line_bytes (b ∷ bs)) (b ∷ (bs ++ s)) ≡ first_of (b ∷ bs) = take-append-le (line_bytes (b ∷ bs)) (b ∷ bs) s (line-within (b ∷ bs)) in
    let d : drop (line_bytes (b ∷ bs)) (b ∷ (bs ++ s)) ≡ behind_first (b ∷ bs) ++ s = drop-append-le (line_bytes (b ∷ bs)) (b ∷ bs) s (line-within (b ∷ bs)) in
    first-line b (bs ++ s) ∙ (rw (n, t, d) refl)

-- THE FIRST LINE of a text, in a case that is not refused: taken, and then whole, or refused
abbrev Fine : Railway → Checking → Type 0
Fine r c = case_refusal r c.figs c.sets ≡ none

pub no_line : (r : Railway) (c : Checking) (s : CheckerState) → (takes r c s none).answer ≡ Refused PlanForm
no_line r c Fresh = refl
no_line r c (Begun m from) = refl

taken_not : {A : Type 0} {f : Refusal} → Taken ≡ Refused f → A
taken_not e = clash refl (ap is_taken e)

taken-ended : (r : Railway) (c : Checking) (l : List ℕ) → Fine r c → (take_line r c l).answer ≡ Taken → has_line_end l ≡ true
taken-ended r c l fine e = go (read_line r l) refl
  where
    go : (o : Option PlanLine) → read_line r l ≡ o → has_line_end l ≡ true
    go none q =
        let z : (take_line r c l).answer ≡ Refused PlanForm =
        ap (λ (x : Left LineAnswer). x.answer) (line-steps r c l fine) ∙ ap (λ (o : Option PlanLine). (takes r c c.state o).answer) q ∙ no_line r c c.state in
        taken_not (sym e ∙ z)
    go (some p) q = subst (λ (x : List ℕ). has_line_end x ≡ true) (spells r ((case-none r c.figs c.sets).0 fine).0 c l p q).spelled (spelled-ends p)

data First (r : Railway) (c : Checking) (b : ℕ) (bs : List ℕ) : Type 0 where
  took : (c' : Checking) → take_line r c (first_of (b ∷ bs)) ≡ left Taken c' → has_line_end (b ∷ bs) ≡ true → Fine r c' → First r c b bs
  refused : (f : Refusal) → (take_line r c (first_of (b ∷ bs))).answer ≡ Refused f → First r c b bs

first? : (r : Railway) (c : Checking) → Fine r c → (b : ℕ) (bs : List ℕ) → First r c b bs
first? r c fine b bs = go (take_line r c (first_of (b ∷ bs))).answer refl
  where
    go : (a : LineAnswer) → (take_line r c (first_of (b ∷ bs))).answer ≡ a → First r c b bs
    go (Refused f) e = refused f e
    go Taken e =
        took (take_line r c (first_of (b ∷ bs))).checking (λ i. left (e i) (take_line r c (first_of (b ∷ bs))).checking)
        (sym (first_ended (b ∷ bs)) ∙ taken-ended r c (first_of (b ∷ bs)) fine e) (still-fine r c (first_of (b ∷ bs)) fine)

-- THE LINES IN FRONT of a text
abbrev pub front_text : Railway → Checking → List ℕ → Front
front_text r c t = front_of r (lines_of t) c

pub nothing-in-front : (r : Railway) (c : Checking) → front_text r c [] ≡ no_front c
nothing-in-front r c = ap (λ (ls : List (List ℕ)). front_of r ls c) no_lines ∙ none_left r c

-- What is known of them (`in-front`): they lie within the text; they stay, and the lines in front of what comes behind them follow; so does a whole
-- line that ended them; and they are all whole lines of the text, exactly if none is left behind them.
pub record InFront (r : Railway) (c : Checking) (t : List ℕ) (x : Front) : Type 0 where
  pub within : x.bytes ≤ length t
  pub fine : Fine r x.checking
  pub onward : (s : List ℕ) → front_text r c (t ++ s) ≡ front_behind x.bytes (front_text r x.checking (drop x.bytes t ++ s))
  pub stays : has_line_end (drop x.bytes t) ≡ true → (s : List ℕ) → front_text r c (t ++ s) ≡ x
  pub soon : all is_taken (call_lines r (whole (lines_of t)) c).answers ≡ not (has_line_end (drop x.bytes t))

module _ (r : Railway) (c : Checking) where
  none-in-front : Fine r c → InFront r c [] (no_front c)
  unfolding lines_of whole call_lines all any
  none-in-front fine =
      record {
        within = omega arith;
        fine = fine;
        onward = λ s. sym (zero-behind (front_text r c s));
        stays = λ e s. clash e refl;
        soon = refl;
      }

  module _ (b : ℕ) (bs : List ℕ) where
    abbrev size : ℕ
    size = line_bytes (b ∷ bs)

    abbrev rest : List ℕ
    rest = behind_first (b ∷ bs)

    module _ (c' : Checking) (took : take_line r c (first_of (b ∷ bs)) ≡ left Taken c') (end : has_line_end (b ∷ bs) ≡ true) where
      by_first : (ls : List (List ℕ)) → front_of r (first_of (b ∷ bs) ∷ ls) c ≡ front_behind size (front_of r ls c')
      by_first ls = one-taken r (first_of (b ∷ bs)) ls c c' took ∙ ap (λ (n : ℕ). front_behind n (front_of r ls c')) (first-length (b ∷ bs))

      now-in-front : front_text r c (b ∷ bs) ≡ front_behind size (front_text r c' rest)
      now-in-front = ap (λ (ls : List (List ℕ)). front_of r ls c) (first-line b bs) ∙ by_first (lines_of rest)

      later-in-front : (s : List ℕ) → front_text r c ((b ∷ bs) ++ s) ≡ front_behind size (front_text r c' (rest ++ s))
      later-in-front s = ap (λ (ls : List (List ℕ)). front_of r ls c) (lines_stay b bs s end) ∙ by_first (lines_of (rest ++ s))

      all-taken : all is_taken (call_lines r (whole (lines_of (b ∷ bs))) c).answers ≡ all is_taken (call_lines r (whole (lines_of rest)) c').answers
      unfolding whole call_lines all
      all-taken =
          let e : has_line_end (first_of (b ∷ bs)) ≡ true = first_ended (b ∷ bs) ∙ end in
          rw (first-line b bs, e, took) refl

      first_taken : (x : Front) → InFront r c' rest x → InFront r c (b ∷ bs) (front_behind size x)
      first_taken x h =
          let d : drop x.bytes rest ≡ drop (size + x.bytes) (b ∷ bs) = drop-drop x.bytes size (b ∷ bs) in
          let l : length rest ≡ length (b ∷ bs) - size = length-drop size (b ∷ bs) in
          record {
            within = omega (arith, h.within, l, line-within (b ∷ bs));
            fine = h.fine;
            onward = λ s. later-in-front s ∙ ap (front_behind size) (h.onward s) ∙ behind-twice size x.bytes _
                ∙ ap (λ (u : List ℕ). front_behind (size + x.bytes) (front_text r x.checking (u ++ s))) d;
            stays = λ e s. later-in-front s ∙ ap (front_behind size) (h.stays (subst (λ (u : List ℕ). has_line_end u ≡ true) (sym d) e) s);
            soon = all-taken ∙ h.soon ∙ ap (λ (u : List ℕ). not (has_line_end u)) d;
          }

    module _ (f : Refusal) (is : (take_line r c (first_of (b ∷ bs))).answer ≡ Refused f) where
      none-now : front_text r c (b ∷ bs) ≡ no_front c
      none-now = ap (λ (ls : List (List ℕ)). front_of r ls c) (first-line b bs) ∙ one-refused r (first_of (b ∷ bs)) (lines_of rest) c f is

      none-later : has_line_end (b ∷ bs) ≡ true → (s : List ℕ) → front_text r c ((b ∷ bs) ++ s) ≡ no_front c
      none-later end s = ap (λ (ls : List (List ℕ)). front_of r ls c) (lines_stay b bs s end) ∙ one-refused r (first_of (b ∷ bs)) (lines_of (rest ++ s)) c f is

      not-all : (e : Bool) → has_line_end (b ∷ bs) ≡ e → all is_taken (call_lines r (whole (lines_of (b ∷ bs))) c).answers ≡ not e
      unfolding whole call_lines all
      not-all true h = let e : has_line_end (first_of (b ∷ bs)) ≡ true = first_ended (b ∷ bs) ∙ h in rw (first-line b bs, e, is) refl
      not-all false h =
          let e : has_line_end (first_of (b ∷ bs)) ≡ false = first_ended (b ∷ bs) ∙ h in
          let n : lines_of rest ≡ [] = ap (λ (k : ℕ). lines_of (drop k (b ∷ bs))) (all_first (b ∷ bs) h) ∙ ap lines_of (drop-length (b ∷ bs)) ∙ no_lines in
          rw (first-line b bs, e, n) refl

      first-refused : Fine r c → InFront r c (b ∷ bs) (no_front c)
      first-refused fine =
          record { within = omega arith; fine = fine; onward = λ s. sym (zero-behind (front_text r c ((b ∷ bs) ++ s))); stays = none-later; soon = not-all (has_line_end (b ∷ bs)) refl }

in-front-by : (r : Railway) (k : ℕ) (c : Checking) (t : List ℕ) → length t < k → Fine r c → InFront r c t (front_text r c t)
in-front-by r zero c t few fine = absurd (omega (arith, few))
in-front-by r (suc k) c [] few fine = subst (InFront r c []) (sym (nothing-in-front r c)) (none-in-front r c fine)
in-front-by r (suc k) c (b ∷ bs) few fine = by-line (first? r c fine b bs) (λ c' shorter fine'. in-front-by r k c' (behind_first (b ∷ bs)) (omega (arith, few, shorter)) fine')
  where
    by-line : First r c b bs → ((c' : Checking) → length (behind_first (b ∷ bs)) < length (b ∷ bs) → Fine r c' → InFront r c' (behind_first (b ∷ bs)) (front_text r c' (behind_first (b ∷ bs))))
        → InFront r c (b ∷ bs) (front_text r c (b ∷ bs))
    by-line (refused f e) onward = subst (InFront r c (b ∷ bs)) (sym (none-now r c b bs f e)) (first-refused r c b bs f e fine)
    by-line (took c' e end fine') onward =
        let l : length (behind_first (b ∷ bs)) ≡ length (b ∷ bs) - line_bytes (b ∷ bs) = length-drop (line_bytes (b ∷ bs)) (b ∷ bs) in
        subst (InFront r c (b ∷ bs)) (sym (now-in-front r c b bs c' e end))
        (first_taken r c b bs c' e end (front_text r c' (behind_first (b ∷ bs))) (onward c' (omega (arith, l, line-not-empty b bs)) fine'))

pub in-front : (r : Railway) (c : Checking) (t : List ℕ) → Fine r c → InFront r c t (front_text r c t)
in-front r c t fine = in-front-by r (suc (length t)) c t (omega arith) fine
