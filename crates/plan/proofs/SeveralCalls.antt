-- Calls for several lines, one after the other. The emitter's: a call writes lines from its place on, as many as have room, and the lines left are those
-- from the place that it answers, so that what all calls write is all lines from the top. The checker's: a text is cut into the lines of its front and
-- those behind; the plan's are taken one by one, for with each of them the lines taken are in form, and a line more would have had a byte. Assumes nothing.
use mathlib.Core.Path.{◌≡◌, refl, sym, ◌∙◌, ap, subst}
use mathlib.Core.Logic.{inl, inr}
use mathlib.Core.Bool.{Bool, true, false, not}
use mathlib.Core.List.{List, [], ◌∷◌, ◌++◌, flatten, map, append_assoc, append-nil}
use mathlib.Core.Option.{none, some}
use Prim.Native.Nat.{ℕ, zero, suc, ◌+◌, ◌-◌, ◌≤◌}
use native.Mathlib.Omega.{arith}
use lib.Dec.{eqb, leb}
use lib.ListN.{length, take, drop, length-append, length-drop}
use lib.Seq.{take-append_seam, drop-drop}
use borrow.Author.Tests.{leb-true}
use Rattle.laws.specs.Lists.{all, on_first}
use Rattle.laws.proofs.Bools.{bool?, lt?, clash, not-true, and-true}
use Rattle.laws.proofs.Lists.{all-weaken}
use Rattle.text.specs.Text.{tab, line_end, line}
use Rattle.text.specs.Reading.{is_plain}
use Rattle.railway.specs.declared.Railway.{Railway}
use Rattle.railway.specs.CaseAnswer.{CaseAnswer}
use Rattle.railway.specs.Rows.{record_refusal}
use Rattle.game_tables.specs.Tables.{figure_in, case_refusal}
use Rattle.game.specs.Placement.{placements, start_code}
use Rattle.plan.specs.declared.PlanPlace.{PlanPlace}
use Rattle.plan.specs.declared.PlanPlace.TheVariants.{Top}
use Rattle.plan.specs.Emitted.{Line, End}
use Rattle.plan.specs.FrontAnswer.{FrontAnswer, Took}
use Rattle.plan.specs.TestAnswer.{TestAnswer}
use Rattle.plan.specs.LineAnswer.{LineAnswer, Taken, Refused as LineRefused}
use Rattle.plan.specs.Lines.{PlanLine, spell, line_fields}
use Rattle.plan.specs.Text.{plan_lines, plan_texts, plan_text}
use Rattle.plan.specs.Emitter.{is_line, Wrote, leaves}
use Rattle.plan.specs.Several.{Run, no_run, run_behind, run_from, emit_lines, lines_of, Front, no_front, front_behind, front_by, front_of, take_front, FrontPost}
use Rattle.plan.specs.Steps.{ran_whole}
use Rattle.plan.specs.Checker.{Checking, Left, left, take_line}
use Rattle.plan.specs.Checked.{InForm, Passing}
use Rattle.plan.specs.Promises.{TestPost, FreshPost}
use Rattle.plan.specs.Calls.{Writing, EmittingLines, wrote, stopped, FrontCalls, TakingFronts, no_more, one_more}
use Rattle.plan.specs.EndToEnd.{HandedFront, front_text, own_bytes, ends_line, bytes_taken, others_left, PassedFronts}
use Rattle.plan.proofs.Reading.{fields-plain}
use Rattle.plan.proofs.Emitter.{Call, ends, writes, call, from-top}
use Rattle.plan.proofs.Several.{from, run_none, stepped, Stepped, lines_none, lines-some, flatten-first, flatten-none, same_bytes, same_next, filled, lines-all, lines-filled}
use Rattle.plan.proofs.Forms.{form-front}
use Rattle.plan.proofs.Fresh.{fresh-made}
use Rattle.plan.proofs.Checked as C
use Rattle.plan.proofs.Checked.{Holds}

-- THE EMITTER
module _ (r : Railway) (figs sets : List ℕ) (unrefused : case_refusal r figs sets ≡ none) (n : ℕ) (start : figure_in figs (start_code r) ≡ some n) where
  abbrev lines_from : PlanPlace → List (List ℕ)
  lines_from = from r figs sets unrefused n start

  -- a run writes the first of the lines from its place on, and leaves those from its end on
  record Part (place : PlanPlace) (b : List ℕ) (run : Run) : Type 0 where
    lines : List (List ℕ)
    rest : lines_from place ≡ lines ++ lines_from run.next
    bytes : run.bytes ≡ length (flatten lines)
    within : length (flatten lines) ≤ length b
    buffer : run.buffer ≡ flatten lines ++ drop (length (flatten lines)) b

  part_none : (place : PlanPlace) (b : List ℕ) → Part place b (no_run place b)
  part_none place b = record { lines = []; rest = refl; bytes = ap length (sym flatten-none); within = rw flatten-none (omega arith); buffer = rw flatten-none refl }

  part-one : (place next : PlanPlace) (b l : List ℕ) (run : Run) → lines_from place ≡ l ∷ lines_from next
      → length l ≤ length b → Part next (drop (length l) b) run → Part place b (run_behind (length l) l run)
  part-one place next b l run e fits k =
      let f : flatten (l ∷ k.lines) ≡ l ++ flatten k.lines = flatten-first l k.lines in
      let m : length (flatten (l ∷ k.lines)) ≡ length l + length (flatten k.lines) = ap length f ∙ length-append l (flatten k.lines) in
      let d : length (drop (length l) b) ≡ length b - length l = length-drop (length l) b in
      record {
        lines = l ∷ k.lines;
        rest = e ∙ ap (λ (ls : List (List ℕ)). l ∷ ls) k.rest;
        bytes = ap (λ (x : ℕ). length l + x) k.bytes ∙ sym m;
        within = omega (arith, m, d, k.within, fits);
        buffer = ap (λ (x : List ℕ). l ++ x) k.buffer ∙ sym (append_assoc l (flatten k.lines) (drop (length (flatten k.lines)) (drop (length l) b)))
            ∙ (λ i. sym f i ++ (drop-drop (length (flatten k.lines)) (length l) b ∙ ap (λ (j : ℕ). drop j b) (sym m)) i);
      }

  part : (most : ℕ) (place : PlanPlace) (b : List ℕ) → Part place b (run_from r figs sets most place b)
  unfolding run_from
  part zero place b = part_none place b
  part (suc most) place b = go (lines_from place) refl (call r figs sets unrefused n start place b) (part most)
    where
      go : (ls : List (List ℕ)) → lines_from place ≡ ls → Call r figs sets unrefused n start place b ls
          → ((next : PlanPlace) (b : List ℕ) → Part next b (run_from r figs sets most next b)) → Part place b (run_from r figs sets (suc most) place b)
      go [] p (ends e) more = subst (Part place b) (sym (run_none r figs sets (suc most) place b (ap (λ (w : Wrote). is_line w.answer) e))) (part_none place b)
      go (l ∷ ls) p (writes _ next e short) more = elim (lt? (length b) (length l)) [
        | inl h ↦ subst (Part place b) (sym (run_none r figs sets (suc most) place b (short h))) (part_none place b)
        | inr h ↦ (
            let s : Stepped r figs sets unrefused n start place next l b = stepped r figs sets unrefused n start place next l b (e h) in
            subst (Part place b) (sym (s.ran most)) (part-one place next b l (run_from r figs sets most next (drop (length l) b)) p h (more next (drop (length l) b)))
            )
      ]

  -- the lines that a buffer has room for, those written, and those left with the buffer that is left
  fit-rest : (b b' : List ℕ) (ls ms : List (List ℕ)) → length b' ≡ length b → all (λ l. leb (length l) (length b)) (ls ++ ms) ≡ true → all (λ l. leb (length l) (length b')) ms ≡ true
  unfolding all
  fit-rest b b' [] ms e h = rw e h
  fit-rest b b' (l ∷ ls) ms e h = fit-rest b b' ls ms e (and-true (leb (length l) (length b)) (all (λ x. leb (length x) (length b)) (ls ++ ms)) h).1

  flatten-both : (ls ms : List (List ℕ)) → flatten (ls ++ ms) ≡ flatten ls ++ flatten ms
  flatten-both [] ms = rw flatten-none refl
  flatten-both (l ∷ ls) ms =
      flatten-first l (ls ++ ms) ∙ ap (λ (x : List ℕ). l ++ x) (flatten-both ls ms)
      ∙ sym (append_assoc l (flatten ls) (flatten ms)) ∙ ap (λ (x : List ℕ). x ++ flatten ms) (sym (flatten-first l ls))

  abbrev ByLines : List ℕ → List (List ℕ) → Type 0
  ByLines b ls = all (λ l. leb (length l) (length b)) ls ≡ true

  -- A CALL where lines are left writes some
  record Some (place : PlanPlace) (b : List ℕ) (w : Wrote) : Type 0 where
    next : PlanPlace
    lines : List (List ℕ)
    rest : lines_from place ≡ lines ++ lines_from next
    answer : w.answer ≡ Line (length (flatten lines)) next
    buffer : w.buffer ≡ flatten lines ++ drop (length (flatten lines)) b
    as_long : length w.buffer ≡ length b

  some-part : (place : PlanPlace) (b : List ℕ) (run : Run) → Part place b run → Some place b (ran_whole run)
  some-part place b run k =
      record {
        next = run.next;
        lines = k.lines;
        rest = k.rest;
        answer = ap (λ (m : ℕ). Line m run.next) k.bytes;
        buffer = k.buffer;
        as_long = ap length k.buffer ∙ (simp (length-append, length-drop) (omega (arith, k.within)));
      }

  data Several (place : PlanPlace) (b : List ℕ) : List (List ℕ) → Type 0 where
    ended : emit_lines r figs sets place b ≡ leaves End b → Several place b []
    some-lines : (l : List ℕ) (ls : List (List ℕ)) → Some place b (emit_lines r figs sets place b) → Several place b (l ∷ ls)

  several : (place : PlanPlace) (b : List ℕ) → ByLines b (lines_from place) → Several place b (lines_from place)
  unfolding all
  several place b fit = go (lines_from place) (call r figs sets unrefused n start place b) fit
    where
      go : (ls : List (List ℕ)) → Call r figs sets unrefused n start place b ls → ByLines b ls → Several place b ls
      go [] (ends e) fit = ended (sym (lines_none r figs sets place b End e refl))
      go (l ∷ ls) (writes _ next e short) fit =
          let h : length l ≤ length b = leb-true (length l) (length b) (and-true (leb (length l) (length b)) (all (λ x. leb (length x) (length b)) (lines_from next)) fit).0 in
          let s : Stepped r figs sets unrefused n start place next l b = stepped r figs sets unrefused n start place next l b (e h) in
          some-lines l (lines_from next)
          (subst (Some place b) (lines-some r figs sets place next (length l) b s.answer) (some-part place b (run_from r figs sets (length b) place b) (part (length b) place b)))

  abbrev Written : List (List ℕ) → Writing
  Written ls = record { text = flatten ls; last = End }

  -- ALL CALLS
  written_from : (place : PlanPlace) (b : List ℕ) (w : Writing) → EmittingLines r figs sets place b w → ByLines b (lines_from place) → w ≡ Written (lines_from place)
  written_from place b w (wrote _ next m _ b' rest p calls) fit = go (lines_from place) refl (several place b fit) (λ h. written_from next b' rest calls h)
    where
      go : (ls : List (List ℕ)) → lines_from place ≡ ls → Several place b ls → (ByLines b' (lines_from next) → rest ≡ Written (lines_from next))
          → record { text = take m b' ++ rest.text; last = rest.last } ≡ Written ls
      go [] q (ended e) more = clash refl (ap is_line (p.answer ∙ ap (λ (x : Wrote). x.answer) e))
      go (l ∷ ls) q (some-lines _ _ s) more =
          let a : Line m next ≡ Line (length (flatten s.lines)) s.next = p.answer ∙ s.answer in
          let as_many : m ≡ length (flatten s.lines) = same_bytes a in
          let same : next ≡ s.next = same_next a in
          let new : b' ≡ flatten s.lines ++ drop (length (flatten s.lines)) b = p.buffer ∙ s.buffer in
          let t : take m b' ≡ flatten s.lines = rw (as_many, new) (take-append_seam (flatten s.lines) (drop (length (flatten s.lines)) b)) in
          let long : length b' ≡ length b = ap length p.buffer ∙ s.as_long in
          let is : lines_from place ≡ s.lines ++ lines_from next = rw same s.rest in
          let e : rest ≡ Written (lines_from next) = more (fit-rest b b' s.lines (lines_from next) long (subst (ByLines b) is fit)) in
          (λ i. record { text = t i ++ (e i).text; last = (e i).last }) ∙ ap (λ (x : List ℕ). record { text = x; last = End }) (sym (flatten-both s.lines (lines_from next)) ∙ ap flatten (sym is ∙ q))
  written_from place b w (stopped _ a _ b' i p) fit = go (lines_from place) (several place b fit)
    where
      go : (ls : List (List ℕ)) → Several place b ls → record { text = []; last = a } ≡ Written ls
      go [] (ended e) = rw (p.answer, e, flatten-none) refl
      go (l ∷ ls) (some-lines _ _ s) = clash (ap is_line (p.answer ∙ s.answer)) i

  pub writes-plan : (b : List ℕ) (w : Writing) → EmittingLines r figs sets Top b w → ByLines b (plan_texts r figs sets) → w ≡ record { text = plan_text r figs sets; last = End }
  writes-plan b w calls fit = written_from Top b w calls (subst (ByLines b) (sym (from-top r figs sets unrefused n start)) fit) ∙ ap Written (from-top r figs sets unrefused n start)

-- THE LINES OF A TEXT that is made of two: whole lines in front stay what they are
some-line : (b : ℕ) (bs : List ℕ) → lines_of (b ∷ bs) ≡ [] → ⊥
unfolding lines_of
some-line b bs e = elim (bool? (eqb b line_end)) [ inl h ↦ none-not (rw h at e) | inr h ↦ first-not (lines_of bs) (rw h at e) ]
  where
    none-not : {l : List ℕ} {ls : List (List ℕ)} → l ∷ ls ≡ [] → ⊥
    none-not {l} {ls} e = let z : suc (length ls) ≡ 0 = ap length e in absurd (omega (arith, z))

    first-not : (ls : List (List ℕ)) → on_first b ls ≡ [] → ⊥
    first-not [] e = none-not e
    first-not (l ∷ ls) e = none-not e

first-both : (b : ℕ) (ls ms : List (List ℕ)) → (ls ≡ [] → ⊥) → on_first b (ls ++ ms) ≡ on_first b ls ++ ms
first-both b [] ms filled = absurd (filled refl)
first-both b (l ∷ ls) ms filled = refl

end-both : (b : ℕ) (behind : List ℕ) → eqb b line_end ≡ true → lines_of (b ∷ behind) ≡ lines_of (b ∷ []) ++ lines_of behind
unfolding lines_of
end-both b behind e = rw e refl

lines-both : (front behind : List ℕ) → ends_line front ≡ true → lines_of (front ++ behind) ≡ lines_of front ++ lines_of behind
unfolding ends_line lines_of
lines-both [] behind e = refl
lines-both (b ∷ []) behind e = end-both b behind e
lines-both (b ∷ c ∷ bs) behind e = elim (bool? (eqb b line_end)) [
  | inl h ↦ rw h (ap (λ (ls : List (List ℕ)). (b ∷ []) ∷ ls) (lines-both (c ∷ bs) behind e))
  | inr h ↦ rw h (ap (on_first b) (lines-both (c ∷ bs) behind e) ∙ first-both b (lines_of (c ∷ bs)) (lines_of behind) (some-line c bs))
]

-- bytes that end no line stand in front of the first
abbrev goes_onward : ℕ → Bool
goes_onward b = not (eqb b line_end)

lines-behind : (front behind l : List ℕ) (ls : List (List ℕ)) → all goes_onward front ≡ true → lines_of behind ≡ l ∷ ls → lines_of (front ++ behind) ≡ (front ++ l) ∷ ls
unfolding lines_of all
lines-behind [] behind l ls e is = is
lines-behind (b ∷ bs) behind l ls e is =
    let h = and-true (goes_onward b) (all goes_onward bs) e in
    let k : eqb b line_end ≡ false = not-true (eqb b line_end) (λ x. clash (rw x at h).0 refl) in
    rw k (ap (on_first b) (lines-behind bs behind l ls h.1 is))

plain-goes-on : (s : List ℕ) → all is_plain s ≡ true → all goes_onward s ≡ true
unfolding is_plain
plain-goes-on s e = all-weaken is_plain goes_onward (λ b p. (and-true (not (eqb b tab)) (not (eqb b line_end)) p).1) s e

-- A LINE of plain fields is one line of a text
one_line : (fs : List (List ℕ)) (s : List ℕ) → all (all is_plain) fs ≡ true → lines_of (line fs ++ s) ≡ line fs ∷ lines_of s
unfolding line lines_of all
one_line [] s e = refl
one_line (f ∷ []) s e =
    let h = and-true (all is_plain f) true e in
    ap lines_of (append_assoc f (line_end ∷ []) s) ∙ lines-behind f (line_end ∷ s) (line_end ∷ []) (lines_of s) (plain-goes-on f h.0) refl
one_line (f ∷ g ∷ fs) s e =
    let h = and-true (all is_plain f) (all (all is_plain) (g ∷ fs)) e in
    ap lines_of (append_assoc f (tab ∷ line (g ∷ fs)) s)
    ∙ lines-behind f (tab ∷ (line (g ∷ fs) ++ s)) (tab ∷ line (g ∷ fs)) (lines_of s) (plain-goes-on f h.0) (ap (on_first tab) (one_line (g ∷ fs) s h.1))

spelled-lines : (ls : List PlanLine) → lines_of (flatten (map spell ls)) ≡ map spell ls
unfolding lines_of flatten spell
spelled-lines [] = refl
spelled-lines (l ∷ ls) = line-of l (flatten (map spell ls)) ∙ ap (λ (x : List (List ℕ)). spell l ∷ x) (spelled-lines ls)
  where
    line-of : (l : PlanLine) (s : List ℕ) → lines_of (spell l ++ s) ≡ spell l ∷ lines_of s
    line-of l s = one_line (line_fields l) s (fields-plain l)

pub plan-lines : (r : Railway) (figs sets : List ℕ) → lines_of (plan_text r figs sets) ≡ plan_texts r figs sets
unfolding plan_texts
plan-lines r figs sets = spelled-lines (plan_lines r figs sets)

-- THE CHECKER
no-byte-more : (r : Railway) (c : Checking) (ls : List (List ℕ)) → all filled ls ≡ true → (front_of r ls c).bytes ≤ 0 → front_of r ls c ≡ no_front c
unfolding front_of all
no-byte-more r c [] e h = refl
no-byte-more r c (l ∷ ls) e h = go (take_line r c l).answer h
  where
    go : (a : LineAnswer) → (front_by (length l) c (take_line r c l).checking (front_of r ls) a).bytes ≤ 0 → front_by (length l) c (take_line r c l).checking (front_of r ls) a ≡ no_front c
    go Taken h = let k : 1 ≤ length l = leb-true 1 (length l) (and-true (filled l) (all filled ls) e).0 in absurd (omega (arith, h, k))
    go (LineRefused f) h = refl

module _ (r : Railway) (accepted : record_refusal r ≡ none) where
  -- lines with which those taken are in form are taken, and what is taken behind them follows
  record Through (taken ls : List (List ℕ)) (c : Checking) : Type 0 where
    end : Checking
    holds : Holds r accepted (taken ++ ls) end
    front : (behind : List (List ℕ)) → front_of r (ls ++ behind) c ≡ front_behind (length (flatten ls)) (front_of r behind end)

  through : (ls more taken : List (List ℕ)) (c : Checking) → Holds r accepted taken c → InForm r (taken ++ (ls ++ more)) → Through taken ls c
  unfolding front_of flatten
  through [] more taken c k i = record { end = c; holds = subst (λ (ts : List (List ℕ)). Holds r accepted ts c) (sym (append-nil taken)) k; front = λ behind. none-behind (front_of r behind c) }
    where
      none-behind : (x : Front) → x ≡ front_behind 0 x
      none-behind x = let z : 0 + x.bytes ≡ x.bytes = omega arith in λ i. record { bytes = sym z i; checking = x.checking }
  through (l ∷ ls) more taken c k i = go (take_line r c l) refl (C.call r accepted taken l c k) (λ x h. through ls more (taken ++ (l ∷ [])) x h)
    where
      now : InForm r ((taken ++ (l ∷ [])) ++ (ls ++ more))
      now = subst (InForm r) (sym (append_assoc taken (l ∷ []) (ls ++ more))) i

      go : (x : Left LineAnswer) → take_line r c l ≡ x → C.Call r accepted taken l c x
          → ((x : Checking) → Holds r accepted (taken ++ (l ∷ [])) x → InForm r ((taken ++ (l ∷ [])) ++ (ls ++ more)) → Through (taken ++ (l ∷ [])) ls x) → Through taken (l ∷ ls) c
      go x e (C.refused a no-form h) rest = absurd (no-form (form-front r (ls ++ more) taken l now))
      go x e (C.took a j h) rest =
          let t : Through (taken ++ (l ∷ [])) ls x.checking = rest x.checking h now in
          record {
            end = t.end;
            holds = subst (λ (ts : List (List ℕ)). Holds r accepted ts t.end) (append_assoc taken (l ∷ []) ls) t.holds;
            front = λ behind. (ap (λ (w : Left LineAnswer). front_by (length l) c w.checking (front_of r (ls ++ behind)) w.answer) e
                ∙ ap (front_by (length l) c x.checking (front_of r (ls ++ behind))) a
                ∙ ap (front_behind (length l)) (t.front behind)
                ∙ twice (length l) (length (flatten ls)) (front_of r behind t.end)
                ∙ ap (λ (m : ℕ). front_behind m (front_of r behind t.end)) (sym (length-append l (flatten ls))));
          }
        where
          twice : (n m : ℕ) (x : Front) → front_behind n (front_behind m x) ≡ front_behind (n + m) x
          twice n m x = let z : n + (m + x.bytes) ≡ (n + m) + x.bytes = omega arith in λ i. record { bytes = z i; checking = x.checking }

  -- ONE CALL for a text with lines in front with which those taken are in form, of which no more is taken
  front-step : (own other : List ℕ) (more taken : List (List ℕ)) (c c' : Checking) (a : FrontAnswer) → Holds r accepted taken c → ends_line own ≡ true → InForm r (taken ++ (lines_of own ++ more))
      → FrontPost r c (own ++ other) a c' → bytes_taken a ≤ length own → (a ≡ Took (length own)) × Holds r accepted (taken ++ lines_of own) c'
  unfolding take_front
  front-step own other more taken c c' a k whole i p few =
      let t : Through taken (lines_of own) c = through (lines_of own) more taken c k i in
      let is : front_of r (lines_of (own ++ other)) c ≡ front_behind (length own) (front_of r (lines_of other) t.end) =
      ap (λ (ls : List (List ℕ)). front_of r ls c) (lines-both own other whole) ∙ t.front (lines_of other)
      ∙ ap (λ (x : List ℕ). front_behind (length x) (front_of r (lines_of other) t.end)) (lines-all own) in
      let w : take_front r c (own ++ other) ≡ left (Took (length own + (front_of r (lines_of other) t.end).bytes)) (front_of r (lines_of other) t.end).checking =
      by_front (own ++ other) (C.unrefused-holds r accepted taken c k) (front_behind (length own) (front_of r (lines_of other) t.end)) is in
      let answer : a ≡ Took (length own + (front_of r (lines_of other) t.end).bytes) = p.answer ∙ ap (λ (x : Left FrontAnswer). x.answer) w in
      let n : bytes_taken a ≡ length own + (front_of r (lines_of other) t.end).bytes = ap bytes_taken answer in
      let none_more : front_of r (lines_of other) t.end ≡ no_front t.end = no-byte-more r t.end (lines_of other) (lines-filled other) (omega (arith, n, few)) in
      let z : length own + 0 ≡ length own = omega arith in (
        answer ∙ ap (λ (x : Front). Took (length own + x.bytes)) none_more ∙ ap Took z,
        subst (Holds r accepted (taken ++ lines_of own)) (sym (p.checking ∙ ap (λ (x : Left FrontAnswer). x.checking) w ∙ ap (λ (x : Front). x.checking) none_more)) t.holds,
      )
    where
      by_front : (text : List ℕ) → case_refusal r c.figs c.sets ≡ none → (x : Front) → front_of r (lines_of text) c ≡ x → take_front r c text ≡ left (Took x.bytes) x.checking
      by_front text e x q = rw (e, q) refl

  -- ALL CALLS
  record Fronts (taken : List (List ℕ)) (hs : List HandedFront) (u : FrontCalls) : Type 0 where
    answers : u.answers ≡ map (λ h. Took (length h.own)) hs
    holds : Holds r accepted (taken ++ lines_of (own_bytes hs)) u.end

  fronts : (hs : List HandedFront) (taken : List (List ℕ)) (c : Checking) (u : FrontCalls) → Holds r accepted taken c
      → InForm r (taken ++ lines_of (own_bytes hs)) → all (λ h. ends_line h.own) hs ≡ true
      → TakingFronts r c (map front_text hs) u → others_left hs u.answers ≡ true → Fronts taken hs u
  unfolding own_bytes lines_of all others_left
  fronts [] taken c u k i e (no_more _) o = record { answers = refl; holds = subst (λ (ts : List (List ℕ)). Holds r accepted ts c) (sym (append-nil taken)) k }
  fronts (h ∷ hs) taken c u k i e (one_more _ c' a _ _ v p calls) o =
      let f = and-true (ends_line h.own) (all (λ h. ends_line h.own) hs) e in
      let g = and-true (leb (bytes_taken a) (length h.own)) (others_left hs v.answers) o in
      let cut : lines_of (h.own ++ own_bytes hs) ≡ lines_of h.own ++ lines_of (own_bytes hs) = lines-both h.own (own_bytes hs) f.0 in
      let s = front-step h.own h.other (lines_of (own_bytes hs)) taken c c' a k f.0
      (subst (λ (ls : List (List ℕ)). InForm r (taken ++ ls)) cut i) p
      (leb-true (bytes_taken a) (length h.own) g.0) in
      let regroup : (taken ++ lines_of h.own) ++ lines_of (own_bytes hs) ≡ taken ++ lines_of (h.own ++ own_bytes hs) =
      append_assoc taken (lines_of h.own) (lines_of (own_bytes hs)) ∙ ap (λ (ls : List (List ℕ)). taken ++ ls) (sym cut) in
      let x : Fronts (taken ++ lines_of h.own) hs v = fronts hs (taken ++ lines_of h.own) c' v s.1 (subst (InForm r) (sym regroup) i) f.1 calls g.1 in
      record { answers = λ i. s.0 i ∷ x.answers i; holds = subst (λ (ts : List (List ℕ)). Holds r accepted ts v.end) regroup x.holds }

  -- texts that have a passing plan in front
  pub passed-fronts : (figs sets : List ℕ) (made : CaseAnswer) (c : Checking) → placements r ≤ length figs → placements r ≤ length sets → FreshPost r figs sets made c
      → (hs : List HandedFront) (u : FrontCalls) → TakingFronts r c (map front_text hs) u
      → Passing r (lines_of (own_bytes hs)) → all (λ h. ends_line h.own) hs ≡ true
      → others_left hs u.answers ≡ true
      → (test : TestAnswer) (c' : Checking) → TestPost r u.end test c' → PassedFronts hs u.answers test
  passed-fronts figs sets made c lf ls p hs u calls y cut others test c' q =
      let k : Holds r accepted [] c = C.fresh_holds r accepted c (fresh-made r figs sets made c accepted lf ls p) in
      let x = fronts hs [] c u k (record { start = y.start; lines = y.lines; form = y.form; holds = tt }) cut calls others in
      record { taken = x.answers; passes = q.answer ∙ (C.answers r accepted (lines_of (own_bytes hs)) u.end x.holds).passes.1 y }
