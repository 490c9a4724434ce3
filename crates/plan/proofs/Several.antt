-- Several lines a call. The emitter's: what is written so far and what is left from a place on make the whole run, so that a line more is a step of it and
-- a call that writes none ends it. A call that answers and leaves what its definition says keeps its promise. Assumes nothing.
use mathlib.Core.Path.{◌≡◌, refl, sym, ◌∙◌, ap, subst}
use mathlib.Core.Bool.{Bool, true, false}
use mathlib.Core.Logic.{inl, inr}
use mathlib.Core.List.{List, [], ◌∷◌, ◌++◌, flatten, append_assoc}
use mathlib.Core.Option.{Option, none, some}
use Prim.Native.Nat.{ℕ, zero, suc, ◌+◌, ◌-◌, ◌≤◌, ◌<◌}
use native.Mathlib.Omega.{arith}
use lib.Dec.{eqb, leb}
use lib.ListN.{length, get_or, take, drop, length-append, length-take, length-drop, take-append-drop}
use lib.Seq.{take-append_seam, drop-append_seam, drop-drop, take_at, drop_at}
use borrow.Author.Tests.{lt-ltb, le-ltb, le-leb}
use Rattle.laws.specs.Lists.{all, on_first}
use Rattle.laws.proofs.Bools.{bool?, lt?, clash, and-true, and_both}
use Rattle.text.specs.Text.{line_end, line}
use Rattle.railway.specs.declared.Railway.{Railway}
use Rattle.railway.specs.declared.Refusal.TheVariants.{Space}
use Rattle.game_tables.specs.Tables.{no_figure, figure_in, case_refusal}
use Rattle.game.specs.Placement.{start_code}
use Rattle.plan.specs.declared.PlanPlace.{PlanPlace}
use Rattle.plan.specs.declared.PlanPlace.TheVariants.{Top, From}
use Rattle.plan.specs.Emitted.{Emitted, Line, End, NoPlan, Refused}
use Rattle.plan.specs.Lines.{PlanLine, start_line, placement_line, spell, line_fields}
use Rattle.plan.specs.Text.{line_for, plan_text}
use Rattle.plan.specs.Emitter.{number_given, line_given, is_line, Wrote, leaves, next_code, due_for, due, emit_line}
use Rattle.plan.specs.Several.{Run, no_run, run_behind, run_by, run_from, run_wrote, emit_lines, EmitLinesPost, EmitsWhole, lines_of}
use Rattle.plan.specs.Steps.{line_written, due_written, emitted, PutAt, put_so, put_at, Planned, Underway, ran_whole}
use Rattle.plan.proofs.Steps.{emit-steps}
use Rattle.plan.proofs.Numbers.{emit-numbered}
use Rattle.plan.proofs.Emitter.{texts_from, Call, ends, writes, call, from-top}

-- A run and the number of the first call
same_number : (b : List ℕ) (run : Run) (a : Emitted) → number_given (run_wrote b run a).answer ≡ number_given a
same_number b run (Line n next) = refl
same_number b run End = refl
same_number b run NoPlan = refl
same_number b run (Refused f) = refl

-- no line is without a byte
line-some : (fs : List (List ℕ)) → 1 ≤ length (line fs)
unfolding line
line-some [] = omega arith
line-some (f ∷ []) = rw (length-append f (10 ∷ [])) (omega arith)
line-some (f ∷ g ∷ fs) = rw (length-append f (9 ∷ line (g ∷ fs))) (omega arith)

pub spell-some : (l : PlanLine) → 1 ≤ length (spell l)
unfolding spell
spell-some l = line-some (line_fields l)

-- the same answer has the same parts
pub same_bytes : {n m : ℕ} {x y : PlanPlace} → Line n x ≡ Line m y → n ≡ m
same_bytes e = cc

pub same_next : {n m : ℕ} {x y : PlanPlace} → Line n x ≡ Line m y → x ≡ y
same_next e = cc

not_top : {c : ℕ} → From c ≡ Top → ⊥
not_top e = let z : ◌≡◌ {A = ℕ} 0 1 = cc in absurd (omega (arith, z))

module _ (r : Railway) (figs sets : List ℕ) where
  -- WHAT A CALL SAYS that wrote a line
  pub record WroteLine (place next : PlanPlace) (n : ℕ) (b : List ℕ) : Type 0 where
    pub planned : Planned r figs sets
    pub byte : 1 ≤ n
    pub fits : n ≤ length b
    pub below : next ≡ Top → ⊥

  module _ (unrefused : case_refusal r figs sets ≡ none) (place next : PlanPlace) (n : ℕ) (b : List ℕ) where
    by-line : {m : ℕ} (start : figure_in figs (start_code r) ≡ some m) (l : PlanLine) (c : ℕ) → (line_written (spell l) (From c) b).answer ≡ Line n next → WroteLine place next n b
    by-line {m} start l c e = elim (lt? (length b) (length (spell l))) [
      | inl h ↦ let w : line_written (spell l) (From c) b ≡ leaves (Refused Space) b = rw (lt-ltb (length b) (length (spell l)) h) in
          clash (ap is_line e) (ap (λ (x : Wrote). is_line x.answer) w)
      | inr h ↦ let w : line_written (spell l) (From c) b
          ≡ record { answer = Line (length (spell l)) (From c); buffer = spell l ++ drop (length (spell l)) b } =
          rw (le-ltb (length b) (length (spell l)) h) in
          let z : Line (length (spell l)) (From c) ≡ Line n next = sym (ap (λ (x : Wrote). x.answer) w) ∙ e in
          let k = same_bytes z in
          let some = spell-some l in
          record {
            planned = record { unrefused = unrefused; figure = m; start = start };
            byte = omega (arith, k, spell-some l);
            fits = omega (arith, k, h);
            below = λ t. not_top (same_next z ∙ t);
          }
    ]

    pub wrote-line : (emit_line r figs sets place b).answer ≡ Line n next → WroteLine place next n b
    wrote-line e = go (figure_in figs (start_code r)) refl (ap (λ (w : Wrote). w.answer) (sym (emit-steps r figs sets place b unrefused refl)) ∙ e)
      where
        due-line : {m : ℕ} (q : PlanPlace) → figure_in figs (start_code r) ≡ some m → (due_written b (due r figs sets q)).answer ≡ Line n next → WroteLine place next n b
        due-line Top start e = by-line start (start_line (get_or figs (start_code r) no_figure)) 0 e
        due-line (From c) start e = found (next_code r figs c) start e
          where
            found : {m : ℕ} (o : Option ℕ) → figure_in figs (start_code r) ≡ some m → (due_written b (due_for r figs sets o)).answer ≡ Line n next → WroteLine place next n b
            found none start e = clash (ap is_line e) refl
            found (some p) start e = by-line start (placement_line (line_for r figs sets p)) (suc p) e

        go : (o : Option ℕ) → figure_in figs (start_code r) ≡ o → (emitted r figs sets place b none o).answer ≡ Line n next → WroteLine place next n b
        go none s e = clash (ap is_line e) refl
        go (some m) s e = due-line place s e

  pub lines-so : (place : PlanPlace) (old : List ℕ) (w : Wrote) → w ≡ emit_lines r figs sets place old → EmitLinesPost r figs sets place old w.answer w.buffer
  unfolding emit_lines
  lines-so place old w e =
      record {
        answer = ap (λ (x : Wrote). x.answer) e;
        numbered = ap (λ (x : Wrote). number_given x.answer) e
            ∙ same_number old (run_from r figs sets (length old) place old) (emit_line r figs sets place old).answer ∙ emit-numbered r figs sets place old;
        buffer = ap (λ (x : Wrote). x.buffer) e;
      }

  -- the first call writes no line: its answer is the whole call's
  pub first-none : (b : List ℕ) (run : Run) (a : Emitted) → is_line a ≡ false → run_wrote b run a ≡ leaves a b
  first-none b run (Line n next) e = clash refl e
  first-none b run End e = refl
  first-none b run NoPlan e = refl
  first-none b run (Refused f) e = refl

  pub lines_none : (place : PlanPlace) (old : List ℕ) (a : Emitted) → emit_line r figs sets place old ≡ leaves a old → is_line a ≡ false → leaves a old ≡ emit_lines r figs sets place old
  unfolding emit_lines
  lines_none place old a e no_line =
      sym (ap (λ (w : Wrote). run_wrote old (run_from r figs sets (length old) place old) w.answer) e ∙ first-none old (run_from r figs sets (length old) place old) a no_line)

  -- it writes one: the whole run
  pub lines-some : (place next : PlanPlace) (n : ℕ) (old : List ℕ) → (emit_line r figs sets place old).answer ≡ Line n next
      → ran_whole (run_from r figs sets (length old) place old) ≡ emit_lines r figs sets place old
  unfolding emit_lines
  lines-some place next n old e = rw e refl

  -- ONE CALL of a run
  pub run_none : (most : ℕ) (place : PlanPlace) (b : List ℕ) → is_line (emit_line r figs sets place b).answer ≡ false → run_from r figs sets most place b ≡ no_run place b
  unfolding run_from
  run_none zero place b e = refl
  run_none (suc most) place b e = go (emit_line r figs sets place b).answer e
    where
      go : (a : Emitted) → is_line a ≡ false → run_by place b (emit_line r figs sets place b).buffer (run_from r figs sets most) a ≡ no_run place b
      go (Line n next) e = clash refl e
      go End e = refl
      go NoPlan e = refl
      go (Refused f) e = refl

  run-line : (most : ℕ) (place next : PlanPlace) (n : ℕ) (b new : List ℕ) → emit_line r figs sets place b ≡ record { answer = Line n next; buffer = new }
      → run_from r figs sets (suc most) place b ≡ run_behind n (take n new) (run_from r figs sets most next (drop n new))
  unfolding run_from
  run-line most place next n b new e = ap (λ (w : Wrote). run_by place b w.buffer (run_from r figs sets most) w.answer) e

  -- the first line is written
  pub underway-first : (place next : PlanPlace) (n : ℕ) (old new : List ℕ) → emit_line r figs sets place old ≡ record { answer = Line n next; buffer = new }
      → 1 ≤ n → n ≤ length old → length new ≡ length old → Underway r figs sets (run_from r figs sets (length old) place old) next n new
  underway-first place next n old new e byte fits long =
      let k : length old ≡ suc (length old - 1) = omega arith in
      record {
        most = length old - 1;
        enough = omega (arith, long);
        inside = omega (arith, long);
        same = sym (ap (λ (m : ℕ). run_from r figs sets m place old) k ∙ run-line (length old - 1) place next n old new e);
      }

  -- no further line is written
  pub underway-over : (whole : Run) (place : PlanPlace) (at : ℕ) (b : List ℕ) → Underway r figs sets whole place at b → is_line (emit_line r figs sets place (drop at b)).answer ≡ false
      → record { answer = Line at place; buffer = b } ≡ ran_whole whole
  underway-over whole place at b u e =
      let x : run_behind at (take at b) (no_run place (drop at b)) ≡ whole = ap (run_behind at (take at b)) (sym (run_none u.most place (drop at b) e)) ∙ u.same in
      let k : at ≡ at + 0 = omega arith in
      (λ i. record { answer = Line (k i) place; buffer = sym (take-append-drop at b) i }) ∙ ap ran_whole x

  -- one more is
  pub underway-next : (whole : Run) (place next : PlanPlace) (at : ℕ) (b l : List ℕ) → Underway r figs sets whole place at b → 1 ≤ length l → at + length l ≤ length b
      → emit_line r figs sets place (drop at b) ≡ record { answer = Line (length l) next; buffer = l ++ drop (length l) (drop at b) }
      → Underway r figs sets whole next (at + length l) (take at b ++ l ++ drop (at + length l) b)
  underway-next whole place next at b l u byte fits e =
      let k : u.most ≡ suc (u.most - 1) = omega (arith, u.enough) in
      let long : length (take at b ++ l) ≡ at + length l = simp (length-append, length-take) (omega (arith, u.inside)) in
      let here : run_from r figs sets u.most place (drop at b) ≡ run_behind (length l) l (run_from r figs sets (u.most - 1) next (drop (at + length l) b)) =
      ap (λ (m : ℕ). run_from r figs sets m place (drop at b)) k
      ∙ run-line (u.most - 1) place next (length l) (drop at b) (l ++ drop (length l) (drop at b)) e
      ∙ line-of (u.most - 1) (take-append_seam l (drop (length l) (drop at b))) (drop-append_seam l (drop (length l) (drop at b)) ∙ drop-drop (length l) at b) in
      let split : run_behind (at + length l) (take at b ++ l) (run_from r figs sets (u.most - 1) next (drop (at + length l) b)) ≡ whole =
      twice (run_from r figs sets (u.most - 1) next (drop (at + length l) b)) ∙ ap (run_behind at (take at b)) (sym here) ∙ u.same in
      record {
        most = u.most - 1;
        enough = (let z : length (take at b ++ l ++ drop (at + length l) b) ≡ length b = as_long in rw z (omega (arith, u.enough)));
        inside = (let z : length (take at b ++ l ++ drop (at + length l) b) ≡ length b = as_long in rw z (omega arith));
        same = after (u.most - 1) (take_at (take at b ++ l) (drop (at + length l) b) (at + length l) long)
            (drop_at (take at b ++ l) (drop (at + length l) b) (at + length l) long) ∙ split;
      }
    where
      line-of : (m : ℕ) {f g x y : List ℕ} → f ≡ g → x ≡ y → run_behind (length l) f (run_from r figs sets m next x) ≡ run_behind (length l) g (run_from r figs sets m next y)
      line-of m p q = λ i. run_behind (length l) (p i) (run_from r figs sets m next (q i))

      after : (m : ℕ) {f g x y : List ℕ} → f ≡ g → x ≡ y → run_behind (at + length l) f (run_from r figs sets m next x) ≡ run_behind (at + length l) g (run_from r figs sets m next y)
      after m p q = λ i. run_behind (at + length l) (p i) (run_from r figs sets m next (q i))

      twice : (run : Run) → run_behind (at + length l) (take at b ++ l) run ≡ run_behind at (take at b) (run_behind (length l) l run)
      twice run =
          let z : (at + length l) + run.bytes ≡ at + (length l + run.bytes) = omega arith in
          λ i. record { bytes = z i; next = run.next; buffer = append_assoc (take at b) l run.buffer i }

      as_long : length (take at b ++ l ++ drop (at + length l) b) ≡ length b
      as_long = simp (length-append, length-take, length-drop) (omega arith)

  -- THE LINE OF A PLACEMENT, by the room behind the cursor
  module _ (planned : Planned r figs sets) (whole : Run) (c at : ℕ) (b : List ℕ) (u : Underway r figs sets whole (From c) at b) where
    abbrev text_at : ℕ → List ℕ
    text_at p = spell (placement_line (line_for r figs sets p))

    call_at : emit_line r figs sets (From c) (drop at b) ≡ due_written (drop at b) (due_for r figs sets (next_code r figs c))
    call_at = emit-steps r figs sets (From c) (drop at b) planned.unrefused planned.start

    -- none is due
    pub placement-over : next_code r figs c ≡ none → record { answer = Line at (From c); buffer = b } ≡ ran_whole whole
    placement-over e =
        let w : emit_line r figs sets (From c) (drop at b) ≡ leaves End (drop at b) = call_at ∙ rw e in
        underway-over whole (From c) at b u (ap (λ (x : Wrote). is_line x.answer) w)

    module _ (p : ℕ) (is : next_code r figs c ≡ some p) (new : List ℕ) (next : ℕ) (put : put_so new next ≡ put_at (text_at p) b at) where
      due-at : emit_line r figs sets (From c) (drop at b) ≡ line_written (text_at p) (From (suc p)) (drop at b)
      due-at = call_at ∙ rw is

      -- no room for it
      module _ (h : length b < at + length (text_at p)) where
        kept : put_so new next ≡ put_so b at
        kept = put ∙ rw (lt-ltb (length b) (at + length (text_at p)) h)

        short-over : record { answer = Line at (From c); buffer = b } ≡ ran_whole whole
        short-over =
            let k : length (drop at b) < length (text_at p) = rw (length-drop at b) (omega (arith, u.inside)) in
            let w : emit_line r figs sets (From c) (drop at b) ≡ leaves (Refused Space) (drop at b) = due-at ∙ rw (lt-ltb (length (drop at b)) (length (text_at p)) k) in
            underway-over whole (From c) at b u (ap (λ (x : Wrote). is_line x.answer) w)

      -- room
      module _ (h : at + length (text_at p) ≤ length b) where
        stands : put_so new next ≡ put_so (take at b ++ text_at p ++ drop (at + length (text_at p)) b) (at + length (text_at p))
        stands = put ∙ rw (le-ltb (length b) (at + length (text_at p)) h)

        one_on : Underway r figs sets whole (From (suc p)) (at + length (text_at p)) (take at b ++ text_at p ++ drop (at + length (text_at p)) b)
        one_on =
            let k : length (text_at p) ≤ length (drop at b) = rw (length-drop at b) (omega (arith, u.inside)) in
            underway-next whole (From c) (From (suc p)) at b (text_at p) u (spell-some (placement_line (line_for r figs sets p))) h (due-at ∙ rw (le-ltb (length (drop at b)) (length (text_at p)) k))

      -- what the cursor says
      pub placement-full : next ≡ at → record { answer = Line at (From c); buffer = new } ≡ ran_whole whole
      placement-full same = elim (lt? (length b) (at + length (text_at p))) [
        | inl h ↦ ap (λ (x : PutAt). record { answer = Line at (From c); buffer = x.buffer }) (kept h) ∙ short-over h
        | inr h ↦ absurd (omega (arith, same, ap (λ (x : PutAt). x.at) (stands h), spell-some (placement_line (line_for r figs sets p))))
      ]

      pub placement-put : (next ≡ at → ⊥) → Underway r figs sets whole (From (suc p)) next new
      placement-put other = elim (lt? (length b) (at + length (text_at p))) [
        | inl h ↦ absurd (other (ap (λ (x : PutAt). x.at) (kept h)))
        | inr h ↦ subst (λ (x : PutAt). Underway r figs sets whole (From (suc p)) x.at x.buffer) (sym (stands h)) (one_on h)
      ]

-- WHERE THERE IS ROOM all lines from a place on are written
pub flatten-first : (l : List ℕ) (ls : List (List ℕ)) → flatten (l ∷ ls) ≡ l ++ flatten ls
unfolding flatten
flatten-first l ls = refl

pub flatten-none : flatten {A = ℕ} [] ≡ []
unfolding flatten
flatten-none = refl

record Ran (b text : List ℕ) (run : Run) : Type 0 where
  bytes : run.bytes ≡ length text
  buffer : run.buffer ≡ text ++ drop (length text) b

ran-none : (place : PlanPlace) (b : List ℕ) → Ran b (flatten []) (no_run place b)
ran-none place b = rw flatten-none (record { bytes = refl; buffer = refl })

ran-one : (b l text : List ℕ) (run : Run) → Ran (drop (length l) b) text run → Ran b (l ++ text) (run_behind (length l) l run)
ran-one b l text run k =
    let e : length (l ++ text) ≡ length l + length text = length-append l text in
    record {
      bytes = rw (e, k.bytes) refl;
      buffer = ap (λ (x : List ℕ). l ++ x) k.buffer ∙ sym (append_assoc l text (drop (length text) (drop (length l) b)))
          ∙ ap (λ (x : List ℕ). (l ++ text) ++ x) (drop-drop (length text) (length l) b ∙ ap (λ (j : ℕ). drop j b) (sym e));
    }

module _ (r : Railway) (figs sets : List ℕ) (unrefused : case_refusal r figs sets ≡ none) (n : ℕ) (start : figure_in figs (start_code r) ≡ some n) where
  abbrev pub from : PlanPlace → List (List ℕ)
  from = texts_from r figs sets unrefused n start

  -- a line that has room, and the run behind it
  pub record Stepped (place next : PlanPlace) (l b : List ℕ) : Type 0 where
    pub byte : 1 ≤ length l
    pub answer : (emit_line r figs sets place b).answer ≡ Line (length l) next
    pub ran : (most : ℕ) → run_from r figs sets (suc most) place b ≡ run_behind (length l) l (run_from r figs sets most next (drop (length l) b))

  pub stepped : (place next : PlanPlace) (l b : List ℕ) → emit_line r figs sets place b ≡ record { answer = Line (length l) next; buffer = l ++ drop (length l) b } → Stepped place next l b
  stepped place next l b e =
      let a : (emit_line r figs sets place b).answer ≡ Line (length l) next = ap (λ (w : Wrote). w.answer) e in
      record {
        byte = (wrote-line r figs sets unrefused place next (length l) b a).byte;
        answer = a;
        ran = λ most. run-line r figs sets most place next (length l) b (l ++ drop (length l) b) e
            ∙ (λ i. run_behind (length l) (take-append_seam l (drop (length l) b) i) (run_from r figs sets most next (drop-append_seam l (drop (length l) b) i)));
      }

  run-whole : (most : ℕ) (place : PlanPlace) (b : List ℕ) → length b ≤ most → length (flatten (from place)) ≤ length b
      → Ran b (flatten (from place)) (run_from r figs sets most place b)
  run-whole zero place b m room = go (from place) (call r figs sets unrefused n start place b) room
    where
      go : (ls : List (List ℕ)) → Call r figs sets unrefused n start place b ls → length (flatten ls) ≤ length b → Ran b (flatten ls) (run_from r figs sets zero place b)
      go [] (ends e) room = rw (run_none r figs sets zero place b (ap (λ (w : Wrote). is_line w.answer) e)) (ran-none place b)
      go (l ∷ ls) (writes _ next e _) room =
          let k : length (flatten (l ∷ ls)) ≡ length l + length (flatten ls) = ap length (flatten-first l ls) ∙ length-append l (flatten ls) in
          absurd (omega (arith, (stepped place next l b (e (omega (arith, k, room)))).byte, k, room, m))
  run-whole (suc most) place b m room = go (from place) (call r figs sets unrefused n start place b) room (run-whole most)
    where
      go : (ls : List (List ℕ)) → Call r figs sets unrefused n start place b ls → length (flatten ls) ≤ length b
          → ((next : PlanPlace) (b : List ℕ) → length b ≤ most → length (flatten (from next)) ≤ length b → Ran b (flatten (from next)) (run_from r figs sets most next b))
          → Ran b (flatten ls) (run_from r figs sets (suc most) place b)
      go [] (ends e) room more = rw (run_none r figs sets (suc most) place b (ap (λ (w : Wrote). is_line w.answer) e)) (ran-none place b)
      go (l ∷ ls) (writes _ next e _) room more =
          let k : length (flatten (l ∷ from next)) ≡ length l + length (flatten (from next)) = ap length (flatten-first l (from next)) ∙ length-append l (flatten (from next)) in
          let s : Stepped place next l b = stepped place next l b (e (omega (arith, k, room))) in
          let d : length (drop (length l) b) ≡ length b - length l = length-drop (length l) b in
          rw (s.ran most, flatten-first l (from next))
          (ran-one b l (flatten (from next)) (run_from r figs sets most next (drop (length l) b)) (more next (drop (length l) b) (omega (arith, d, s.byte, m)) (omega (arith, d, k, room))))

  -- the first line is always due
  top-line : (b : List ℕ) → length (flatten (from Top)) ≤ length b
      → run_wrote b (run_from r figs sets (length b) Top b) (emit_line r figs sets Top b).answer
      ≡ ran_whole (run_from r figs sets (length b) Top b)
  top-line b room = go (from Top) (call r figs sets unrefused n start Top b) refl room
    where
      go : (ls : List (List ℕ)) → Call r figs sets unrefused n start Top b ls → from Top ≡ ls → length (flatten ls) ≤ length b
          → run_wrote b (run_from r figs sets (length b) Top b) (emit_line r figs sets Top b).answer ≡ ran_whole (run_from r figs sets (length b) Top b)
      go [] (ends e) p room = let z : ◌≡◌ {A = ℕ} (suc (length (texts_at 0))) 0 = ap length p in absurd (omega (arith, z))
        where
          texts_at : ℕ → List (List ℕ)
          texts_at c = from (From c)
      go (l ∷ ls) (writes _ next e _) p room =
          let k : length (flatten (l ∷ ls)) ≡ length l + length (flatten ls) = ap length (flatten-first l ls) ∙ length-append l (flatten ls) in
          let s : Stepped Top next l b = stepped Top next l b (e (omega (arith, k, room))) in
          rw s.answer refl

pub emits-whole : EmitsWhole
unfolding emit_lines
emits-whole r figs sets unrefused n start b room =
    let is = from-top r figs sets unrefused n start in
    let room' : length (flatten (from r figs sets unrefused n start Top)) ≤ length b = rw is room in
    let ran : Ran b (plan_text r figs sets) (run_from r figs sets (length b) Top b) = rw is at (run-whole r figs sets unrefused n start (length b) Top b (omega arith) room') in
    let w = top-line r figs sets unrefused n start b room' in
    record {
      bytes = ap (λ (x : Wrote). line_given x.answer) w ∙ ap some ran.bytes;
      text = ap (λ (x : Wrote). x.buffer) w ∙ ran.buffer;
    }

-- THE LINES OF A TEXT are all of it, and none is empty
abbrev pub filled : List ℕ → Bool
filled l = leb 1 (length l)

on-first : (b : ℕ) (ls : List (List ℕ)) → flatten (on_first b ls) ≡ b ∷ flatten ls
unfolding flatten
on-first b [] = refl
on-first b (l ∷ ls) = refl

first_some : (b : ℕ) (ls : List (List ℕ)) → all filled ls ≡ true → all filled (on_first b ls) ≡ true
unfolding all
first_some b [] e = refl
first_some b (l ∷ ls) e = and_both (leb 1 (suc (length l))) (all filled ls) (le-leb 1 (suc (length l)) (omega arith)) (and-true (filled l) (all filled ls) e).1

pub lines-all : (text : List ℕ) → flatten (lines_of text) ≡ text
unfolding lines_of flatten
lines-all [] = refl
lines-all (b ∷ bs) = elim (bool? (eqb b line_end)) [
  | inl e ↦ rw e (ap (λ (l : List ℕ). b ∷ l) (lines-all bs))
  | inr e ↦ rw e (on-first b (lines_of bs) ∙ ap (λ (l : List ℕ). b ∷ l) (lines-all bs))
]

pub lines-filled : (text : List ℕ) → all filled (lines_of text) ≡ true
unfolding lines_of all
lines-filled [] = refl
lines-filled (b ∷ bs) = elim (bool? (eqb b line_end)) [
  | inl e ↦ rw e (lines-filled bs)
  | inr e ↦ rw e (first_some b (lines_of bs) (lines-filled bs))
]
