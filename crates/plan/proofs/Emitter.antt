-- The emitter's calls write the plan's lines, and end. From code c on the plan's lines are those of the placements from c on that have a figure;
-- the lowest of them is written by the next call, and those behind it are the lines from there on. A buffer that is handed on stays as long as it
-- is, so that a line that fitted into the first fits into it later. Assumes nothing.
use mathlib.Core.Path.{◌≡◌, refl, sym, ◌∙◌, ap, subst}
use mathlib.Core.Logic.{inl, inr}
use mathlib.Core.Bool.{true, false}
use mathlib.Core.List.{List, [], ◌∷◌, ◌++◌, map}
use mathlib.Core.Option.{none, some}
use Prim.Native.Nat.{ℕ, zero, suc, ◌≤◌, ◌<◌}
use native.Mathlib.Omega.{arith}
use lib.ListN.{length, get_or, take, drop, length-append, length-drop}
use lib.Seq.{take-append_seam}
use lib.Dec.{leb}
use borrow.Author.Tests.{leb-true, lt-ltb, le-ltb}
use Rattle.laws.specs.Below.{which_below}
use Rattle.laws.specs.Lists.{all}
use Rattle.laws.proofs.Bools.{option?, clash, and-true}
use Rattle.laws.proofs.Which.{from_on, next-none, next-some, from_zero}
use Rattle.railway.specs.declared.Railway.{Railway}
use Rattle.railway.specs.declared.Refusal.TheVariants.{Space}
use Rattle.railway.specs.Rows.{record_refusal}
use Rattle.game.specs.Placement.{placements, start_code}
use Rattle.game_tables.specs.Tables.{no_figure, figure_in, case_refusal}
use Rattle.game_tables.proofs.Refusals.{case-none}
use Rattle.plan.specs.declared.PlanPlace.{PlanPlace}
use Rattle.plan.specs.declared.PlanPlace.TheVariants.{Top, From}
use Rattle.plan.specs.Emitted.{Line, End, NoPlan, Refused}
use Rattle.plan.specs.Lines.{start_line, placement_line, spell}
use Rattle.plan.specs.Text.{has_figure, line_for, plan_lines, plan_texts}
use Rattle.plan.specs.Emitter.{is_line, Wrote, leaves, next_code, due, emit_line}
use Rattle.plan.specs.Steps.{line_written, due_written}
use Rattle.plan.specs.Calls.{Emission, EmittingInto, wrote, stopped, long_enough}
use Rattle.plan.proofs.Steps.{emit-steps}
use Rattle.plan.proofs.Promises.{emits-so}
use Rattle.plan.proofs.Calls.{going_onward, emission}

-- in an accepted case with tables long enough nothing is refused
pub none-refused : (r : Railway) (figs sets : List ℕ) → record_refusal r ≡ none → placements r ≤ length figs → placements r ≤ length sets → case_refusal r figs sets ≡ none
none-refused r figs sets a lf ls = (case-none r figs sets).1 (a, record { figures = lf; settings = ls })

no-buffers : {A : Type 0} (ls : List (List ℕ)) → long_enough ls [] ≡ true → A
unfolding long_enough
no-buffers [] e = clash e refl
no-buffers (l ∷ ls) e = clash e refl

-- what is written where a line fits into the buffer
put-line : (l : List ℕ) (next : PlanPlace) (b : List ℕ) → length l ≤ length b → line_written l next b ≡ record { answer = Line (length l) next; buffer = l ++ drop (length l) b }
put-line l next b h = rw (le-ltb (length b) (length l) h)

-- and where it does not: no line
no_room : (l : List ℕ) (next : PlanPlace) (b : List ℕ) {w : Wrote} → w ≡ line_written l next b → length b < length l → is_line w.answer ≡ false
no_room l next b e h = let k : line_written l next b ≡ leaves (Refused Space) b = rw (lt-ltb (length b) (length l) h) in ap (λ (x : Wrote). is_line x.answer) (e ∙ k)

module _ (r : Railway) (figs sets : List ℕ) (unrefused : case_refusal r figs sets ≡ none) where
  -- none is answered where the start has no figure
  pub emits_none : figure_in figs (start_code r) ≡ none → (place : PlanPlace) (buffer : List ℕ) → emit_line r figs sets place buffer ≡ leaves NoPlan buffer
  emits_none e place buffer = emit-steps r figs sets place buffer unrefused e

  module _ (n : ℕ) (start : figure_in figs (start_code r) ≡ some n) where
    emit-at : (place : PlanPlace) (buffer : List ℕ) → emit_line r figs sets place buffer ≡ due_written buffer (due r figs sets place)
    emit-at place buffer = emit-steps r figs sets place buffer unrefused start

    abbrev text_for : ℕ → List ℕ
    text_for p = spell (placement_line (line_for r figs sets p))

    abbrev texts : ℕ → List (List ℕ)
    texts c = map text_for (which_below (from_on (has_figure figs) c) (placements r))

    abbrev start_text : List ℕ
    start_text = spell (start_line (get_or figs (start_code r) no_figure))

    abbrev Whole : List (List ℕ) → Emission
    Whole ls = record { lines = ls; last = some End }

    -- the lines from a place on
    abbrev pub texts_from : PlanPlace → List (List ℕ)
    texts_from Top = start_text ∷ texts 0
    texts_from (From c) = texts c

    -- A CALL: the end where no lines are left; else the first of them, if it fits into the buffer (and no line, if not), and the others are those from the
    -- next place on
    pub data Call (place : PlanPlace) (b : List ℕ) : List (List ℕ) → Type 0 where
      ends : emit_line r figs sets place b ≡ leaves End b → Call place b []
      writes : (l : List ℕ) (next : PlanPlace) → (length l ≤ length b → emit_line r figs sets place b ≡ record { answer = Line (length l) next; buffer = l ++ drop (length l) b })
          → (length b < length l → is_line (emit_line r figs sets place b).answer ≡ false) → Call place b (l ∷ texts_from next)

    pub call : (place : PlanPlace) (b : List ℕ) → Call place b (texts_from place)
    call Top b = writes start_text (From 0) (λ h. emit-at Top b ∙ put-line start_text (From 0) b h) (λ h. no_room start_text (From 0) b (emit-at Top b) h)
    call (From c) b = elim (option? (next_code r figs c)) [
      | inl x ↦ rw (next-none (from_on (has_figure figs) c) (placements r) x) (ends (emit-at (From c) b ∙ rw x))
      | inr x ↦ (
          let is : emit_line r figs sets (From c) b ≡ line_written (text_for x.0) (From (suc x.0)) b = emit-at (From c) b ∙ rw x.1 in
          rw (next-some (has_figure figs) (placements r) c x.0 x.1)
          (writes (text_for x.0) (From (suc x.0)) (λ h. is ∙ put-line (text_for x.0) (From (suc x.0)) b h) (λ h. no_room (text_for x.0) (From (suc x.0)) b is h))
          )
    ]

    -- ALL CALLS, with a buffer each
    enough : (l : List ℕ) (ls : List (List ℕ)) (b : List ℕ) (bs : List (List ℕ)) → long_enough (l ∷ ls) (b ∷ bs) ≡ true → (length l ≤ length b) × (long_enough ls bs ≡ true)
    unfolding long_enough
    enough l ls b bs e = let h = and-true (leb (length l) (length b)) (long_enough ls bs) e in (leb-true (length l) (length b) h.0, h.1)

    emission-from : (bs : List (List ℕ)) (place : PlanPlace) → long_enough (texts_from place) bs ≡ true → emission r figs sets bs place ≡ Whole (texts_from place)
    unfolding emission
    emission-from [] place e = no-buffers (texts_from place) e
    emission-from (b ∷ bs) place e = go (texts_from place) (call place b) e (emission-from bs)
      where
        go : (ls : List (List ℕ)) → Call place b ls → long_enough ls (b ∷ bs) ≡ true
            → ((next : PlanPlace) → long_enough (texts_from next) bs ≡ true → emission r figs sets bs next ≡ Whole (texts_from next))
            → going_onward (emit_line r figs sets place b).buffer (emit_line r figs sets place b).answer (emission r figs sets bs) ≡ Whole ls
        go [] (ends c) e rest = rw c
        go (l ∷ ls) (writes k next c _) e rest =
            let h = enough l (texts_from next) b bs e in
            rw (c h.0, take-append_seam l (drop (length l) b), rest next h.1)

    -- ALL CALLS, with one buffer: it stays as long as it is, so that the lines to come fit too
    abbrev pub Fit : List ℕ → List (List ℕ) → Type 0
    Fit b ls = all (λ l. leb (length l) (length b)) ls ≡ true

    -- the first line, the buffer after it, and the others with that one
    record Fitting (b l : List ℕ) (ls : List (List ℕ)) : Type 0 where
      here : length l ≤ length b
      there : Fit (l ++ drop (length l) b) ls

    fitting : (b l : List ℕ) (ls : List (List ℕ)) → Fit b (l ∷ ls) → Fitting b l ls
    unfolding all
    fitting b l ls e =
        let h = and-true (leb (length l) (length b)) (all (λ x. leb (length x) (length b)) ls) e in
        let k : length l ≤ length b = leb-true (length l) (length b) h.0 in
        let z : length (l ++ drop (length l) b) ≡ length b = simp (length-append, length-drop) (omega arith) in
        record { here = k; there = rw z h.1 }

    line-then : (n : ℕ) (b' : List ℕ) (rest : Emission) (l : List ℕ) (ls : List (List ℕ)) → take n b' ≡ l
        → rest ≡ Whole ls → record { lines = take n b' ∷ rest.lines; last = rest.last } ≡ Whole (l ∷ ls)
    line-then n b' rest l ls p q = rw (p, q)

    into-from : (place : PlanPlace) (b : List ℕ) (e : Emission) → EmittingInto r figs sets place b e → Fit b (texts_from place) → e ≡ Whole (texts_from place)
    into-from place b e (wrote _ next n _ b' rest p calls) fit = go (texts_from place) (call place b) fit (λ h. into-from next b' rest calls h)
      where
        go : (ls : List (List ℕ)) → Call place b ls → Fit b ls → (Fit b' (texts_from next) → rest ≡ Whole (texts_from next))
            → record { lines = take n b' ∷ rest.lines; last = rest.last } ≡ Whole ls
        go [] (ends c) fit more = clash refl (ap is_line (p.answer ∙ ap (λ (x : Wrote). x.answer) c))
        go (l ∷ ls) (writes _ to c _) fit more =
            let h = fitting b l (texts_from to) fit in
            let w = c h.here in
            let a : Line n next ≡ Line (length l) to = p.answer ∙ ap (λ (x : Wrote). x.answer) w in
            let as_many : n ≡ length l = cc in
            let same : next ≡ to = cc in
            let new : b' ≡ l ++ drop (length l) b = p.buffer ∙ ap (λ (x : Wrote). x.buffer) w in
            line-then n b' rest l (texts_from to) (rw (as_many, new) (take-append_seam l (drop (length l) b))) (rw (new, same) at more h.there)
    into-from place b e (stopped _ a _ b' i p) fit = go (texts_from place) (call place b) fit
      where
        go : (ls : List (List ℕ)) → Call place b ls → Fit b ls → record { lines = []; last = some a } ≡ Whole ls
        go [] (ends c) fit = rw (p.answer, c)
        go (l ∷ ls) (writes _ to c _) fit = clash (ap is_line (p.answer ∙ ap (λ (x : Wrote). x.answer) (c (fitting b l (texts_from to) fit).here))) i

    -- there are such calls: as many as there are lines, and one
    into : (k : ℕ) (place : PlanPlace) (b : List ℕ) → length (texts_from place) < k → Fit b (texts_from place) → EmittingInto r figs sets place b (Whole (texts_from place))
    into zero place b m fit = absurd (omega arith)
    into (suc k) place b m fit = go (texts_from place) (call place b) m fit (into k)
      where
        go : (ls : List (List ℕ)) → Call place b ls → length ls < suc k → Fit b ls
            → ((next : PlanPlace) (b' : List ℕ) → length (texts_from next) < k → Fit b' (texts_from next) → EmittingInto r figs sets next b' (Whole (texts_from next)))
            → EmittingInto r figs sets place b (Whole ls)
        go [] (ends c) m fit more = stopped place End b b refl (emits-so r figs sets place b (leaves End b) (sym c))
        go (l ∷ ls) (writes _ to c _) m fit more =
            let h = fitting b l (texts_from to) fit in
            let b' : List ℕ = l ++ drop (length l) b in
            subst (EmittingInto r figs sets place b)
            (line-then (length l) b' (Whole (texts_from to)) l (texts_from to) (take-append_seam l (drop (length l) b)) refl)
            (wrote place to (length l) b b' (Whole (texts_from to))
            (emits-so r figs sets place b (record { answer = Line (length l) to; buffer = b' }) (sym (c h.here)))
            (more to b' (omega arith) h.there))

    -- THE PLAN'S LINES are those from the top on
    each-text : (xs : List ℕ) → map text_for xs ≡ map spell (map placement_line (map (line_for r figs sets) xs))
    each-text [] = refl
    each-text (x ∷ xs) = ap (λ (ls : List (List ℕ)). text_for x ∷ ls) (each-text xs)

    pub from-top : texts_from Top ≡ plan_texts r figs sets
    unfolding plan_texts plan_lines
    from-top =
        ap (λ (xs : List ℕ). start_text ∷ map text_for xs) (from_zero (has_figure figs) (placements r))
        ∙ ap (λ (ls : List (List ℕ)). start_text ∷ ls) (each-text (which_below (has_figure figs) (placements r)))

    pub emits : (bs : List (List ℕ)) → long_enough (plan_texts r figs sets) bs ≡ true → emission r figs sets bs Top ≡ Whole (plan_texts r figs sets)
    emits bs e = emission-from bs Top (subst (λ (ls : List (List ℕ)). long_enough ls bs ≡ true) (sym from-top) e) ∙ ap Whole from-top

    pub emits-into : (b : List ℕ) (e : Emission) → EmittingInto r figs sets Top b e → Fit b (plan_texts r figs sets) → e ≡ Whole (plan_texts r figs sets)
    emits-into b e calls fit = into-from Top b e calls (subst (Fit b) (sym from-top) fit) ∙ ap Whole from-top

    pub into-whole : (b : List ℕ) → Fit b (plan_texts r figs sets) → EmittingInto r figs sets Top b (Whole (plan_texts r figs sets))
    into-whole b fit =
        subst (λ (ls : List (List ℕ)). EmittingInto r figs sets Top b (Whole ls)) from-top (into (suc (length (texts_from Top))) Top b (omega arith) (subst (Fit b) (sym from-top) fit))
