-- DEMAND 3, for any solver, emitter and checker that keep their promises. The tables are filled, so they are right for whole plays; the emitter
-- writes their plan; that plan is in form and passes, and lines that the checker refuses leave no trace. Assumes nothing.
use mathlib.Core.Path.{◌≡◌, refl, sym, ◌∙◌, ap, subst}
use mathlib.Core.Bool.{Bool, true, false, not, cond, ◌&&◌, ◌||◌}
use mathlib.Core.List.{List, [], ◌∷◌, ◌++◌, map, append_assoc}
use mathlib.Core.Option.{none, some}
use Prim.Native.Nat.{ℕ, ◌≤◌, ◌<◌}
use native.Mathlib.Omega.{arith}
use lib.ListN.{length}
use lib.Dec.{leb}
use borrow.Author.Tests.{le-leb, leb-true}
use Rattle.laws.specs.Lists.{all}
use Rattle.laws.proofs.Bools.{clash, and-true, and_both}
use Rattle.railway.specs.declared.Railway.{Railway}
use Rattle.railway.specs.CaseAnswer.{CaseAnswer}
use Rattle.railway.specs.Refusals.{number_of}
use Rattle.railway.specs.Rows.{record_refusal}
use Rattle.game.specs.Placement.{placements, start_code}
use Rattle.game_tables.specs.Tables.{figure_in, case_refusal, Filled}
use Rattle.game_tables.specs.Solver.{SolverLeaves}
use Rattle.game_tables.proofs.Plays.{filled-whole}
use Rattle.plan.specs.declared.PlanPlace.TheVariants.{Top}
use Rattle.plan.specs.Emitted.{End, NoPlan}
use Rattle.plan.specs.LineAnswer.{LineAnswer}
use Rattle.plan.specs.TestAnswer.{TestAnswer}
use Rattle.plan.specs.Lines.{PlanLine, spell, fits, most_line_bytes}
use Rattle.plan.specs.Text.{plan_lines, plan_texts, plan_text}
use Rattle.plan.specs.Emitter.{Wrote}
use Rattle.plan.specs.Checker.{Checking, Left, take_line, test_plan, LineCalls, onward, call_lines, is_taken, taken_texts}
use Rattle.plan.specs.Promises.{TestPost, FreshPost}
use Rattle.plan.specs.Several.{lines_of}
use Rattle.plan.specs.Calls.{Emission, EmittingInto, long_enough, Taking, Writing, EmittingLines, FrontCalls, TakingFronts}
use Rattle.plan.specs.Checked.{InForm, Passing}
use Rattle.plan.specs.EndToEnd.{Handed, own_texts, others_refused, Passed, HandedFront, front_text, own_bytes, ends_line, others_left, PassedFronts, EndToEndHolds}
use Rattle.plan.proofs.Lines.{lines-short}
use Rattle.plan.proofs.Calls.{emitting-one, taking-one}
use Rattle.plan.proofs.Emitter.{none-refused, emits, emits-into, emits_none}
use Rattle.plan.proofs.Several.{lines_none}
use Rattle.plan.proofs.Forms.{form-front}
use Rattle.plan.proofs.Fresh.{fresh-made}
use Rattle.plan.proofs.Checked.{Holds, Call, took, refused, call, ran, answers, fresh_holds}
use Rattle.plan.proofs.SeveralCalls.{writes-plan, plan-lines, passed-fronts}
use Rattle.plan.proofs.Text.{plan-fits, plan-passes}

module _ (r : Railway) (accepted : record_refusal r ≡ none) where
  -- a line that fits the case has room in the most bytes
  line-room : (k : ℕ) (l : PlanLine) → fits r l ≡ true → most_line_bytes ≤ k → leb (length (spell l)) k ≡ true
  line-room k l e long = le-leb (length (spell l)) k (omega (arith, lines-short r accepted l e))

  -- buffers with room for every line are long enough
  room : (ls : List PlanLine) (bs : List (List ℕ)) → all (fits r) ls ≡ true
      → all (λ b. leb most_line_bytes (length b)) bs ≡ true → length (map spell ls) < length bs
      → long_enough (map spell ls) bs ≡ true
  unfolding all long_enough
  room [] [] e h m = absurd (omega arith)
  room (l ∷ ls) [] e h m = absurd (omega arith)
  room [] (b ∷ bs) e h m = refl
  room (l ∷ ls) (b ∷ bs) e h m =
      let f = and-true (fits r l) (all (fits r) ls) e in
      let g = and-true (leb most_line_bytes (length b)) (all (λ b. leb most_line_bytes (length b)) bs) h in
      and_both (leb (length (spell l)) (length b)) (long_enough (map spell ls) bs) (line-room (length b) l f.0 (leb-true most_line_bytes (length b) g.0)) (room ls bs f.1 g.1 (omega arith))

  plan-room : (figs sets : List ℕ) (bs : List (List ℕ)) → all (fits r) (plan_lines r figs sets) ≡ true
      → all (λ b. leb most_line_bytes (length b)) bs ≡ true → length (plan_texts r figs sets) < length bs
      → long_enough (plan_texts r figs sets) bs ≡ true
  unfolding plan_texts
  plan-room figs sets bs e h m = room (plan_lines r figs sets) bs e h m

  -- each of the plan's lines fits into one buffer with room for every line
  room-each : (k : ℕ) → most_line_bytes ≤ k → (ls : List PlanLine) → all (fits r) ls ≡ true → all (λ l. leb (length l) k) (map spell ls) ≡ true
  unfolding all
  room-each k long [] e = refl
  room-each k long (l ∷ ls) e =
      let f = and-true (fits r l) (all (fits r) ls) e in
      and_both (leb (length (spell l)) k) (all (λ l. leb (length l) k) (map spell ls)) (line-room k l f.0 long) (room-each k long ls f.1)

  plan-fits-in : (figs sets b : List ℕ) → all (fits r) (plan_lines r figs sets) ≡ true → most_line_bytes ≤ length b → all (λ l. leb (length l) (length b)) (plan_texts r figs sets) ≡ true
  unfolding plan_texts
  plan-fits-in figs sets b e long = room-each (length b) long (plan_lines r figs sets) e

  -- THE CALLS WITH OTHER LINES AMONG THEM: taken are the lines of the plan, and they alone
  record Handled (hs : List Handed) (u : LineCalls) : Type 0 where
    marks : map is_taken u.answers ≡ map (λ h. h.own) hs
    texts : taken_texts u.answers (map (λ h. h.text) hs) ≡ own_texts hs

  abbrev texts_of : List Handed → List (List ℕ)
  texts_of hs = map (λ h. h.text) hs

  module _ (l : List ℕ) (hs : List Handed) (taken : List (List ℕ)) (c : Checking) (k : Holds r accepted taken c) (x : Left LineAnswer)
      (rest : (before : List (List ℕ)) → Holds r accepted before x.checking → InForm r (before ++ own_texts hs) → others_refused hs (call_lines r (texts_of hs) x.checking).answers ≡ true
      → Handled hs (call_lines r (texts_of hs) x.checking)) where
    abbrev after : LineCalls
    after = call_lines r (texts_of hs) x.checking

    handled-step : (own : Bool) → Call r accepted taken l c x
        → InForm r (taken ++ cond own (l ∷ own_texts hs) (own_texts hs))
        → ((own || not (is_taken x.answer)) && others_refused hs after.answers) ≡ true
        → Handled (record { own = own; text = l } ∷ hs) (onward x.answer after)
    unfolding own_texts taken_texts
    handled-step true (took e i h) f o =
        let n = rest (taken ++ (l ∷ [])) h (subst (InForm r) (sym (append_assoc taken (l ∷ []) (own_texts hs))) f) (and-true true (others_refused hs after.answers) o).1 in
        record { marks = rw e (ap (λ (bs : List Bool). true ∷ bs) n.marks); texts = rw e (ap (λ (ls : List (List ℕ)). l ∷ ls) n.texts) }
    handled-step true (refused e i h) f o = absurd (i (form-front r (own_texts hs) taken l (subst (InForm r) (sym (append_assoc taken (l ∷ []) (own_texts hs))) f)))
    handled-step false (took e i h) f o =
        let n = (and-true (not (is_taken x.answer)) (others_refused hs after.answers) o).0 in
        clash (rw e at n) refl
    handled-step false (refused e i h) f o =
        let n = rest taken (subst (Holds r accepted taken) (sym h) k) f (and-true (not (is_taken x.answer)) (others_refused hs after.answers) o).1 in
        record { marks = rw e (ap (λ (bs : List Bool). false ∷ bs) n.marks); texts = rw e n.texts }

  handled : (hs : List Handed) (taken : List (List ℕ)) (c : Checking) → Holds r accepted taken c
      → InForm r (taken ++ own_texts hs) → others_refused hs (call_lines r (texts_of hs) c).answers ≡ true
      → Handled hs (call_lines r (texts_of hs) c)
  unfolding call_lines own_texts others_refused taken_texts
  handled [] taken c k i e = record { marks = refl; texts = refl }
  handled (h ∷ hs) taken c k i e =
      handled-step h.text hs taken c k (take_line r c h.text) (λ before k i e. handled hs before (take_line r c h.text).checking k i e) h.own (call r accepted taken h.text c k) i e

  -- any texts in form that pass, with any refused texts among them
  passed : (hs : List Handed) (c : Checking) → Holds r accepted [] c → Passing r (own_texts hs) → others_refused hs (call_lines r (texts_of hs) c).answers ≡ true
      → Passed hs (call_lines r (texts_of hs) c).answers (test_plan r (call_lines r (texts_of hs) c).end).answer
  passed hs c k p e =
      let u : LineCalls = call_lines r (texts_of hs) c in
      let n = handled hs [] c k (record { start = p.start; lines = p.lines; form = p.form; holds = tt }) e in
      let h : Holds r accepted (own_texts hs) u.end = subst (λ (ls : List (List ℕ)). Holds r accepted ls u.end) n.texts (ran r accepted (texts_of hs) [] c k).holds in
      record { taken = n.marks; passes = (answers r accepted (own_texts hs) u.end h).passes.1 p }

  -- the same of any calls that keep their promises
  passed-calls : (figs sets : List ℕ) (made : CaseAnswer) (c : Checking) → placements r ≤ length figs → placements r ≤ length sets → FreshPost r figs sets made c
      → (hs : List Handed) (u : LineCalls) → Taking r c (texts_of hs) u → Passing r (own_texts hs) → others_refused hs u.answers ≡ true
      → (test : TestAnswer) (c' : Checking) → TestPost r u.end test c' → Passed hs u.answers test
  passed-calls figs sets made c lf ls p hs u t y e test c' q =
      let s : u ≡ call_lines r (texts_of hs) c = taking-one r c (texts_of hs) u t in
      let k : Holds r accepted [] c = fresh_holds r accepted c (fresh-made r figs sets made c accepted lf ls p) in
      let x = passed hs c k y (rw s at e) in
      rw s (record { taken = x.taken; passes = q.answer ∙ ap (λ (v : LineCalls). (test_plan r v.end).answer) s ∙ x.passes })

-- tables that are filled, and with them a start that has a figure
module _ (r : Railway) (accepted : record_refusal r ≡ none) (figs sets : List ℕ) (filled : Filled r figs sets) (unrefused : case_refusal r figs sets ≡ none)
    (n : ℕ) (start : figure_in figs (start_code r) ≡ some n) where
  into-plan : (buffer : List ℕ) (e : Emission) → EmittingInto r figs sets Top buffer e → most_line_bytes ≤ length buffer → e ≡ record { lines = plan_texts r figs sets; last = some End }
  into-plan buffer e calls long = emits-into r figs sets unrefused n start buffer e calls (plan-fits-in r accepted figs sets buffer (plan-fits r accepted figs sets filled n start) long)

  checks-plan : (lent₁ lent₂ : List ℕ) (made : CaseAnswer) (c : Checking) → placements r ≤ length lent₁ → placements r ≤ length lent₂ → FreshPost r lent₁ lent₂ made c
      → (hs : List Handed) (u : LineCalls) → Taking r c (map (λ h. h.text) hs) u → own_texts hs ≡ plan_texts r figs sets → others_refused hs u.answers ≡ true
      → (test : TestAnswer) (c' : Checking) → TestPost r u.end test c' → Passed hs u.answers test
  checks-plan lent₁ lent₂ made c i j fresh hs u calls own others test c' p =
      passed-calls r accepted lent₁ lent₂ made c i j fresh hs u calls (subst (Passing r) (sym own) (plan-passes r accepted figs sets filled n start)) others test c' p

  -- several lines a call
  lines-plan : (buffer : List ℕ) (w : Writing) → EmittingLines r figs sets Top buffer w → most_line_bytes ≤ length buffer → w ≡ record { text = plan_text r figs sets; last = End }
  lines-plan buffer w calls long = writes-plan r figs sets unrefused n start buffer w calls (plan-fits-in r accepted figs sets buffer (plan-fits r accepted figs sets filled n start) long)

  fronts-plan : (lent₁ lent₂ : List ℕ) (made : CaseAnswer) (c : Checking) → placements r ≤ length lent₁ → placements r ≤ length lent₂ → FreshPost r lent₁ lent₂ made c
      → (hs : List HandedFront) (u : FrontCalls) → TakingFronts r c (map front_text hs) u → own_bytes hs ≡ plan_text r figs sets → all (λ h. ends_line h.own) hs ≡ true
      → others_left hs u.answers ≡ true → (test : TestAnswer) (c' : Checking) → TestPost r u.end test c' → PassedFronts hs u.answers test
  fronts-plan lent₁ lent₂ made c i j fresh hs u calls own cut others test c' p =
      let lines : lines_of (own_bytes hs) ≡ plan_texts r figs sets = ap lines_of own ∙ plan-lines r figs sets in
      passed-fronts r accepted lent₁ lent₂ made c i j fresh hs u calls (subst (Passing r) (sym lines) (plan-passes r accepted figs sets filled n start)) cut others test c' p

pub end-to-end-holds : EndToEndHolds
end-to-end-holds r a figs sets figs' sets' accepted lf ls post =
    let unrefused : case_refusal r figs sets ≡ none = none-refused r figs sets accepted lf ls in
    let leaves : SolverLeaves r a figs sets figs' sets' none = subst (SolverLeaves r a figs sets figs' sets') unrefused post.leaves in
    let filled = leaves.0.filled in
    let still : case_refusal r figs' sets' ≡ none = none-refused r figs' sets' accepted (rw leaves.0.kept-figs.as_long lf) (rw leaves.0.kept_sets.as_long ls) in
    record {
      solved = post.numbered ∙ ap number_of unrefused;
      answer = leaves.1;
      settings = filled.settings;
      plays = filled-whole r accepted figs' sets' filled;
      emits = λ n start buffers e calls long. emitting-one r figs' sets' Top buffers e calls ∙ emits r figs' sets' still n start buffers long;
      room = λ n start buffers each more. plan-room r accepted figs' sets' buffers (plan-fits r accepted figs' sets' filled n start) each more;
      emits-into = into-plan r accepted figs' sets' filled still;
      emits_none = λ start place b b' e p. (
          let w = emits_none r figs' sets' still start place b in
          (p.answer ∙ ap (λ (x : Wrote). x.answer) w, p.buffer ∙ ap (λ (x : Wrote). x.buffer) w)
          );
      checks = checks-plan r accepted figs' sets' filled still;
      chain = λ n start buffer e emitted long lent₁ lent₂ made c i j fresh hs u calls own others test c' p. (
          let w : e ≡ record { lines = plan_texts r figs' sets'; last = some End } = into-plan r accepted figs' sets' filled still n start buffer e emitted long in
          (ap (λ (x : Emission). x.last) w, checks-plan r accepted figs' sets' filled still n start lent₁ lent₂ made c i j fresh hs u calls (own ∙ ap (λ (x : Emission). x.lines) w) others test c' p)
          );
      emits-lines = lines-plan r accepted figs' sets' filled still;
      emits-lines-none = λ start place b b' e p. (
          let w = lines_none r figs' sets' place b NoPlan (emits_none r figs' sets' still start place b) refl in
          (p.answer ∙ ap (λ (x : Wrote). x.answer) (sym w), p.buffer ∙ ap (λ (x : Wrote). x.buffer) (sym w))
          );
      checks-fronts = fronts-plan r accepted figs' sets' filled still;
      chain-lines = λ n start buffer w emitted long lent₁ lent₂ made c i j fresh hs u calls own cut others test c' p. (
          let e : w ≡ record { text = plan_text r figs' sets'; last = End } = lines-plan r accepted figs' sets' filled still n start buffer w emitted long in (
            ap (λ (x : Writing). x.last) e,
            fronts-plan r accepted figs' sets' filled still n start lent₁ lent₂ made c i j fresh hs u calls (own ∙ ap (λ (x : Writing). x.text) e) cut others test c' p,
          )
          );
    }
