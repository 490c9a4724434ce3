-- A line put behind others, at a cursor: where it has no room nothing is changed, and the cursor stays. Assumes nothing.
use Prim.Native.Nat.{ℕ, ◌+◌, ◌-◌, ◌<◌, ◌≤◌}
use mathlib.Core.Path.{◌≡◌, refl, sym, ◌∙◌, ap, subst}
use mathlib.Core.Bool.{Bool, true, false}
use mathlib.Core.Logic.{inl, inr}
use mathlib.Core.List.{List, ◌++◌}
use mathlib.Core.Option.{none, some}
use native.Mathlib.Omega.{arith}
use native.Mathlib.Numerals.{add-one}
use lib.Dec.{leb}
use lib.ListN.{length, take, drop, replicate, length-replicate}
use borrow.Author.Tests.{lt-ltb, le-ltb, le-leb, lt-leb, leb-true}
use Rattle.laws.specs.Below.{lowest}
use Rattle.laws.proofs.Bools.{lt?, and-true}
use Rattle.text.specs.Appending.{Appended}
use Rattle.text.proofs.Appending.{appended-bytes, appended-cursor, front-text}
use Rattle.railway.specs.declared.Railway.{Railway}
use Rattle.railway.specs.declared.Refusal.{Refusal}
use Rattle.railway.specs.declared.Refusal.TheVariants.{Space}
use Rattle.railway.specs.CaseAnswer as tested
use Rattle.game.specs.Placement.{placements, start_code}
use Rattle.game_tables.specs.Tables.{figure_in, case_refusal}
use Rattle.plan.specs.declared.PlanPlace.{PlanPlace}
use Rattle.plan.specs.declared.PlanPlace.TheVariants.{Top, From}
use Rattle.plan.specs.Emitted.{Emitted, Line, Refused}
use Rattle.plan.specs.Lines.{placement_line, spell, most_line_bytes}
use Rattle.plan.specs.Text.{has_figure, line_for}
use Rattle.plan.specs.Emitter.{Wrote, is_line, figure_from, next_code, leaves, emit_line}
use Rattle.plan.specs.Several.{Run, run_from, emit_lines, EmitLinesPost}
use Rattle.plan.specs.Steps.{line_written, emitted, PutAt, put_so, put_at, Planned, Underway, ran_whole}
use Rattle.plan.proofs.Rules.{emit-rule}
use Rattle.plan.proofs.Steps.{emit-steps}
use Rattle.plan.proofs.Several.{WroteLine, wrote-line, lines-so, lines_none, lines-some, underway-first, placement-over, placement-full, placement-put}
use Rattle.railway_compiled.specs.Compilation.{Compilation}
use Rattle.railway_compiled.specs.Table.{Compiled}
use Rattle.game_case.specs.Cases.{CasePost}
use Rattle.game_case.proofs.Cases.{opened-refused, opened-none, opened-table}
use Rattle.game_placement.specs.declared.Placement.{Placement}
use Rattle.plan_lines.specs.Spelling.{line_of}
use Rattle.plan_emitter.proofs.Emitting.{PlacementIs}
use Rattle.plan_emitter.proofs.Next.{found-passes, from-figure}

-- ROOM FOR ANY LINE behind a cursor
pub room-past : (long at : ℕ) → long < at → false ≡ leb (at + most_line_bytes) long
room-past long at h = sym (lt-leb (at + most_line_bytes) long (omega arith))

pub room-left : (long at : ℕ) → at ≤ long → leb most_line_bytes (long - at) ≡ leb (at + most_line_bytes) long
room-left long at h = elim (lt? long (at + most_line_bytes)) [
  | inl l ↦ lt-leb most_line_bytes (long - at) (omega arith) ∙ sym (lt-leb (at + most_line_bytes) long l)
  | inr l ↦ le-leb most_line_bytes (long - at) (omega arith) ∙ sym (le-leb (at + most_line_bytes) long l)
]

-- A LINE by the room for it
module _ (l out : List ℕ) (at : ℕ) where
  pub put-past : length out < at → put_so out at ≡ put_at l out at
  put-past h = rw (lt-ltb (length out) (at + length l) (omega arith))

  pub put-short : at ≤ length out → length out - at < length l → put_so out at ≡ put_at l out at
  put-short h k = rw (lt-ltb (length out) (at + length l) (omega arith))

  put-fits : {new : List ℕ} {x : ℕ} → at + length l ≤ length out → Appended out at l new x → put_so new x ≡ put_at l out at
  put-fits {new} {x} h p =
      let b : new ≡ take at out ++ l ++ drop (at + length l) out = appended-bytes p h in
      let c : x ≡ at + length l = appended-cursor p h in
      rw (le-ltb (length out) (at + length l) h, b, c)

  pub put-room : {new : List ℕ} {x : ℕ} → at ≤ length out → length l ≤ length out - at → Appended out at l new x → put_so new x ≡ put_at l out at
  put-room h k p = put-fits (omega arith) p

  -- a short one in place
  pub put_in_place : {new : List ℕ} {x : ℕ} → length l ≤ most_line_bytes → leb (at + most_line_bytes) (length out) ≡ true → Appended out at l new x → put_so new x ≡ put_at l out at
  put_in_place h k p = put-fits (omega (arith, leb-true (at + most_line_bytes) (length out) k)) p

  -- by way of a buffer of its own
  pub put-copied : {own text : List ℕ} {n : ℕ} {w : PutAt} → own ≡ replicate most_line_bytes 0 → Appended own 0 l text n → length l ≤ most_line_bytes
      → w ≡ put_at (take n text) out at → w ≡ put_at l out at
  put-copied {own} blank made h e =
      let long : length own ≡ most_line_bytes = ap length blank ∙ length-replicate {A = ℕ} most_line_bytes 0 in
      let room : length l ≤ length own = omega arith in
      e ∙ ap (λ (s : List ℕ). put_at s out at) (front-text made room)

-- THE LINE OF A PLACEMENT, put together of its parts
module _ (r : Railway) (figs sets : List ℕ) (p : ℕ) (out : List ℕ) (at : ℕ) {k m : ℕ} {q : Placement} {n v : ℕ} (is : PlacementIs r figs sets p k m q n v) where
  pub placed-in-place : {new : List ℕ} {x : ℕ} {b : Bool} → b ≡ leb (at + most_line_bytes) (length out) → b ≡ true → Appended out at (spell (placement_line (line_of k m q n v))) new x
      → put_so new x ≡ put_at (spell (placement_line (line_for r figs sets p))) out at
  placed-in-place {new} {x} room e made =
      let made' : Appended out at (spell (placement_line (line_for r figs sets p))) new x = rw is.same at made in
      put_in_place (spell (placement_line (line_for r figs sets p))) out at is.short (sym room ∙ e) made'

  pub placed-copied : {own text : List ℕ} {len : ℕ} {w : PutAt} → own ≡ replicate most_line_bytes 0 → Appended own 0 (spell (placement_line (line_of k m q n v))) text len
      → w ≡ put_at (take len text) out at → w ≡ put_at (spell (placement_line (line_for r figs sets p))) out at
  placed-copied {own} {text} {len} blank made e =
      let made' : Appended own 0 (spell (placement_line (line_for r figs sets p))) text len = rw is.same at made in
      put-copied (spell (placement_line (line_for r figs sets p))) out at blank made' is.short e

-- A LINE AT THE FRONT: no byte is written where it has no room, and some where it has
module _ (l old : List ℕ) (place : PlanPlace) {new : List ℕ} {n : ℕ} (some-byte : 1 ≤ length l) (put : put_so new n ≡ put_at l old 0) where
  out-of-room : length old < length l → put_so new n ≡ put_so old 0
  out-of-room h = put ∙ rw (lt-ltb (length old) (0 + length l) (omega arith))

  in-room : length l ≤ length old → put_so new n ≡ put_so (l ++ drop (length l) old) (length l)
  in-room h = let z : 0 + length l ≡ length l = omega arith in put ∙ (rw (z, le-ltb (length old) (length l) h))

  pub front-refused : n ≡ 0 → leaves (Refused Space) new ≡ line_written l place old
  front-refused e = elim (lt? (length old) (length l)) [
    | inl h ↦ let b : new ≡ old = ap (λ (x : PutAt). x.buffer) (out-of-room h) in rw (lt-ltb (length old) (length l) h, b)
    | inr h ↦ absurd (omega (arith, e, ap (λ (x : PutAt). x.at) (in-room h)))
  ]

  pub front-written : (n ≡ 0 → ⊥) → leaves (Line n place) new ≡ line_written l place old
  front-written e = elim (lt? (length old) (length l)) [
    | inl h ↦ absurd (e (ap (λ (x : PutAt). x.at) (out-of-room h)))
    | inr h ↦
        let b : new ≡ l ++ drop (length l) old = ap (λ (x : PutAt). x.buffer) (in-room h) in
        let k : n ≡ length l = ap (λ (x : PutAt). x.at) (in-room h) in
        rw (le-ltb (length old) (length l) h, b, k)
  ]

-- THE LOOP
pub next-behind : (figs : List ℕ) (c total p : ℕ) → lowest (figure_from figs c) total ≡ some p → c ≤ p
next-behind figs c total p first = leb-true c p (and-true (leb c p) (has_figure figs p) (found-passes (figure_from figs c) total p first)).0

module _ (r : Railway) (figs sets : List ℕ) (planned : Planned r figs sets) (whole : Run) (c at : ℕ) (b : List ℕ) (u : Underway r figs sets whole (From c) at b)
    (total : ℕ) (all : total ≡ placements r) where
  pub lines-over : lowest (figure_from figs c) total ≡ none → leaves (Line at (From c)) b ≡ ran_whole whole
  lines-over l = let e : next_code r figs c ≡ none = rw all at l in placement-over r figs sets planned whole c at b u e

  module _ (p : ℕ) (first : lowest (figure_from figs c) total ≡ some p) {new : List ℕ} {next : ℕ}
      (put : has_figure figs p ≡ true → put_so new next ≡ put_at (spell (placement_line (line_for r figs sets p))) b at) where
    found : next_code r figs c ≡ some p
    found = rw all at first

    put-there : put_so new next ≡ put_at (spell (placement_line (line_for r figs sets p))) b at
    put-there = put (from-figure figs c p (found-passes (figure_from figs c) total p first))

    pub lines-full : next ≡ at → leaves (Line at (From c)) new ≡ ran_whole whole
    lines-full e = placement-full r figs sets planned whole c at b u p found new next put-there e

    pub lines_next : (next ≡ at → ⊥) → Underway r figs sets whole (From (p + 1)) next new
    lines_next e = rw (add-one p) (placement-put r figs sets planned whole c at b u p found new next put-there e)

-- THE CALL, by what the call for one line gave
module _ (r : Railway) (figs sets : List ℕ) (place : PlanPlace) (old : List ℕ) (unrefused : case_refusal r figs sets ≡ none) {first : Emitted} {new : List ℕ}
    (call : leaves first new ≡ emitted r figs sets place old none (figure_in figs (start_code r))) where
  one-call : emit_line r figs sets place old ≡ leaves first new
  one-call = emit-steps r figs sets place old unrefused refl ∙ sym call

  answered : (emit_line r figs sets place old).answer ≡ first
  answered = ap (λ (w : Wrote). w.answer) one-call

  pub due-none : is_line first ≡ false → leaves first new ≡ emit_lines r figs sets place old
  due-none e =
      let kept : (emit_line r figs sets place old).buffer ≡ old = (emit-rule r figs sets place old).leaves (ap is_line answered ∙ e) in
      let same : new ≡ old = sym (ap (λ (w : Wrote). w.buffer) one-call) ∙ kept in
      ap (leaves first) same ∙ lines_none r figs sets place old first (one-call ∙ ap (leaves first) same) e

  module _ (n : ℕ) (next : PlanPlace) (is : first ≡ Line n next) where
    said : WroteLine r figs sets place next n old
    said = wrote-line r figs sets unrefused place next n old (answered ∙ is)

    pub due-top : {A : Type 0} → next ≡ Top → A
    due-top e = absurd (said.below e)

    pub due-more : (c : ℕ) → next ≡ From c → length new ≡ length old → {w : Wrote}
        → ((whole : Run) → Planned r figs sets → Underway r figs sets whole (From c) n new → w ≡ ran_whole whole) → w ≡ emit_lines r figs sets place old
    due-more c e long more =
        let u : Underway r figs sets (run_from r figs sets (length old) place old) next n new =
        underway-first r figs sets place next n old new (one-call ∙ ap (λ (a : Emitted). leaves a new) is) said.byte said.fits long in
        more (run_from r figs sets (length old) place old) said.planned (subst (λ (q : PlanPlace). Underway r figs sets (run_from r figs sets (length old) place old) q n new) e u)
        ∙ lines-some r figs sets place next n old (answered ∙ is)

-- THE WHOLE CALL
module _ (r : Railway) (figs sets : List ℕ) (place : PlanPlace) (old : List ℕ) {o : Compilation} (opened : CasePost r figs sets o) where
  pub lines-refused : (f : Refusal) → o.tested ≡ tested.Refused f → EmitLinesPost r figs sets place old (Refused f) old
  lines-refused f e =
      let one : emit_line r figs sets place old ≡ leaves (Refused f) old = emit-steps r figs sets place old (opened-refused opened e) refl in
      lines-so r figs sets place old (leaves (Refused f) old) (lines_none r figs sets place old (Refused f) one refl)

  pub lines-emitted : {a : Emitted} {new : List ℕ} → o.tested ≡ tested.Accepted
      → ((r : Railway) → Compiled r o.table → case_refusal r figs sets ≡ none → leaves a new ≡ emit_lines r figs sets place old)
      → EmitLinesPost r figs sets place old a new
  lines-emitted {a} {new} e lines = lines-so r figs sets place old (leaves a new) (lines r (opened-table opened e) (opened-none opened e))
