-- The plan's text by one call, where the buffer has room for every text: the lent one, or one of the call's own. Assumes nothing.
use mathlib.Core.Path.{◌≡◌, refl, sym, ◌∙◌, ap, subst}
use mathlib.Core.Bool.{false}
use mathlib.Core.List.{List, ◌++◌}
use mathlib.Core.Option.{some}
use Prim.Native.Nat.{ℕ, ◌≤◌}
use native.Mathlib.Omega.{arith}
use lib.ListN.{length, take, drop}
use Rattle.laws.proofs.Bools.{clash}
use Rattle.text.specs.Appending.{bytes_after, cursor_after, Appended}
use Rattle.text.proofs.Appending.{front-bytes, front-cursor, front-text, front_fits}
use Rattle.railway.specs.declared.Railway.{Railway}
use Rattle.plan.specs.declared.PlanPlace.{PlanPlace}
use Rattle.plan.specs.declared.PlanPlace.TheVariants.{Top}
use Rattle.plan.specs.Emitted.{Emitted, Line}
use Rattle.plan.specs.Text.{is_some, plan_text}
use Rattle.plan.specs.Emitter.{line_given, is_line}
use Rattle.plan.specs.Several.{emit_lines, EmitLinesPost, WroteWhole}
use Rattle.plan.proofs.Several.{emits-whole}
use Rattle.case_file.specs.Written.{Written, Bytes}
use Rattle.answer_lines.specs.Lines.{PutPost}
use Rattle.answer_lines.proofs.Puts.{put_written}
use Rattle.plan_text.specs.Listable.{Listable}
use Rattle.plan_text.specs.Written.{text_bytes}
use Rattle.plan_text.proofs.Sizes.{plan-short}

same_some : {n m : ℕ} → some n ≡ some m → n ≡ m
same_some e = cc

-- a text that stands in front of a buffer, with what was behind it, has been written there
stands-so : (text old new : List ℕ) (n : ℕ) → length text ≤ length old → new ≡ text ++ drop (length text) old → n ≡ length text → Appended old 0 text new n
stands-so text old new n room stands count =
    let p : Appended old 0 text (bytes_after old 0 text) (cursor_after old 0 text) = record { bytes = refl; cursor = refl } in
    record { bytes = stands ∙ sym (front-bytes p room); cursor = count ∙ sym (front-cursor p room) }

module _ (r : Railway) (figs sets old new : List ℕ) (a : Emitted) (s : Listable r figs sets) (room : text_bytes ≤ length old)
    (post : EmitLinesPost r figs sets Top old a new) where
  enough : length (plan_text r figs sets) ≤ length old
  enough = omega (arith, plan-short r figs sets s, room)

  whole : WroteWhole r figs sets old (emit_lines r figs sets Top old)
  whole = emits-whole r figs sets s.unrefused s.figure s.start old enough

  bytes-are : line_given a ≡ some (length (plan_text r figs sets))
  bytes-are = ap line_given post.answer ∙ whole.bytes

  pub at_once : (n : ℕ) (next : PlanPlace) → a ≡ Line n next → Appended old 0 (plan_text r figs sets) new n
  at_once n next e =
      stands-so (plan_text r figs sets) old new n enough (post.buffer ∙ whole.text) (same_some (sym (ap line_given e) ∙ bytes-are))

  -- no other answer is given
  pub no_other : {A : Type 0} → is_line a ≡ false → A
  no_other e = clash (ap is_some bytes-are) e

-- FROM A BUFFER OF THE CALL'S OWN with room for every text it is put
pub put-own : (r : Railway) (figs sets : List ℕ) → Listable r figs sets → (blank own old new : List ℕ) (n : ℕ) (w : Written) → text_bytes ≤ length blank → length own ≡ length blank
    → Appended blank 0 (plan_text r figs sets) own n → (n ≤ length own → PutPost (take n own) old w new) → PutPost (plan_text r figs sets) old w new
put-own r figs sets s blank own old new n w room kept h p =
    let text = plan_text r figs sets in
    let fits : length text ≤ length blank = omega (arith, plan-short r figs sets s, room) in
    subst (λ (t : List ℕ). PutPost t old w new) (front-text h fits) (p (front_fits h kept))

-- WHERE IT IS TO STAND there is room, too
pub put_in_place : (r : Railway) (figs sets : List ℕ) → Listable r figs sets → {old new : List ℕ} {n : ℕ} → text_bytes ≤ length old → Appended old 0 (plan_text r figs sets) new n
    → PutPost (plan_text r figs sets) old (Bytes n) new
put_in_place r figs sets s {old} {new} {n} room h =
    let fits : length (plan_text r figs sets) ≤ length old = omega (arith, plan-short r figs sets s, room) in
    rw (front-cursor h fits) (put_written (plan_text r figs sets) old fits new n h)
