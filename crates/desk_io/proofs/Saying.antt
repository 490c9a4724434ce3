-- What was put in a buffer with room for it is written out, with the case and the tables as they were. Assumes nothing.
use mathlib.Core.Path.{◌≡◌, refl, ◌∙◌, ap}
use mathlib.Core.Bool.{Bool}
use mathlib.Core.List.{List}
use mathlib.Core.Option.{get_or}
use Prim.Native.Nat.{ℕ}
use native.Mathlib.Omega.{arith}
use lib.ListN.{length}
use Rattle.railway.specs.declared.Railway.{Railway}
use Rattle.railway.specs.declared.Refusal.{Refusal}
use Rattle.case_file.specs.Written.{Written}
use Rattle.case_file.specs.Writing.{written_count}
use Rattle.answer_lines.specs.Lines.{refusal_line, PutPost}
use Rattle.answer_lines.proofs.Lines.{refusal-short}
use Rattle.answer_lines.proofs.Puts.{put-fits}
use Rattle.desk.specs.Desk.{Desk}
use Rattle.desk_lines.specs.Panel.{most_state_bytes}
use Rattle.desk_text.specs.Said.{Said, SaidPost}
use Rattle.desk_io.specs.Session.{panel_of, heard_at}
use Rattle.desk_io.specs.Followed.{Wrote}

module _ {s : Said} {old new : List ℕ} {d : Desk} {w : Written} {g : Bool} (p : SaidPost s old d w g new) (room : length old ≡ most_state_bytes) where
  pub wrote : (r q : Railway) (figs sets : List ℕ) (e : Desk) (n : ℕ) (h : Bool) → e ≡ d → n ≡ get_or (written_count w) 0 → h ≡ g → q ≡ r
      → Wrote (heard_at r figs sets s) (panel_of q figs sets e) n h
  wrote r q figs sets e n h same count goes case =
      let fits = (put-fits s.text old p.put (omega (arith, p.short, room))).0 in
      let all : n ≡ length s.text = count ∙ ap (λ (z : Written). get_or (written_count z) 0) fits in
      let there : e ≡ s.desk = same ∙ p.desk in
      record { bytes = all; few = omega (arith, all, p.short); panel = rw (there, case) refl; going = goes ∙ p.going }

-- the line of a refusal
pub refusal-count : (old new : List ℕ) (w : Written) (f : Refusal) → length old ≡ most_state_bytes → PutPost (refusal_line f) old w new → (n : ℕ) → n ≡ get_or (written_count w) 0
    → n ≡ length (refusal_line f)
refusal-count old new w f room p n count = count ∙ ap (λ (z : Written). get_or (written_count z) 0) (put-fits (refusal_line f) old p (omega (arith, refusal-short f, room))).0
