-- The line at a place inside a text: it is not empty, it lies within the text, and the lines from the place on are it and those behind it. Where it is
-- read, so is its end. Assumes nothing.
use mathlib.Core.Path.{◌≡◌, sym, ◌∙◌, ap}
use mathlib.Core.List.{List, ◌∷◌}
use Prim.Native.Nat.{ℕ, suc, ◌+◌, ◌-◌, ◌≤◌, ◌<◌}
use native.Mathlib.Omega.{arith}
use lib.ListN.{length, get_or, drop, length-drop}
use lib.Seq.{drop-cons, drop-drop}
use Rattle.railway.specs.declared.Railway.{Railway}
use Rattle.std.specs.Prelude.{Some}
use Rattle.plan.specs.Reading.{read_line}
use Rattle.plan.specs.FirstLine.{line_bytes, first_of}
use Rattle.plan.specs.Several.{lines_of}
use Rattle.plan.proofs.FirstLine.{first-line, line-within, line-not-empty}
use Rattle.plan_reader.specs.declared.PlanLine.{PlanLine as Read}
use Rattle.plan_reader.specs.LineRead.{LineAt as ReadAtPlace, line_of}
use Rattle.plan_reader.specs.Answers.{answer_for}
use Rattle.plan_reader.specs.Places.{ReadAt}

pub record LineAt (text : List ℕ) (at : ℕ) : Type 0 where
  pub some : 0 < line_bytes (drop at text)
  pub within : at + line_bytes (drop at text) ≤ length text
  pub lines : lines_of (drop at text) ≡ first_of (drop at text) ∷ lines_of (drop (at + line_bytes (drop at text)) text)

pub line_at : (text : List ℕ) (at : ℕ) → at < length text → LineAt text at
line_at text at inside =
    let h : drop at text ≡ get_or text at 0 ∷ drop (suc at) text = drop-cons text at 0 inside in
    let first : lines_of (drop at text) ≡ first_of (drop at text) ∷ lines_of (drop (line_bytes (drop at text)) (drop at text)) = rw h (first-line (get_or text at 0) (drop (suc at) text)) in
    let l : length (drop at text) ≡ length text - at = length-drop at text in
    record {
      some = rw h (line-not-empty (get_or text at 0) (drop (suc at) text));
      within = omega (arith, line-within (drop at text), l, inside);
      lines = first ∙ ap (λ (t : List ℕ). first_of (drop at text) ∷ lines_of t) (drop-drop (line_bytes (drop at text)) at text);
    }

-- what was read is the first line from the place on, and its end is known
module _ {r : Railway} {text : List ℕ} {at : ℕ} {x : ReadAtPlace} (h : ReadAt r text at x) {line : Read} {end : ℕ} (e : x ≡ Some (line, end)) where
  pub read-says : Some line ≡ answer_for r (read_line r (first_of (drop at text)))
  read-says = sym (ap line_of e) ∙ h.line

  pub read-end : end ≡ at + line_bytes (drop at text)
  read-end = rw e at h.end
