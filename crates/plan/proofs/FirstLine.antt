-- A text that is not empty is its first line and the lines of the rest: up to the first line end a line grows byte by byte, and so does its length. No
-- field of a line has a line end, so a line that stands in front of a text, as it is spelled, is the first.
-- Assumes nothing.
use mathlib.Core.Path.{◌≡◌, refl, sym, ◌∙◌, ap}
use mathlib.Core.Bool.{Bool, true, false, not, ◌&&◌}
use mathlib.Core.List.{List, [], ◌∷◌, ◌++◌, append_assoc}
use mathlib.Core.Logic.{inl, inr}
use Prim.Native.Nat.{ℕ, suc, ◌+◌, ◌≤◌, ◌<◌}
use native.Mathlib.Omega.{arith}
use lib.Dec.{eqb}
use lib.ListN.{length, take, drop, length-append}
use lib.Seq.{length-take-le, take-append_seam}
use Rattle.laws.specs.Lists.{all, on_first}
use Rattle.laws.proofs.Bools.{bool?, clash, and-true}
use Rattle.text.specs.Text.{tab, line_end, line}
use Rattle.text.specs.Reading.{is_plain}
use Rattle.plan.specs.Lines.{PlanLine, line_fields, spell}
use Rattle.plan.specs.Several.{lines_of}
use Rattle.plan.specs.FirstLine.{line_bytes, first_of}
use Rattle.plan.proofs.Reading.{fields-plain}

pub first-line : (b : ℕ) (bs : List ℕ) → lines_of (b ∷ bs) ≡ first_of (b ∷ bs) ∷ lines_of (drop (line_bytes (b ∷ bs)) (b ∷ bs))
unfolding lines_of line_bytes
first-line b [] = elim (bool? (eqb b line_end)) [ inl e ↦ rw e refl | inr e ↦ rw e refl ]
first-line b (c ∷ cs) = let rest = first-line c cs in elim (bool? (eqb b line_end)) [ inl e ↦ rw e refl | inr e ↦ rw e (ap (on_first b) rest) ]

-- it lies within the text, and is not empty
pub line-within : (l : List ℕ) → line_bytes l ≤ length l
unfolding line_bytes
line-within [] = omega arith
line-within (b ∷ bs) = let rest = line-within bs in elim (bool? (eqb b line_end)) [ inl e ↦ rw e (omega arith) | inr e ↦ rw e (omega arith) ]

pub line-not-empty : (b : ℕ) (bs : List ℕ) → 0 < line_bytes (b ∷ bs)
unfolding line_bytes
line-not-empty b bs = elim (bool? (eqb b line_end)) [ inl e ↦ rw e (omega arith) | inr e ↦ rw e (omega arith) ]

pub first-length : (l : List ℕ) → length (first_of l) ≡ line_bytes l
first-length l = length-take-le (line_bytes l) l (line-within l)

-- plain bytes are so many more
not_end : (u v : Bool) → (not u && not v) ≡ true → v ≡ false
not_end true v e = clash e refl
not_end false true e = clash e refl
not_end false false e = refl

plain_more : (f s : List ℕ) → all is_plain f ≡ true → line_bytes (f ++ s) ≡ length f + line_bytes s
unfolding line_bytes all is_plain
plain_more [] s p = omega arith
plain_more (b ∷ f) s p =
    let h = and-true (is_plain b) (all is_plain f) p in
    let r : line_bytes (f ++ s) ≡ length f + line_bytes s = plain_more f s h.1 in
    rw (not_end (eqb b tab) (eqb b line_end) h.0, r) (omega arith)

-- A LINE OF PLAIN FIELDS in front of a text is its first
line_first : (fs : List (List ℕ)) (s : List ℕ) → all (all is_plain) fs ≡ true → line_bytes (line fs ++ s) ≡ length (line fs)
unfolding line line_bytes all
line_first [] s p = refl
line_first (f ∷ []) s p = let h = and-true (all is_plain f) true p in ap line_bytes (append_assoc f (line_end ∷ []) s) ∙ plain_more f (line_end ∷ s) h.0 ∙ sym (length-append f (line_end ∷ []))
line_first (f ∷ g ∷ fs) s p =
    let h = and-true (all is_plain f) (all (all is_plain) (g ∷ fs)) p in
    let r : line_bytes (line (g ∷ fs) ++ s) ≡ length (line (g ∷ fs)) = line_first (g ∷ fs) s h.1 in
    let t : length f + line_bytes (tab ∷ (line (g ∷ fs) ++ s)) ≡ length f + suc (length (line (g ∷ fs))) = rw r in
    ap line_bytes (append_assoc f (tab ∷ line (g ∷ fs)) s) ∙ plain_more f (tab ∷ (line (g ∷ fs) ++ s)) h.0 ∙ t ∙ sym (length-append f (tab ∷ line (g ∷ fs)))

spelled-bytes : (l : PlanLine) (s : List ℕ) → line_bytes (spell l ++ s) ≡ length (spell l)
unfolding spell
spelled-bytes l s = line_first (line_fields l) s (fields-plain l)

-- so is a line of a plan, as it is spelled
pub record SpelledFirst (text : List ℕ) (l : PlanLine) : Type 0 where
  pub bytes : line_bytes text ≡ length (spell l)
  pub line : first_of text ≡ spell l

pub spelled-first : (text s : List ℕ) (l : PlanLine) → text ≡ spell l ++ s → SpelledFirst text l
spelled-first text s l e =
    let b : line_bytes text ≡ length (spell l) = ap line_bytes e ∙ spelled-bytes l s in
    let t : take (length (spell l)) text ≡ spell l = ap (take (length (spell l))) e ∙ take-append_seam (spell l) s in
    record { bytes = b; line = rw b t }
