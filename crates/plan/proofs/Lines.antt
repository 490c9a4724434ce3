-- A line that fits an accepted case has 45 bytes at most. Four sections take three bytes each with their tabs,
-- a figure ten and a tab, the open trains four and a tab, the points sixteen and the line end. Assumes nothing.
use mathlib.Core.Path.{◌≡◌, ◌∙◌}
use mathlib.Core.Bool.{true, false}
use mathlib.Core.List.{List, [], ◌∷◌, ◌++◌, map}
use Prim.Native.Nat.{ℕ, suc, ◌+◌, ◌*◌, ◌≤◌, ◌<◌}
use native.Mathlib.Omega.{arith}
use lib.ListN.{length, get_or, length-append, length-map}
use lib.Dec.{ltb}
use borrow.Author.Tests.{ltb-true}
use Rattle.laws.specs.Below.{which_below}
use Rattle.laws.specs.Lists.{all}
use Rattle.laws.proofs.Bools.{and-true}
use Rattle.laws.proofs.Which.{which-length}
use Rattle.text.specs.Text.{byte, decimal, line, bytes}
use Rattle.text.proofs.Decimal.{digits-length, digits-short}
use Rattle.railway.specs.declared.Railway.{Railway}
use Rattle.game.proofs.Accepted.{Facts, facts}
use Rattle.plan.specs.Lines.{PlanLine, start_line, placement_line, or_byte, train_digit, open_field, sign, point_field, section_field, plan_word, spell, fits, most_line_bytes, LinesShort}
use Rattle.plan.proofs.Reading.{fits-parts}

-- a line is as long as its fields, with one byte behind each
unfoldable total : List (List ℕ) → ℕ
total [] = 0
total (f ∷ fs) = length f + 1 + total fs

line-length : (f : List ℕ) (fs : List (List ℕ)) → length (line (f ∷ fs)) ≡ total (f ∷ fs)
unfolding line total
line-length f [] = length-append f (10 ∷ []) ∙ omega arith
line-length f (g ∷ fs) = let h : length (line (g ∷ fs)) ≡ length g + 1 + total fs = line-length g fs in length-append f (9 ∷ line (g ∷ fs)) ∙ (rw h (omega arith))

total-append : (fs gs : List (List ℕ)) → total (fs ++ gs) ≡ total fs + total gs
unfolding total
total-append [] gs = omega arith
total-append (f ∷ fs) gs = rw (total-append fs gs) (omega arith)

sections-total : (xs : List ℕ) (s : ℕ) → s ≤ 48 → all (λ x. ltb x s) xs ≡ true → total (map section_field xs) ≤ 3 * length xs
unfolding total all
sections-total [] s l a = omega arith
sections-total (x ∷ xs) s l a =
    let h = and-true (ltb x s) (all (λ x. ltb x s) xs) a in
    let b : x < s = ltb-true x s h.0 in
    let t : total (map section_field xs) ≤ 3 * length xs = sections-total xs s l h.1 in
    let d : length (decimal (suc x)) ≤ 2 = digits-short 10 1 (suc x) (omega arith) in
    omega arith

or-length : (b : ℕ) (s : List ℕ) (n : ℕ) → length s ≤ n → 1 ≤ n → length (or_byte b s) ≤ n
or-length b [] n l m = m
or-length b (x ∷ s) n l m = l

-- the fields begin with one
lines-total : (xs : List ℕ) (f : List ℕ) (fs : List (List ℕ)) → length (line (map section_field xs ++ (f ∷ fs))) ≡ total (map section_field xs) + total (f ∷ fs)
unfolding total
lines-total [] f fs = line-length f fs ∙ omega arith
lines-total (x ∷ xs) f fs = line-length (decimal (suc x)) (map section_field xs ++ (f ∷ fs)) ∙ total-append (map section_field (x ∷ xs)) (f ∷ fs)

at-most : (r : Railway) → Facts r → (l : PlanLine) → fits r l ≡ true → length (spell l) ≤ most_line_bytes
unfolding bytes spell total
at-most r ok (start_line n) e = rw (line-length plan_word (decimal n ∷ [])) (omega (arith, digits-length 10 n))
at-most r ok (placement_line d) e =
    let f = fits-parts r d e in
    let s₁ : total (map section_field d.sections) ≤ 3 * length d.sections = sections-total d.sections r.sections ok.few-sections f.there in
    let s₂ : length (decimal d.figure) ≤ 10 = digits-length 10 d.figure in
    let s₃ : length (open_field d.opens) ≤ 4 =
    or-length (byte "0") (map train_digit (which_below (λ t. get_or d.opens t false) (length d.opens))) 4
    (omega (
      arith,
      length-map (which_below (λ t. get_or d.opens t false) (length d.opens)) train_digit,
      which-length (λ t. get_or d.opens t false) (length d.opens),
      ok.few-trains,
      f.opened,
    )) (omega arith) in
    let s₄ : length (point_field d.plus) ≤ 16 = or-length (byte ".") (map sign d.plus) 16 (omega (arith, length-map d.plus sign, ok.few-points, f.pointed)) (omega arith) in
    rw (lines-total d.sections (decimal d.figure) (open_field d.opens ∷ point_field d.plus ∷ [])) (omega (arith, ok.few-trains, f.each-train))

pub lines-short : LinesShort
lines-short r accepted l e = at-most r (facts r accepted) l e
