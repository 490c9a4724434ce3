-- The text of the counts, from the pieces put one behind the other, and its length: no number has more than ten digits and no bar more than forty marks, so a row has 74 bytes at most.
-- Assumes nothing.
use mathlib.Core.Path.{◌≡◌, refl, sym, ◌∙◌, ap, subst}
use mathlib.Core.Logic.{inl, inr}
use mathlib.Core.Bool.{true, false}
use mathlib.Core.List.{List, [], ◌∷◌, ◌++◌, append_assoc}
use Prim.Native.Nat.{ℕ, zero, suc, ◌+◌, ◌*◌, ◌-◌, ◌/◌, ◌≤◌, ◌<◌}
use native.Mathlib.Omega.{arith}
use native.Mathlib.Nat.{mul-suc, mul-le-mul_right, div-lt_iff_lt-mul}
use native.Mathlib.Numerals.{add-one}
use lib.ListN.{length, get_or, length-append}
use lib.Dec.{eqb, ltb}
use borrow.Author.Tests.{eq-eqb, ne_eqb, lt-ltb, le-ltb, ltb-true}
use Rattle.std.specs.Prelude.{Result, Ok, Err}
use Rattle.std.specs.Result.{OkIff, result_unwrap_or}
use Rattle.laws.specs.Below.{sum_below, gather_below}
use Rattle.laws.proofs.Bools.{bool?, lt?}
use Rattle.text.specs.Text.{decimal, tab, line_end, line, bytes}
use Rattle.text.specs.Appending.{Appended}
use Rattle.text.proofs.Appending.{append-none, append-then, line-more, line-last}
use Rattle.text.proofs.Decimal.{digits-length}
use Rattle.search_progress.specs.declared.Progress.{Progress}
use Rattle.counts_text.specs.Chart.{named, head_text, marks, mark_piece, bar, row_text, rows, span, first_of, label, together, figure_row, more_row, counts_text, chart_bytes, RowsCover}

-- (Examples is named so that it is checked before: a wrong definition then shows at a computed value.)

-- A BAR
pub marks-part : (c h : ℕ) → c < h → (c * 40 + (h - 1)) / h ≡ marks c h
marks-part c h l = rw (lt-ltb c h l)

pub marks-all : (c h : ℕ) → h ≤ c → 40 ≡ marks c h
marks-all c h l = rw (le-ltb c h l)

marks-most : (c h : ℕ) → marks c h ≤ 40
marks-most c h = elim (bool? (ltb c h)) [
  | inl e ↦
      let l : c < h = ltb-true c h e in
      let q : (c * 40 + (h - 1)) / h < 41 = (div-lt_iff_lt-mul {k = h} {x = c * 40 + (h - 1)} {y = 41} (omega arith)).1 (omega arith) in
      rw e (omega arith)
  | inr e ↦ rw e (omega arith)
]

-- A WORD AND A NUMBER
pub named-made : {o o₁ o₂ o₃ : List ℕ} {a a₁ a₂ a₃ : ℕ} (word : List ℕ) (n : ℕ) → Appended o a word o₁ a₁ → Appended o₁ a₁ (tab ∷ []) o₂ a₂ → Appended o₂ a₂ (decimal n ++ (line_end ∷ [])) o₃ a₃
    → Appended o a (named word n) o₃ a₃
named-made word n p q r = line-more word (decimal n) [] (append-then p q) (line-last (decimal n) r)

-- WHAT A ROW IS OF
module _ (s first : ℕ) {o o₁ : List ℕ} {a a₁ : ℕ} where
  pub label-one : s ≡ 0 → Appended o a (decimal first ++ (tab ∷ [])) o₁ a₁ → Appended o a (label s first ++ (tab ∷ [])) o₁ a₁
  label-one e p = rw (eq-eqb s 0 e) p

  pub label-some : {o₂ : List ℕ} {a₂ : ℕ} → (s ≡ 0 → ⊥) → Appended o a (decimal first ++ bytes "-") o₁ a₁ → Appended o₁ a₁ (decimal (first + s) ++ (tab ∷ [])) o₂ a₂
      → Appended o a (label s first ++ (tab ∷ [])) o₂ a₂
  label-some {o₂} {a₂} e p q =
      let joined : Appended o a ((decimal first ++ bytes "-" ++ decimal (first + s)) ++ (tab ∷ [])) o₂ a₂ =
      subst (λ (text : List ℕ). Appended o a text o₂ a₂) (sym (append_assoc (decimal first ++ bytes "-") (decimal (first + s)) (tab ∷ []))) (append-then p q) in
      rw (ne_eqb s 0 e) joined

-- ITS COUNT, with the bar
pub count-made : (h c n : ℕ) {o o₁ o₂ o₃ : List ℕ} {a a₁ a₂ a₃ : ℕ} → n ≡ marks c h → Appended o a (decimal c ++ (tab ∷ [])) o₁ a₁ → Appended o₁ a₁ (bar n) o₂ a₂
    → Appended o₂ a₂ (line_end ∷ []) o₃ a₃ → Appended o a (line (decimal c ∷ bar (marks c h) ∷ [])) o₃ a₃
count-made h c n is p q r = rw (← is) (line-more (decimal c) (bar n) [] p (line-last (bar n) (append-then q r)))

-- A ROW
module _ (h : ℕ) (word : List ℕ) (c : ℕ) {o : List ℕ} {a : ℕ} where
  pub row-none : c ≡ 0 → Appended o a (row_text h word c) o a
  row-none e = rw (eq-eqb c 0 e) (append-none o a)

  pub row_made : {o₁ o₂ : List ℕ} {a₁ a₂ : ℕ} → (c ≡ 0 → ⊥) → Appended o a (word ++ (tab ∷ [])) o₁ a₁ → Appended o₁ a₁ (line (decimal c ∷ bar (marks c h) ∷ [])) o₂ a₂
      → Appended o a (row_text h word c) o₂ a₂
  row_made some p q = rw (ne_eqb c 0 some) (line-more word (decimal c) (bar (marks c h) ∷ []) p q)

-- the first figure of a row is not large
pub first_small : (s b : ℕ) → s < 256 → b < 17 → b * (s + 1) ≤ 4096
first_small s b l m = omega (arith, mul-le-mul_right (s + 1) (let k : b ≤ 16 = omega arith in k))

-- of a count that was summed up
pub row_of : (h : ℕ) (word : List ℕ) (c d : ℕ) {o o₁ : List ℕ} {a a₁ : ℕ} → c ≡ d → Appended o a (row_text h word c) o₁ a₁ → Appended o a (row_text h word d) o₁ a₁
row_of h word c d {o} {o₁} {a} {a₁} e p = subst (λ (x : ℕ). Appended o a (row_text h word x) o₁ a₁) e p

-- THE SUM of a row, figure after figure: so far, and no more than so much
pub record Summed (counts : List ℕ) (first j sum : ℕ) : Type 0 where
  pub is : sum ≡ sum_below (λ i. get_or counts (first + i) 0) j
  pub most : sum ≤ j * 4294967295

pub sum-start : (counts : List ℕ) (first : ℕ) → Summed counts first 0 0
unfolding sum_below
sum-start counts first = record { is = refl; most = omega arith }

pub sum-next : (counts : List ℕ) (first j sum x : ℕ) → Summed counts first j sum → x ≡ get_or counts (first + j) 0 → x ≤ 4294967295 → Summed counts first (j + 1) (sum + x)
unfolding sum_below
sum-next counts first j sum x s e l =
    let z : j + 1 ≡ suc j = add-one j in
    record { is = rw z (omega (arith, s.is, e)); most = omega (arith, s.most) }

module _ (counts : List ℕ) (s first j sum : ℕ) (done : Summed counts first j sum) (up : j ≤ s + 1) (past : s + 1 ≤ j) where
  all-summed : sum ≡ sum_below (λ i. get_or counts (first + i) 0) (s + 1)
  all-summed = done.is ∙ ap (λ (k : ℕ). sum_below (λ i. get_or counts (first + i) 0) k) (omega arith)

  sum-small : sum < 4294967296 → sum ≡ together counts s first
  sum-small l = let e : ltb sum 4294967296 ≡ true = lt-ltb sum 4294967296 l in sym (rw (← all-summed, e)) ∙ refl

  sum-large : 4294967296 ≤ sum → 4294967295 ≡ together counts s first
  sum-large l = let e : ltb sum 4294967296 ≡ false = le-ltb sum 4294967296 l in rw (← all-summed, e)

  -- or the most that a count can say
  pub sum-cut : {E : Type 0} (r : Result ℕ E) → OkIff r (sum < 4294967296) sum → result_unwrap_or r 4294967295 ≡ together counts s first
  sum-cut (Ok x) (l, e) = e ∙ sum-small l
  sum-cut (Err d) over = elim (lt? sum 4294967296) [ inl l ↦ absurd (over l) | inr l ↦ sum-large l ]

-- HOW MANY FIGURES stand in a row
pub span_small : (largest : ℕ) → largest < 255 → largest / 17 ≡ span largest
span_small largest l = rw (lt-ltb largest 255 l)

pub span-large : (largest : ℕ) → 255 ≤ largest → 14 ≡ span largest
span-large largest l = rw (le-ltb largest 255 l)

pub rows-cover : (largest : ℕ) → RowsCover largest
rows-cover largest = elim (lt? largest 255) [
  | inl l ↦ (let e : span largest ≡ largest / 17 = sym (span_small largest l) in record { all = λ n h b. rw e (omega arith); no_more = rw e (omega arith) })
  | inr l ↦ (let e : span largest ≡ 14 = sym (span-large largest l) in record { all = λ n h b. rw e (omega arith); no_more = rw e (omega arith) })
]

-- ALL OF IT
pub counts-made : (m : ℕ) (a : Progress) (counts : List ℕ) (w g s : ℕ) {o o₁ o₂ o₃ : List ℕ} {b b₁ b₂ b₃ : ℕ} → w ≡ get_or counts 256 0 → g ≡ get_or counts 255 0 → s ≡ span a.largest
    → Appended o b (head_text m a w) o₁ b₁ → Appended o₁ b₁ (gather_below (figure_row a.count s counts) rows) o₂ b₂ → Appended o₂ b₂ (more_row a.count g) o₃ b₃
    → Appended o b (counts_text m a counts) o₃ b₃
unfolding counts_text
counts-made m a counts w g s {o} {o₁} {o₂} {o₃} {b} {b₁} {b₂} {b₃} ew eg es p q r =
    append-then
    (append-then (subst (λ (x : ℕ). Appended o b (head_text m a x) o₁ b₁) ew p) (subst (λ (x : ℕ). Appended o₁ b₁ (gather_below (figure_row a.count x counts) rows) o₂ b₂) es q))
    (subst (λ (x : ℕ). Appended o₂ b₂ (more_row a.count x) o₃ b₃) eg r)

-- ITS LENGTH
gather-short : (f : ℕ → List ℕ) (c : ℕ) → ((i : ℕ) → length (f i) ≤ c) → (k : ℕ) → length (gather_below f k) ≤ c * k
unfolding gather_below
gather-short f c h zero = omega arith
gather-short f c h (suc k) = rw (length-append (gather_below f k) (f k), mul-suc) (omega (arith, h k, gather-short f c h k))

words : (length (bytes "placements") ≡ 10) × (length (bytes "lead home") ≡ 9) × (length (bytes "none") ≡ 4)
    × (length (bytes "largest figure") ≡ 14) × (length (bytes "more") ≡ 4) × (length (bytes "-") ≡ 1)
unfolding bytes
words = (refl, refl, refl, refl, refl, refl)

named-short : (word : List ℕ) (n : ℕ) → length (named word n) ≤ length word + 12
unfolding line
named-short word n = simp length-append (omega (arith, digits-length 10 n))

label-short : (s first : ℕ) → length (label s first) ≤ 21
label-short s first = elim (bool? (eqb s 0)) [
  | inl e ↦ rw e (omega (arith, digits-length 10 first))
  | inr e ↦ rw e (simp length-append (omega (arith, words, digits-length 10 first, digits-length 10 (first + s))))
]

bar-short : (n : ℕ) → n ≤ 40 → length (bar n) ≤ 40
bar-short n l = omega (arith, gather-short mark_piece 1 (λ i. omega arith) n)

row-short : (h : ℕ) (word : List ℕ) (c : ℕ) → length word ≤ 21 → length (row_text h word c) ≤ 74
unfolding line
row-short h word c l = elim (bool? (eqb c 0)) [
  | inl e ↦ rw e (omega arith)
  | inr e ↦ rw e (simp length-append (omega (arith, l, digits-length 10 c, bar-short (marks c h) (marks-most c h))))
]

pub counts-short : (m : ℕ) (a : Progress) (counts : List ℕ) → length (counts_text m a counts) ≤ chart_bytes
unfolding counts_text
counts-short m a counts =
    simp length-append
    (omega (
      arith,
      words,
      named-short (bytes "placements") m,
      named-short (bytes "lead home") a.count,
      named-short (bytes "none") (get_or counts 256 0),
      named-short (bytes "largest figure") a.largest,
      gather-short (figure_row a.count (span a.largest) counts) 74
          (λ b. row-short a.count (label (span a.largest) (first_of (span a.largest) b))
          (together counts (span a.largest) (first_of (span a.largest) b))
          (label-short (span a.largest) (first_of (span a.largest) b)))
          rows,
      row-short a.count (bytes "more") (get_or counts 255 0) (omega (arith, words)),
    ))
