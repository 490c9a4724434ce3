-- Where the new text is refused, of the old record's first number and the text's the one of lower rank is the first that applies to either: the table of numbers rises by rank, the rows
-- of a record stand in its order, and in a list that rises what stands before an element is what has a lower rank. Assumes nothing.
use mathlib.Core.Path.{◌≡◌, refl, ap}
use mathlib.Core.Logic.{◌⊎◌, inl, inr}
use mathlib.Core.Bool.{true, false}
use mathlib.Core.List.{List, [], ◌∷◌, ◌++◌, map, Memᴰ}
use mathlib.Core.Option.{Option, none, some}
use Prim.Native.Nat.{ℕ, suc, ◌≤◌, ◌<◌}
use native.Mathlib.Omega.{arith}
use lib.Dec.{ltb, leb}
use borrow.Author.Tests.{ltb-true, ltb-false, leb-true}
use Rattle.laws.specs.Lists.{rises}
use Rattle.laws.proofs.Bools.{bool?, clash, and-true}
use Rattle.laws.proofs.Lists.{every-none, every_more}
use Rattle.railway.specs.declared.Railway.{Railway}
use Rattle.railway.specs.declared.Refusal.{Refusal}
use Rattle.railway.specs.Refusals.{rank, Row, row, Applying, FirstOf, FirstRow}
use Rattle.railway.specs.Rows.{record_rows, record_refusal}
use Rattle.railway.proofs.Refusals.{first-is, first-none}
use Rattle.case_file.specs.Given.{Applies, case_table, RefusedWith}
use Rattle.desk.specs.Change.{sooner, row_rank, AppliesToEither}

-- (ChangeExamples is named so that it is checked before: a wrong definition then shows at a computed value.)

-- A LIST THAT RISES BY RANK: none is below the bound, and what has a lower rank than an element stands before it
module _ {A : Type 0} (rk : A → ℕ) where
  pub rises-least : (c : ℕ) (l : List A) (x : A) → rises c (map rk l) ≡ true → Memᴰ x l → c ≤ rk x
  unfolding rises
  rises-least c [] x e x4 = elim x4 [ ]
  rises-least c (y ∷ l) x e (mathlib.Core.List.Memᴰ.head p) =
      let k = and-true (leb c (rk y)) (rises (suc (rk y)) (map rk l)) e in rw p (leb-true c (rk y) k.0)
  rises-least c (y ∷ l) x e (mathlib.Core.List.Memᴰ.tail m) =
      let k = and-true (leb c (rk y)) (rises (suc (rk y)) (map rk l)) e in omega (arith, leb-true c (rk y) k.0, rises-least (suc (rk y)) l x k.1 m)

  before-rises : (c : ℕ) (b a : List A) (x y : A) → rises c (map rk (b ++ (x ∷ a))) ≡ true → Memᴰ y (b ++ (x ∷ a)) → rk y < rk x → Memᴰ y b
  unfolding rises
  before-rises c [] a x y e (mathlib.Core.List.Memᴰ.head p) l = absurd (let z : rk y ≡ rk x = ap rk p in omega arith)
  before-rises c [] a x y e (mathlib.Core.List.Memᴰ.tail m) l =
      let k = and-true (leb c (rk x)) (rises (suc (rk x)) (map rk a)) e in absurd (omega (arith, rises-least (suc (rk x)) a y k.1 m))
  before-rises c (z ∷ b) a x y e (mathlib.Core.List.Memᴰ.head p) l = mathlib.Core.List.Memᴰ.head p
  before-rises c (z ∷ b) a x y e (mathlib.Core.List.Memᴰ.tail m) l =
      let k = and-true (leb c (rk z)) (rises (suc (rk z)) (map rk (b ++ (x ∷ a)))) e in mathlib.Core.List.Memᴰ.tail (before-rises (suc (rk z)) b a x y k.1 m l)

  module _ (P : A → Type 0) where
    -- so of what applies the first has the lowest rank, and what has the lowest is the first
    pub none-lower : (c : ℕ) (table : List A) (x y : A) → rises c (map rk table) ≡ true → FirstOf P table x → Memᴰ y table → rk y < rk x → P y → ⊥
    none-lower c table x y up w m l p = w.not-before y (before-rises c w.before w.after x y (rw w.order at up) (rw w.order at m) l) p

    lowest-first : (c : ℕ) (table : List A) (x : A) → rises c (map rk table) ≡ true → Memᴰ x table → P x → ((y : A) → Memᴰ y table → rk y < rk x → P y → ⊥) → FirstOf P table x
    unfolding rises
    lowest-first c [] x up x6 here off = elim x6 [ ]
    lowest-first c (z ∷ l) x up (mathlib.Core.List.Memᴰ.head p) here off =
        record { before = []; after = l; order = rw p refl; here = here; not-before = every-none (λ y. P y → ⊥) }
    lowest-first c (z ∷ l) x up (mathlib.Core.List.Memᴰ.tail m) here off =
        let k = and-true (leb c (rk z)) (rises (suc (rk z)) (map rk l)) up in
        let t = lowest-first (suc (rk z)) l x k.1 m here (λ y n. off y (mathlib.Core.List.Memᴰ.tail n)) in
        record {
          before = z ∷ t.before;
          after = t.after;
          order = ap (λ (v : List A). z ∷ v) t.order;
          here = t.here;
          not-before = every_more (λ y. P y → ⊥) z t.before (off z (mathlib.Core.List.Memᴰ.head refl) (omega (arith, rises-least (suc (rk z)) l x k.1 m))) t.not-before;
        }

in_map : {A B : Type 0} (f : A → B) (l : List A) (x : A) → Memᴰ x l → Memᴰ (f x) (map f l)
in_map {A = A} {B = B} f [] x x3 = elim x3 [ ]
in_map f (y ∷ l) x (mathlib.Core.List.Memᴰ.head p) = mathlib.Core.List.Memᴰ.head (ap f p)
in_map f (y ∷ l) x (mathlib.Core.List.Memᴰ.tail m) = mathlib.Core.List.Memᴰ.tail (in_map f l x m)

-- THE TABLE AND THE ROWS of a record rise
pub table-rises : rises 0 (map rank case_table) ≡ true
unfolding rises
table-rises = refl

pub rows-rise : (r : Railway) → rises 2 (map row_rank (record_rows r)) ≡ true
unfolding rises
rows-rise r = refl

-- and each of these stands in the table
pub in_table : (r : Railway) (x : Row) → Memᴰ x (record_rows r) → Memᴰ x.refusal case_table
in_table r x m = mathlib.Core.List.Memᴰ.tail (mathlib.Core.List.Memᴰ.tail (in_map (λ y. y.refusal) (record_rows r) x m))

pub first-in : {A : Type 0} (P : A → Type 0) (table : List A) (x : A) → FirstOf P table x → Memᴰ x table
first-in P table x w = rw w.order (mathlib.Core.List.Memᴰ.append_right w.before (mathlib.Core.List.Memᴰ.head refl))

module _ (r : Railway) (text : List ℕ) (g : Refusal) (w : RefusedWith text g) where
  -- none of lower rank applies to the text
  text-lower : (x : Refusal) → Memᴰ x case_table → rank x < rank g → Applies text x → ⊥
  text-lower x = none-lower rank (Applies text) 0 case_table g x table-rises w

  -- by what the test of the record gives
  pub sooner-first : (o : Option Refusal) → record_refusal r ≡ o → FirstOf (AppliesToEither r text) case_table (sooner o g)
  unfolding record_refusal
  sooner-first none e =
      lowest-first rank (AppliesToEither r text) 0 case_table g table-rises (first-in (Applies text) case_table g w) (inr w.here) (λ x m l z. elim z [
        | inl n ↦ clash refl (first-none (record_rows r) e (row x true) n)
        | inr a ↦ text-lower x m l a
      ])
  sooner-first (some f) e = by (first-is (record_rows r) f e) (bool? (ltb (rank f) (rank g)))
    where
      by : FirstRow (record_rows r) f → (ltb (rank f) (rank g) ≡ true) ⊎ (ltb (rank f) (rank g) ≡ false) → FirstOf (AppliesToEither r text) case_table (sooner (some f) g)
      by v (inl b) =
          let k : rank f < rank g = ltb-true (rank f) (rank g) b in
          let h : Memᴰ (row f true) (record_rows r) = first-in Applying (record_rows r) (row f true) v in
          rw b (lowest-first rank (AppliesToEither r text) 0 case_table f table-rises (in_table r (row f true) h) (inl h) (λ x m l z. elim z [
            | inl n ↦ none-lower row_rank Applying 2 (record_rows r) (row f true) (row x true) (rows-rise r) v n l refl
            | inr a ↦ text-lower x m (omega arith) a
          ]))
      by v (inr b) =
          let k : rank g ≤ rank f = ltb-false (rank f) (rank g) b in
          rw b (lowest-first rank (AppliesToEither r text) 0 case_table g table-rises (first-in (Applies text) case_table g w) (inr w.here) (λ x m l z. elim z [
            | inl n ↦ none-lower row_rank Applying 2 (record_rows r) (row f true) (row x true) (rows-rise r) v n (omega arith) refl
            | inr a ↦ text-lower x m l a
          ]))
