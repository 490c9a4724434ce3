-- A line is cut into the fields it was made of: no field has a byte that parts or ends them, so every cut falls where a
-- tab was put. Assumes nothing.
use Prim.Native.Nat.{ℕ}
use mathlib.Core.Path.{◌≡◌, refl, ◌∙◌, ap}
use mathlib.Core.Bool.{Bool, true, false, cond, not, ◌&&◌}
use mathlib.Core.List.{List, [], ◌∷◌, ◌++◌}
use lib.Dec.{eqb}
use borrow.Author.Tests.{eqb-true, eq-eqb}
use Rattle.laws.specs.Lists.{all, on_first}
use Rattle.laws.proofs.Bools.{clash, and-true, and_both}
use Rattle.text.specs.Text.{line}
use Rattle.text.specs.Reading.{is_plain, fields, same_text}

-- the same text
pub same-is : (a b : List ℕ) → same_text a b ≡ true → a ≡ b
unfolding same_text
same-is [] [] e = refl
same-is [] (y ∷ b) e = clash e refl
same-is (x ∷ a) [] e = clash e refl
same-is (x ∷ a) (y ∷ b) e =
    let t = and-true (eqb x y) (same_text a b) e in
    let h : x ≡ y = eqb-true x y t.0 in
    let l : a ≡ b = same-is a b t.1 in
    rw (h, l)

pub same_self : (a : List ℕ) → same_text a a ≡ true
unfolding same_text
same_self [] = refl
same_self (x ∷ a) = and_both (eqb x x) (same_text a a) (eq-eqb x x refl) (same_self a)

-- a plain byte is put to the field it stands in
cut_on : (b : ℕ) (s : List ℕ) (fs x : List (List ℕ)) → is_plain b ≡ true → x ≡ s ∷ fs
    → cond (eqb b 9) ([] ∷ x) (cond (eqb b 10) x (on_first b x)) ≡ (b ∷ s) ∷ fs
unfolding is_plain
cut_on b s fs x p e = go (eqb b 9) (eqb b 10) p
  where
    go : (u v : Bool) → (not u && not v) ≡ true → cond u ([] ∷ x) (cond v x (on_first b x)) ≡ (b ∷ s) ∷ fs
    go true v q = clash q refl
    go false true q = clash q refl
    go false false q = rw e

pub cut-tab : (s t : List ℕ) → all is_plain s ≡ true → fields (s ++ (9 ∷ t)) ≡ s ∷ fields t
unfolding fields all
cut-tab [] t p = refl
cut-tab (b ∷ s) t p =
    let h = and-true (is_plain b) (all is_plain s) p in
    cut_on b s (fields t) (fields (s ++ (9 ∷ t))) h.0 (cut-tab s t h.1)

pub cut-end : (s : List ℕ) → all is_plain s ≡ true → fields (s ++ (10 ∷ [])) ≡ s ∷ []
unfolding fields all
cut-end [] p = refl
cut-end (b ∷ s) p =
    let h = and-true (is_plain b) (all is_plain s) p in
    cut_on b s [] (fields (s ++ (10 ∷ []))) h.0 (cut-end s h.1)

-- A LINE of at least one field, each of plain bytes, is cut into them
pub cut_line : (f : List ℕ) (fs : List (List ℕ)) → all is_plain f ≡ true → all (all is_plain) fs ≡ true
    → fields (line (f ∷ fs)) ≡ f ∷ fs
unfolding line all
cut_line f [] p q = cut-end f p
cut_line f (g ∷ fs) p q =
    let h = and-true (all is_plain g) (all (all is_plain) fs) q in
    cut-tab f (line (g ∷ fs)) p ∙ ap (λ (gs : List (List ℕ)). f ∷ gs) (cut_line g fs h.0 h.1)
