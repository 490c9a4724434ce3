-- A text is read as a line exactly if it is that line's spelling and the line fits the case. The fields of a line have no byte that parts or
-- ends them, so its text is cut into them again, and each field gives back what it was written for; what is read is spelled again and compared.
-- Assumes nothing.
use mathlib.Core.Path.{◌≡◌, refl, sym, ◌∙◌, ap}
use mathlib.Core.Bool.{Bool, true, false, cond, ◌&&◌}
use mathlib.Core.List.{List, [], ◌∷◌, ◌++◌, map}
use mathlib.Core.Option.{none, some}
use Prim.Native.Nat.{ℕ, zero, suc, ◌+◌, ◌-◌, ◌<◌}
use native.Mathlib.Omega.{arith}
use lib.ListN.{length, get_or, take, length-map}
use lib.Seq.{ext_get_or, get_or-append-add, get_or_at, take_at}
use lib.Dec.{eqb, ltb}
use borrow.Author.Tests.{ltb-true, eqb-true, eq-eqb, ne_eqb}
use Rattle.laws.specs.Below.{any_below, which_below, list_below}
use Rattle.laws.specs.Lists.{any, all}
use Rattle.laws.proofs.Bools.{clash, some-none, same_bool, and-true, and_both}
use Rattle.laws.proofs.Below.{any_at, any_of, list_length, list_get}
use Rattle.laws.proofs.Lists.{all_append}
use Rattle.laws.proofs.Which.{any-which}
use Rattle.text.specs.Text.{byte, decimal, line, bytes}
use Rattle.text.specs.Reading.{is_digit, is_plain, fields, value_of, same_text}
use Rattle.text.proofs.Decimal.{digit-is, digits_are, decimal-plain, value-decimal}
use Rattle.text.proofs.Lines.{same-is, same_self, cut_line}
use Rattle.railway.specs.declared.Railway.{Railway}
use Rattle.game_tables.specs.Tables.{no_figure}
use Rattle.plan.specs.Lines.{PlacementLine, PlanLine, start_line, placement_line, or_byte, train_digit, open_field, sign, point_field, section_field, plan_word, line_fields, spell, fits, Spells}
use Rattle.plan.specs.Reading.{guess_placement, guess, read_if, read_line}
use Rattle.plan.specs.Checked.{ReadsLine}

-- WHAT FITS, part by part
pub record Fits (r : Railway) (d : PlacementLine) : Type 0 where
  pub each-train : length d.sections ≡ r.trains
  pub there : all (λ x. ltb x r.sections) d.sections ≡ true
  pub figured : d.figure < no_figure
  pub opened : length d.opens ≡ r.trains
  pub pointed : length d.plus ≡ r.points

pub fits-parts : (r : Railway) (d : PlacementLine) → fits r (placement_line d) ≡ true → Fits r d
unfolding fits
fits-parts r d e =
    let a = five (eqb (length d.sections) r.trains) (all (λ x. ltb x r.sections) d.sections)
    (ltb d.figure no_figure) (eqb (length d.opens) r.trains) (eqb (length d.plus) r.points) e in
    record {
      each-train = eqb-true (length d.sections) r.trains a.0;
      there = a.1;
      figured = ltb-true d.figure no_figure a.2;
      opened = eqb-true (length d.opens) r.trains a.3;
      pointed = eqb-true (length d.plus) r.points a.4;
    }
  where
    five : (a b c d e : Bool) → (a && b && c && d && e) ≡ true → (a ≡ true) × (b ≡ true) × (c ≡ true) × (d ≡ true) × (e ≡ true)
    five true true true true e h = (refl, refl, refl, refl, h)
    five true true true false e h = clash h refl
    five true true false d e h = clash h refl
    five true false c d e h = clash h refl
    five false b c d e h = clash h refl

-- FIELDS are plain
or-plain : (b : ℕ) (s : List ℕ) → is_plain b ≡ true → all is_plain s ≡ true → all is_plain (or_byte b s) ≡ true
unfolding all
or-plain b [] p q = and_both (is_plain b) true p refl
or-plain b (x ∷ s) p q = q

trains-plain : (ts : List ℕ) → all is_plain (map train_digit ts) ≡ true
unfolding all is_plain
trains-plain [] = refl
trains-plain (t ∷ ts) = rw (ne_eqb (train_digit t) 9 (λ e. omega arith), ne_eqb (train_digit t) 10 (λ e. omega arith)) (trains-plain ts)

signs-plain : (ps : List Bool) → all is_plain (map sign ps) ≡ true
unfolding all is_plain
signs-plain [] = refl
signs-plain (true ∷ ps) = signs-plain ps
signs-plain (false ∷ ps) = signs-plain ps

sections-plain : (xs : List ℕ) → all (all is_plain) (map section_field xs) ≡ true
unfolding all
sections-plain [] = refl
sections-plain (x ∷ xs) = and_both (all is_plain (decimal (suc x))) (all (all is_plain) (map section_field xs)) (decimal-plain (suc x)) (sections-plain xs)

-- the fields behind the sections
abbrev pub last_fields : PlacementLine → List (List ℕ)
last_fields d = decimal d.figure ∷ open_field d.opens ∷ point_field d.plus ∷ []

last-plain : (d : PlacementLine) → all (all is_plain) (last_fields d) ≡ true
unfolding all is_plain
last-plain d =
    rw (decimal-plain d.figure)
    (rw (or-plain (byte "0") (map train_digit (which_below (λ t. get_or d.opens t false) (length d.opens))) refl (trains-plain (which_below (λ t. get_or d.opens t false) (length d.opens))))
    (rw (or-plain (byte ".") (map sign d.plus) refl (signs-plain d.plus))))

pub fields-plain : (l : PlanLine) → all (all is_plain) (line_fields l) ≡ true
unfolding bytes all is_plain
fields-plain (start_line n) = rw (decimal-plain n)
fields-plain (placement_line d) = all_append (all is_plain) (map section_field d.sections) (last_fields d) (sections-plain d.sections) (last-plain d)

-- a line is cut into its fields
cut-placement : (xs : List ℕ) (d : PlacementLine) → fields (line (map section_field xs ++ last_fields d)) ≡ map section_field xs ++ last_fields d
unfolding all
cut-placement [] d =
    let p = and-true (all is_plain (decimal d.figure)) (all (all is_plain) (open_field d.opens ∷ point_field d.plus ∷ [])) (last-plain d) in
    cut_line (decimal d.figure) (open_field d.opens ∷ point_field d.plus ∷ []) p.0 p.1
cut-placement (x ∷ xs) d =
    cut_line (decimal (suc x)) (map section_field xs ++ last_fields d) (decimal-plain (suc x))
    (all_append (all is_plain) (map section_field xs) (last_fields d) (sections-plain xs) (last-plain d))

cut-start : (n : ℕ) → fields (line (plan_word ∷ decimal n ∷ [])) ≡ plan_word ∷ decimal n ∷ []
unfolding bytes all is_plain
cut-start n = cut_line plan_word (decimal n ∷ []) refl (rw (decimal-plain n))

-- WHAT FIELDS GIVE BACK. A list, by its members.
pub list-is : {A : Type 0} (f : ℕ → A) (xs : List A) (k : ℕ) (d : A) → length xs ≡ k → ((i : ℕ) → i < k → f i ≡ get_or xs i d) → list_below f k ≡ xs
list-is f xs k d n h = ext_get_or d (list_below f k) xs (list_length f k ∙ sym n) (λ i l. let m : i < k = rw (list_length f k) at l in list_get f k i d m ∙ h i m)

-- open trains
or-byte : (s : List ℕ) (t : ℕ) → any (eqb (train_digit t)) (or_byte (byte "0") s) ≡ any (eqb (train_digit t)) s
unfolding any
or-byte [] t = rw (ne_eqb (train_digit t) (byte "0") (λ e. omega arith))
or-byte (b ∷ s) t = refl

open-digit : (f : ℕ → Bool) (k t : ℕ) → t < k → any (eqb (train_digit t)) (map train_digit (which_below f k)) ≡ f t
open-digit f k t l =
    any-which (eqb (train_digit t)) train_digit f k
    ∙ same_bool (any_below (λ u. f u && eqb (train_digit t) (train_digit u)) k) (f t)
    (λ e. let x = any_at (λ u. f u && eqb (train_digit t) (train_digit u)) k e in
    let y = and-true (f x.0) (eqb (train_digit t) (train_digit x.0)) x.2 in
    let z : train_digit t ≡ train_digit x.0 = eqb-true (train_digit t) (train_digit x.0) y.1 in
    let w : x.0 ≡ t = omega arith in
    rw w at y.0)
    (λ e. any_of (λ u. f u && eqb (train_digit t) (train_digit u)) k t l (and_both (f t) (eqb (train_digit t) (train_digit t)) e (eq-eqb (train_digit t) (train_digit t) refl)))

open-back : (os : List Bool) (k : ℕ) → length os ≡ k → list_below (λ t. any (eqb (train_digit t)) (open_field os)) k ≡ os
open-back os k n =
    list-is (λ t. any (eqb (train_digit t)) (open_field os)) os k false n
    (λ t l. or-byte (map train_digit (which_below (λ u. get_or os u false) (length os))) t ∙ open-digit (λ u. get_or os u false) (length os) t (omega arith))

-- points
pub sign_at : (ps : List Bool) (i : ℕ) → i < length ps → eqb (get_or (map sign ps) i 0) (byte "+") ≡ get_or ps i false
sign_at [] i l = absurd (omega arith)
sign_at (true ∷ ps) zero l = refl
sign_at (false ∷ ps) zero l = refl
sign_at (p ∷ ps) (suc i) l = sign_at ps i (omega arith)

points-back : (ps : List Bool) (k : ℕ) → length ps ≡ k → list_below (λ i. eqb (get_or (point_field ps) i 0) (byte "+")) k ≡ ps
unfolding list_below
points-back [] k n = let z : k ≡ 0 = omega arith in rw z
points-back (p ∷ ps) k n = list-is (λ i. eqb (get_or (map sign (p ∷ ps)) i 0) (byte "+")) (p ∷ ps) k false n (λ i l. sign_at (p ∷ ps) i (omega arith))

-- sections
sections-back : (xs : List ℕ) (s : ℕ) → s < no_figure → all (λ x. ltb x s) xs ≡ true → map (λ f. value_of 0 f - 1) (map section_field xs) ≡ xs
unfolding all
sections-back [] s l a = refl
sections-back (x ∷ xs) s l a =
    let h = and-true (ltb x s) (all (λ x. ltb x s) xs) a in
    let b : x < s = ltb-true x s h.0 in
    let v : value_of 0 (decimal (suc x)) ≡ suc x = value-decimal (suc x) (omega arith) in
    let c : suc x - 1 ≡ x = omega arith in
    let t : map (λ f. value_of 0 f - 1) (map section_field xs) ≡ xs = sections-back xs s l h.1 in
    rw (v, c, t)

-- no field of digits is the word of the first line
not-word : (s : List ℕ) → all is_digit s ≡ true → same_text s plan_word ≡ false
unfolding bytes same_text all
not-word [] p = refl
not-word (b ∷ s) p =
    let l = digit-is b (and-true (is_digit b) (all is_digit s) p).0 in
    rw (ne_eqb b (byte "p") (λ q. omega arith))

first-digits : (xs : List ℕ) (d : PlacementLine) → all is_digit (get_or (map section_field xs ++ last_fields d) 0 []) ≡ true
first-digits [] d = digits_are 10 d.figure
first-digits (x ∷ xs) d = digits_are 10 (suc x)

module _ (r : Railway) (s : r.sections < no_figure) where
  guess-placement : (d : PlacementLine) → Fits r d → guess_placement r (map section_field d.sections ++ last_fields d) ≡ d
  guess-placement d f =
      let k : length (map section_field d.sections) ≡ r.trains = length-map d.sections section_field ∙ f.each-train in
      let t : take r.trains (map section_field d.sections ++ last_fields d) ≡ map section_field d.sections = take_at (map section_field d.sections) (last_fields d) r.trains k in
      let g₀ : get_or (map section_field d.sections ++ last_fields d) r.trains [] ≡ decimal d.figure =
      get_or_at (map section_field d.sections) (decimal d.figure)
      (open_field d.opens ∷ point_field d.plus ∷ []) [] r.trains k in
      let g₁ : get_or (map section_field d.sections ++ last_fields d) (r.trains + 1) [] ≡ open_field d.opens =
      (let h : get_or (map section_field d.sections ++ last_fields d) (length (map section_field d.sections) + 1) []
      ≡ open_field d.opens = get_or-append-add (map section_field d.sections) (last_fields d) 1 [] in rw k at h) in
      let g₂ : get_or (map section_field d.sections ++ last_fields d) (r.trains + 2) [] ≡ point_field d.plus =
      (let h : get_or (map section_field d.sections ++ last_fields d) (length (map section_field d.sections) + 2) []
      ≡ point_field d.plus = get_or-append-add (map section_field d.sections) (last_fields d) 2 [] in rw k at h) in
      rw (
        t,
        g₀,
        g₁,
        g₂,
        sections-back d.sections r.sections s f.there,
        value-decimal d.figure (omega (arith, f.figured)),
        open-back d.opens r.trains f.opened,
        points-back d.plus r.points f.pointed,
      )

  guess-right : (l : PlanLine) → fits r l ≡ true → guess r (fields (spell l)) ≡ l
  unfolding bytes guess spell same_text fits
  guess-right (start_line n) e = let v : value_of 0 (decimal n) ≡ n = value-decimal n (omega (arith, ltb-true n no_figure e)) in rw (cut-start n, v)
  guess-right (placement_line d) e =
      rw (cut-placement d.sections d, not-word _ (first-digits d.sections d)) (ap placement_line (guess-placement d (fits-parts r d e)))

  -- A LINE THAT FITS is read from its spelling
  pub reads : (l : PlanLine) → fits r l ≡ true → read_line r (spell l) ≡ some l
  unfolding read_line
  reads l e = rw (guess-right l e, e, same_self (spell l))

-- what is read is a line that the text spells, and that fits
read-spells : (r : Railway) (text : List ℕ) (g l : PlanLine) → read_if r text g ≡ some l → Spells r text l
read-spells r text g l e = go (fits r g && same_text (spell g) text) refl e
  where
    go : (b : Bool) → (fits r g && same_text (spell g) text) ≡ b → cond b (some g) none ≡ some l → Spells r text l
    go true y e = let z : g ≡ l = cc in let h = and-true (fits r g) (same_text (spell g) text) y in record { fit = rw z at h.0; spelled = rw z at (same-is (spell g) text h.1) }
    go false y e = some-none e refl

-- THE FORM OF A LINE rests on `spell` and `fits` alone
pub reads-line : ReadsLine
unfolding read_line
reads-line r s text l = (read-spells r text (guess r (fields text)) l, λ x. ap (read_line r) (sym x.spelled) ∙ reads r s l x.fit)

-- no text spells two lines that fit, for it is read as one
pub spells_one : (r : Railway) → r.sections < no_figure → (k l : PlanLine) → fits r k ≡ true → fits r l ≡ true → spell k ≡ spell l → k ≡ l
spells_one r s k l a b e =
    let x : read_line r (spell k) ≡ some k = reads r s k a in
    let y : read_line r (spell l) ≡ some l = reads r s l b in
    let z : read_line r (spell k) ≡ read_line r (spell l) = ap (read_line r) e in
    cc
