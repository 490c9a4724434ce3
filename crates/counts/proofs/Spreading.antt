-- How the figures are spread, told by the counts of a table: a placement is in count n exactly if the table has figure n there, and so for greater ones and for none. What is said of the
-- table's figures is said of all that agrees with them at every code. Assumes nothing.
use mathlib.Core.Path.{◌≡◌, refl, sym, ◌∙◌, ap}
use mathlib.Core.Logic.{◌↔◌, inl, inr}
use mathlib.Core.Bool.{Bool, true}
use mathlib.Core.List.{List}
use mathlib.Core.Option.{Option, none, some}
use Prim.Native.Nat.{ℕ, zero, suc, ◌≤◌, ◌<◌}
use native.Mathlib.Omega.{arith}
use lib.ListN.{length, get_or}
use lib.Dec.{ltb, eqb}
use borrow.Author.Tests.{eq-eqb, eqb-true, ltb-true, ltb-false, lt-ltb, le-ltb}
use Rattle.laws.specs.Below.{count_below, sum_below, list_below}
use Rattle.laws.proofs.Bools.{bool?, same_bool, some-none, some_one}
use Rattle.laws.proofs.Below.{sum_same, list_get, list_length}
use Rattle.game_tables.specs.Tables.{figure_in}
use Rattle.counts.specs.Counts.{classes, class_of, in_class, NumberOf, Spread}
use Rattle.counts.proofs.Adding.{by-class}

-- (Examples is named so that it is checked before: a wrong definition then shows at a computed value.)

-- IN WHICH COUNT, by the figure
class_low : (m : ℕ) → m < 255 → class_of (some m) ≡ m
class_low m l = rw (lt-ltb m 255 l)

class-high : (m : ℕ) → 255 ≤ m → class_of (some m) ≡ 255
class-high m l = rw (le-ltb m 255 l)

-- one or the other
record Class (m : ℕ) : Type 0 where
  low : m < 255 → class_of (some m) ≡ m
  high : 255 ≤ m → class_of (some m) ≡ 255
  less : class_of (some m) < 256
  same : (n : ℕ) → n < 255 → class_of (some m) ≡ n → m ≡ n
  more : class_of (some m) ≡ 255 → 254 < m

class : (m : ℕ) → Class m
class m = elim (bool? (ltb m 255)) [
  | inl e ↦
      let l : m < 255 = ltb-true m 255 e in
      let is : class_of (some m) ≡ m = class_low m l in
      record { low = λ h. is; high = λ h. absurd (omega arith); less = omega (arith, is); same = λ n h c. sym is ∙ c; more = λ c. omega (arith, is, c) }
  | inr e ↦
      let l : 255 ≤ m = ltb-false m 255 e in
      let is : class_of (some m) ≡ 255 = class-high m l in
      record { low = λ h. absurd (omega arith); high = λ h. is; less = omega (arith, is); same = λ n h c. absurd (omega (arith, is, c)); more = λ c. omega arith }
]

class-below : (o : Option ℕ) → class_of o < classes
class-below none = omega arith
class-below (some n) = omega (arith, (class n).less)

is-each : (o : Option ℕ) (n : ℕ) → n ≤ 254 → (eqb (class_of o) n ≡ true) ↔ (o ≡ some n)
is-each none n l = ((λ e. let z : 256 ≡ n = eqb-true 256 n e in absurd (omega arith)), λ e. some-none refl (sym e))
is-each (some m) n l = (
  (λ e. ap (λ (x : ℕ). some x) ((class m).same n (omega arith) (eqb-true (class_of (some m)) n e))),
  λ e. let z : m ≡ n = some_one e in eq-eqb (class_of (some m)) n ((class m).low (omega arith) ∙ z),
)

is_greater : (o : Option ℕ) → (eqb (class_of o) 255 ≡ true) ↔ ((n : ℕ) × (254 < n) × (o ≡ some n))
is_greater none = ((λ e. let z : ◌≡◌ {A = ℕ} 256 255 = eqb-true 256 255 e in absurd (omega arith)), λ h. some-none refl (sym h.2))
is_greater (some m) = (
  (λ e. (m, (class m).more (eqb-true (class_of (some m)) 255 e), refl)),
  λ h. let z : m ≡ h.0 = some_one h.2 in eq-eqb (class_of (some m)) 255 ((class m).high (omega (arith, h.1))),
)

is-none : (o : Option ℕ) → (eqb (class_of o) 256 ≡ true) ↔ (o ≡ none)
is-none none = ((λ e. refl), λ e. refl)
is-none (some m) = ((λ e. absurd (omega (arith, (class m).less, eqb-true (class_of (some m)) 256 e))), λ e. some-none refl e)

-- TWO TESTS that pass the same numbers pass as many
pub count_same : (f g : ℕ → Bool) (k : ℕ) → ((i : ℕ) → i < k → f i ≡ g i) → count_below f k ≡ count_below g k
unfolding count_below
count_same f g zero h = refl
count_same f g (suc k) h =
    let a : count_below f k ≡ count_below g k = count_same f g k (λ i l. h i (omega arith)) in
    let b : f k ≡ g k = h k (omega arith) in
    rw (a, b)

pub number-one : (Such : ℕ → Type 0) (m a b : ℕ) → NumberOf Such m a → NumberOf Such m b → a ≡ b
number-one Such m a b x y =
    x.many
    ∙ count_same x.test y.test m (λ p l. same_bool (x.test p) (y.test p) (λ e. (y.exact p l).1 ((x.exact p l).0 e)) (λ e. (x.exact p l).1 ((y.exact p l).0 e)))
    ∙ sym y.many

-- HOW MANY of all that agrees with a table's figures at each code below m
module _ (figs : List ℕ) (m : ℕ) (Is : ℕ → Option ℕ → Type 0) (agrees : (p : ℕ) → p < m → (f : Option ℕ) → (figure_in figs p ≡ f) ↔ Is p f) where
  each-one : (n : ℕ) → n ≤ 254 → (p : ℕ) → p < m → (in_class figs n p ≡ true) ↔ Is p (some n)
  unfolding in_class
  each-one n h p l = ((λ e. (agrees p l (some n)).0 ((is-each (figure_in figs p) n h).0 e)), λ i. (is-each (figure_in figs p) n h).1 ((agrees p l (some n)).1 i))

  greater-one : (p : ℕ) → p < m → (in_class figs 255 p ≡ true) ↔ ((n : ℕ) × (254 < n) × Is p (some n))
  unfolding in_class
  greater-one p l = (
    (λ e. let g = (is_greater (figure_in figs p)).0 e in (g.0, g.1, (agrees p l (some g.0)).0 g.2)),
    λ h. (is_greater (figure_in figs p)).1 (h.0, h.1, (agrees p l (some h.0)).1 h.2),
  )

  none-one : (p : ℕ) → p < m → (in_class figs 256 p ≡ true) ↔ Is p none
  unfolding in_class
  none-one p l = ((λ e. (agrees p l none).0 ((is-none (figure_in figs p)).0 e)), λ i. (is-none (figure_in figs p)).1 ((agrees p l none).1 i))

  pub number-each : (n x : ℕ) → n ≤ 254 → x ≡ count_below (in_class figs n) m → NumberOf (λ p. Is p (some n)) m x
  number-each n x h e = record { test = in_class figs n; exact = each-one n h; many = e }

  pub number-greater : (x : ℕ) → x ≡ count_below (in_class figs 255) m → NumberOf (λ p. (n : ℕ) × (254 < n) × Is p (some n)) m x
  number-greater x e = record { test = in_class figs 255; exact = greater-one; many = e }

  pub number-none : (x : ℕ) → x ≡ count_below (in_class figs 256) m → NumberOf (λ p. Is p none) m x
  number-none x e = record { test = in_class figs 256; exact = none-one; many = e }

  -- THE SPREAD, by the counts of the table
  module _ (counts : List ℕ) (by-table : counts ≡ list_below (λ i. count_below (in_class figs i) m) classes) where
    count_at : (i : ℕ) → i < classes → get_or counts i 0 ≡ count_below (in_class figs i) m
    count_at i l = ap (λ (xs : List ℕ). get_or xs i 0) by-table ∙ list_get (λ i. count_below (in_class figs i) m) classes i 0 l

    all-placements : sum_below (λ i. get_or counts i 0) classes ≡ m
    unfolding in_class
    all-placements =
        sum_same (λ i. get_or counts i 0) (λ i. count_below (in_class figs i) m) classes count_at
        ∙ by-class (λ p. class_of (figure_in figs p)) classes m (λ p. class-below (figure_in figs p))

    pub spread-of : Spread Is m counts
    spread-of =
        record {
          each = λ n h. number-each n (get_or counts n 0) h (count_at n (omega arith));
          greater = number-greater (get_or counts 255 0) (count_at 255 (omega arith));
          without = number-none (get_or counts 256 0) (count_at 256 (omega arith));
          sized = ap (λ (xs : List ℕ). length xs) by-table ∙ list_length (λ i. count_below (in_class figs i) m) classes;
          adds-up = all-placements;
        }
