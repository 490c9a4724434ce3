-- Which row of several is given: the first that applies, and none exactly where no row applies. Of two lists of rows,
-- one behind the other, the first of the one or else of the other is given. And a number is one refusal's alone, so
-- what is given is known by its number. Assumes nothing.
use mathlib.Core.Path.{◌≡◌, refl, sym, ◌∙◌, ap}
use mathlib.Core.Logic.{◌↔◌}
use mathlib.Core.Bool.{Bool, true, false, cond}
use lib.Dec.{eqb}
use mathlib.Core.List.{List, [], ◌∷◌, ◌++◌, Memᴰ}
use mathlib.Core.Option.{Option, none, some}
use Prim.Native.Nat.{ℕ, ◌≤◌}
use native.Mathlib.Omega.{arith}
use lib.ListN.{get_or}
use Rattle.laws.specs.Below.{or_else}
use Rattle.laws.specs.Lists.{Every}
use Rattle.laws.proofs.Bools.{clash, some-none, some_one, not-true}
use Rattle.laws.proofs.Lists.{every-none, every_more}
use Rattle.railway.specs.declared.Refusal.{Refusal}
use Rattle.railway.specs.declared.Refusal.TheVariants.{Length, Form, Count, Weight, Unknown, Join, Loose, Chain}
use Rattle.railway.specs.declared.Refusal.TheVariants.{Double, Place, Mismatch, Space, PlanForm, PlanFault}
use Rattle.railway.specs.declared.Refusal.TheVariants.{Report, Stranded, Log}
use Rattle.railway.specs.Refusals.{number, numbers_in_order, rank, Row, row, Applying, NotApplying, refuse_if, first}
use Rattle.railway.specs.Refusals.{number_of, FirstRow}

first_step : (b : Bool) (x : Row) (xs : List Row) (f : Refusal) → x.applies ≡ b
    → refuse_if b x.refusal (first xs) ≡ some f
    → (first xs ≡ some f → FirstRow xs f) → FirstRow (x ∷ xs) f
first_step true x xs f h e ih =
    let z : x.refusal ≡ f = cc in
    record {
      before = [];
      after = xs;
      order = rw (← z, ← h);
      here = refl;
      not-before = every-none (λ y. Applying y → ⊥);
    }
first_step false x xs f h e ih =
    let t = ih e in
    record {
      before = x ∷ t.before;
      after = t.after;
      order = ap (λ (l : List Row). x ∷ l) t.order;
      here = refl;
      not-before = every_more (λ y. Applying y → ⊥) x t.before (λ p. clash p h) t.not-before;
    }

pub first-is : (xs : List Row) (f : Refusal) → first xs ≡ some f → FirstRow xs f
unfolding first
first-is [] f e = some-none e refl
first-is (x ∷ xs) f e = first_step x.applies x xs f refl e (first-is xs f)

passed : (before after : List Row) (f : Refusal) → Every (λ y. Applying y → ⊥) before
    → first (before ++ (row f true ∷ after)) ≡ some f
unfolding first
passed [] after f h = refl
passed (x ∷ xs) after f h =
    rw (not-true x.applies (h x (Memᴰ.head refl))) (passed xs after f (λ y m. h y (Memᴰ.tail m)))

pub is-first : (xs : List Row) (f : Refusal) → FirstRow xs f → first xs ≡ some f
is-first xs f w = rw w.order (passed w.before w.after f w.not-before)

-- given exactly if
pub given-exactly : (xs : List Row) (f : Refusal) → (first xs ≡ some f) ↔ FirstRow xs f
given-exactly xs f = (first-is xs f, is-first xs f)

-- nothing is given exactly where no row applies
none-step : (b : Bool) (y : Row) (xs : List Row) (x : Row) → y.applies ≡ b → refuse_if b y.refusal (first xs) ≡ none
    → Memᴰ x (y ∷ xs) → (first xs ≡ none → Memᴰ x xs → x.applies ≡ false) → x.applies ≡ false
none-step true y xs x h e m ih = some-none refl e
none-step false y xs x h e (Memᴰ.head p) ih = rw p h
none-step false y xs x h e (Memᴰ.tail m) ih = ih e m

pub first-none : (xs : List Row) → first xs ≡ none → Every NotApplying xs
unfolding first
first-none [] e x m = elim m [ ]
first-none (y ∷ xs) e x m = none-step y.applies y xs x refl e m (λ e m. first-none xs e x m)

pub none_first : (xs : List Row) → Every NotApplying xs → first xs ≡ none
unfolding first
none_first [] h = refl
none_first (x ∷ xs) h = rw (h x (Memᴰ.head refl)) (none_first xs (λ y m. h y (Memᴰ.tail m)))

-- rows behind others: the first of the one list, or else of the other
pub first-append : (xs ys : List Row) → first (xs ++ ys) ≡ or_else (first xs) (first ys)
unfolding first
first-append [] ys = refl
first-append (x ∷ xs) ys = go x.applies x.refusal (first-append xs ys)
  where
    go : (b : Bool) (f : Refusal) → first (xs ++ ys) ≡ or_else (first xs) (first ys)
        → refuse_if b f (first (xs ++ ys)) ≡ or_else (refuse_if b f (first xs)) (first ys)
    go true f h = refl
    go false f h = h

-- one row at the head of a list
pub first-same : (f : Refusal) (a b : Bool) (xs ys : List Row) → a ≡ b → first xs ≡ first ys
    → first (row f a ∷ xs) ≡ first (row f b ∷ ys)
unfolding first
first-same f a b xs ys p q = rw (p, q)

pub refuse-none : (b : Bool) (f : Refusal) (later : Option Refusal) → refuse_if b f later ≡ none
    → (b ≡ false) × (later ≡ none)
refuse-none true f later e = some-none refl e
refuse-none false f later e = (refl, e)

-- numbers tell refusals apart
by_number : ℕ → Refusal
by_number n =
    cond (eqb n 1) Length
    (cond (eqb n 2) Form
    (cond (eqb n 3) Count
    (cond (eqb n 4) Unknown
    (cond (eqb n 5) Join
    (cond (eqb n 6) Loose
    (cond (eqb n 7) Double
    (cond (eqb n 8) Place
    (cond (eqb n 9) Space
    (cond (eqb n 10) PlanForm
    (cond (eqb n 11) PlanFault
    (cond (eqb n 12) Report
    (cond (eqb n 13) Chain
    (cond (eqb n 14) Mismatch
    (cond (eqb n 15) Stranded
    (cond (eqb n 16) Weight
    Log)))))))))))))))

number-back : (f : Refusal) → by_number (number f) ≡ f
unfolding by_number
number-back Length = refl
number-back Form = refl
number-back Count = refl
number-back Unknown = refl
number-back Join = refl
number-back Loose = refl
number-back Double = refl
number-back Place = refl
number-back Space = refl
number-back PlanForm = refl
number-back PlanFault = refl
number-back Report = refl
number-back Chain = refl
number-back Mismatch = refl
number-back Stranded = refl
number-back Weight = refl
number-back Log = refl

pub number-one : (f g : Refusal) → number f ≡ number g → f ≡ g
number-one f g e = sym (number-back f) ∙ (let z : by_number (number f) ≡ by_number (number g) = rw e in z) ∙ number-back g

-- a refusal's number is neither 0 nor one of the two largest bytes, by which exported calls say other things
pub between : (f : Refusal) → (1 ≤ number f) × (number f ≤ 253)
between Length = (omega arith, omega arith)
between Form = (omega arith, omega arith)
between Count = (omega arith, omega arith)
between Weight = (omega arith, omega arith)
between Unknown = (omega arith, omega arith)
between Join = (omega arith, omega arith)
between Loose = (omega arith, omega arith)
between Chain = (omega arith, omega arith)
between Double = (omega arith, omega arith)
between Place = (omega arith, omega arith)
between Space = (omega arith, omega arith)
between PlanForm = (omega arith, omega arith)
between PlanFault = (omega arith, omega arith)
between Report = (omega arith, omega arith)
between Mismatch = (omega arith, omega arith)
between Stranded = (omega arith, omega arith)
between Log = (omega arith, omega arith)

pub number-tells : (a b : Option Refusal) → number_of a ≡ number_of b → a ≡ b
number-tells none none e = refl
number-tells none (some g) e = some-none e refl
number-tells (some f) none e = some-none refl e
number-tells (some f) (some g) e = ap (λ (h : Refusal). some h) (number-one f g (some_one e))

-- Each refusal's number stands at its rank.
pub rank-place : (f : Refusal) → get_or numbers_in_order (rank f) 0 ≡ number f
rank-place Length = refl
rank-place Form = refl
rank-place Count = refl
rank-place Weight = refl
rank-place Unknown = refl
rank-place Join = refl
rank-place Loose = refl
rank-place Chain = refl
rank-place Double = refl
rank-place Place = refl
rank-place Mismatch = refl
rank-place Space = refl
rank-place PlanForm = refl
rank-place PlanFault = refl
rank-place Report = refl
rank-place Stranded = refl
rank-place Log = refl
