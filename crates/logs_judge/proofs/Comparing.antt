-- Two iterators compared item by item: `eq` tells whether the lists that they give are the same. And the sections that a log gives for a train, as the code picks them. Assumes nothing.
use mathlib.Core.Path.{◌≡◌, refl, sym, ◌∙◌, ap}
use mathlib.Core.Logic.{inl, inr}
use mathlib.Core.Bool.{Bool, true, false, not, ◌||◌}
use mathlib.Core.List.{List, [], ◌∷◌, map}
use Prim.Native.Nat.{ℕ, ◌<◌}
use native.Mathlib.Omega.{arith}
use lib.ListN.{length, get_or}
use lib.Dec.{eqb}
use borrow.Author.Tests.{eqb-true, eq-eqb}
use Rattle.std.specs.Prelude.{Option, Some, None, IfSome, MatchOption}
use Rattle.std.specs.List.{filter, list_any, AllZip}
use Rattle.std.specs.Iterator.{ComparesItemsByEq, Yields}
use Rattle.std.proofs.lemmas.Iterator.{YieldsList}
use Rattle.std.proofs.lemmas.Iterator.Consumers.{YieldsList-at, YieldsList-turn, YieldsList-end}
use Rattle.laws.specs.Lists.{any}
use Rattle.laws.proofs.Lists.{get_or-inside}
use Rattle.laws.proofs.Bools.{bool?, clash, and-true, and_both, not-true}
use Rattle.logs.specs.declared.Entry.{Entry}
use Rattle.logs.specs.Logs.{sections_for}
use Rattle.logs.specs.Computed.{same_list}

same-is : (xs ys : List ℕ) → same_list xs ys ≡ true → xs ≡ ys
unfolding same_list
same-is [] [] e = refl
same-is [] (y ∷ ys) e = clash e refl
same-is (x ∷ xs) [] e = clash e refl
same-is (x ∷ xs) (y ∷ ys) e =
    let a = and-true (eqb x y) (same_list xs ys) e in
    let p : x ≡ y = eqb-true x y a.0 in let q : xs ≡ ys = same-is xs ys a.1 in rw (p, q) refl

is_same : (xs : List ℕ) → same_list xs xs ≡ true
unfolding same_list
is_same [] = refl
is_same (x ∷ xs) = and_both (eqb x x) (same_list xs xs) (eq-eqb x x refl) (is_same xs)

apart : (xs ys : List ℕ) → (xs ≡ ys → ⊥) → same_list xs ys ≡ false
apart xs ys n = not-true (same_list xs ys) (λ e. n (same-is xs ys e))

tied : (xs ys : List ℕ) → AllZip (λ x y. eqb x y ≡ true) xs ys → xs ≡ ys
tied [] [] h = refl
tied [] (y ∷ ys) h = absurd h
tied (x ∷ xs) [] h = absurd h
tied (x ∷ xs) (y ∷ ys) h = let p : x ≡ y = eqb-true x y h.0 in let q : xs ≡ ys = tied xs ys h.1 in rw (p, q) refl

-- WHAT TWO ITERATORS GAVE up to some place was the same, and then the one answered and the other
module _ {S T : Type 0} {steps : S → Option ℕ → S → Type 0} {others : T → Option ℕ → T → Type 0} {s : S} {it : T} (all them : List ℕ)
    (e : YieldsList steps (λ x. x) s all) (f : YieldsList others (λ x. x) it them) (xs ys : List ℕ) (t u : S) (v w : T)
    (ran : Yields steps s xs t) (their : Yields others it ys v) (same : xs ≡ ys) where
  both-end : steps t None u → others v None w → all ≡ them
  both-end a b =
      let m : map (λ (x : ℕ). x) xs ≡ all = (YieldsList-end e xs t ran None u refl a).0 in
      let n : map (λ (x : ℕ). x) ys ≡ them = (YieldsList-end f ys v their None w refl b).0 in
      sym m ∙ ap (map (λ (x : ℕ). x)) same ∙ n

  first-ends : steps t None u → (y : ℕ) → others v (Some y) w → all ≡ them → ⊥
  first-ends a y b z =
      let m : length xs ≡ length all = (YieldsList-end e xs t ran None u refl a).1 in
      let n : length ys < length them = (YieldsList-turn f ys v their (Some y) w y refl b).0 in
      let l : length xs ≡ length ys = ap length same in
      let k : length all ≡ length them = ap length z in
      omega arith

  second-ends : (x : ℕ) → steps t (Some x) u → others v None w → all ≡ them → ⊥
  second-ends x a b z =
      let m : length xs < length all = (YieldsList-turn e xs t ran (Some x) u x refl a).0 in
      let n : length ys ≡ length them = (YieldsList-end f ys v their None w refl b).1 in
      let l : length xs ≡ length ys = ap length same in
      let k : length all ≡ length them = ap length z in
      omega arith

  others-next : (x y : ℕ) → steps t (Some x) u → others v (Some y) w → (x ≡ y → ⊥) → all ≡ them → ⊥
  others-next x y a b d z =
      let m = YieldsList-turn e xs t ran (Some x) u x refl a in
      let n = YieldsList-turn f ys v their (Some y) w y refl b in
      let l : length xs ≡ length ys = ap length same in
      let i : get_or all (length xs) x ≡ get_or all (length xs) y = get_or-inside all (length xs) x y m.0 in
      let j : get_or all (length xs) y ≡ get_or them (length ys) y = rw (z, l) refl in
      d (m.1 ∙ i ∙ j ∙ sym n.1)

  answered : (r : Bool) (o p : Option ℕ) → steps t o u → others v p w
      → MatchOption o (MatchOption p (r ≡ true) (λ _. r ≡ false)) (λ x. (r ≡ false) × IfSome p (λ y. eqb x y ≡ false))
      → r ≡ same_list all them
  answered r None None a b l = let z : all ≡ them = both-end a b in l ∙ rw z (sym (is_same them))
  answered r None (Some y) a b l = l ∙ sym (apart all them (first-ends a y b))
  answered r (Some x) None a b l = l.0 ∙ sym (apart all them (second-ends x a b))
  answered r (Some x) (Some y) a b l = l.0 ∙ sym (apart all them (others-next x y a b (λ z. clash (eq-eqb x y z) l.1)))

-- `eq` and `ne`
eq-compares : {S T : Type 0} {steps : S → Option ℕ → S → Type 0} {others : T → Option ℕ → T → Type 0} {s : S} {other : T} {r : Bool}
    → ComparesItemsByEq steps (λ (x y : T). y ≡ x) others s other eqb r → (all them : List ℕ) → YieldsList steps (λ x. x) s all
    → YieldsList others (λ x. x) other them → r ≡ same_list all them
eq-compares {r = r} (it, xs, ys, o, p, u, w, opens, (t, ran, next), (v, their, after), zips, last) all them e f =
    answered all them e (YieldsList-at opens f) xs ys t u v w ran their (tied xs ys zips) r o p next after last

pub ne-compares : {S T : Type 0} {steps : S → Option ℕ → S → Type 0} {others : T → Option ℕ → T → Type 0} {s : S} {other : T} {r : Bool}
    → ComparesItemsByEq steps (λ (x y : T). y ≡ x) others s other eqb (not r) → (all them : List ℕ) → YieldsList steps (λ x. x) s all
    → YieldsList others (λ x. x) other them → r ≡ not (same_list all them)
ne-compares {r = true} ran all them e f = ap not (eq-compares ran all them e f)
ne-compares {r = false} ran all them e f = ap not (eq-compares ran all them e f)

-- THE SECTIONS OF A TRAIN, as the code picks them; and some entry that passes a test
pub any-is : (f : Entry → Bool) (es : List Entry) → list_any f es ≡ any f es
unfolding any
any-is f [] = refl
any-is f (e ∷ es) = ap (λ (b : Bool). f e || b) (any-is f es)

pub sections-are : (t : ℕ) (es : List Entry) → map (λ (e : Entry). e.section) (filter (λ (e : Entry). eqb e.train t) es) ≡ sections_for t es
unfolding sections_for
sections-are t [] = refl
sections-are t (e ∷ es) = elim (bool? (eqb e.train t)) [
  | inl y ↦ rw y (ap (λ (l : List ℕ). e.section ∷ l) (sections-are t es))
  | inr y ↦ rw y (sections-are t es)
]
