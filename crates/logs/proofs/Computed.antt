-- The computed comparison keeps the promise. Two lists are the same exactly if the test says so; a log that names no train past the last has no sections for one, so the
-- lowest train of the case that differs is the lowest of all, and where none of the case differs none does. Assumes nothing.
use mathlib.Core.Path.{◌≡◌, refl, sym, ◌∙◌, ap}
use mathlib.Core.Logic.{inl, inr}
use mathlib.Core.Bool.{Bool, true, false, not, ◌||◌}
use mathlib.Core.List.{List, [], ◌∷◌}
use mathlib.Core.Option.{Option, none, some}
use Prim.Native.Nat.{ℕ, ◌≤◌, ◌<◌}
use native.Mathlib.Omega.{arith}
use lib.ListN.{length}
use lib.Dec.{ltb, leb, eqb}
use borrow.Author.Tests.{eqb-true, eq-eqb, ne_eqb, leb-false}
use Rattle.laws.specs.Below.{lowest, or_else}
use Rattle.laws.specs.Lists.{any}
use Rattle.laws.proofs.Bools.{bool?, lt?, clash, some-none, and-true, and_both, or-false, not_is}
use Rattle.laws.proofs.Below.{lowest-cases, lowest-least}
use Rattle.railway.specs.declared.Railway.{Railway}
use Rattle.railway.specs.declared.Refusal.{Refusal}
use Rattle.railway.specs.declared.Refusal.TheVariants.{Log}
use Rattle.railway.specs.Refusals.{row, first, refuse_if, number_of}
use Rattle.railway.specs.Rows.{record_rows, record_refusal}
use Rattle.railway.proofs.Refusals.{first-append, refuse-none}
use Rattle.logs.specs.declared.Entry.{Entry}
use Rattle.logs.specs.LogAnswer.{Refused}
use Rattle.logs.specs.Logs.{most_entries, sections_for, SameFor, lacking, faulty, log_rows, Taken, number_said, train_named, Found, LogPost}
use Rattle.logs.specs.Computed.{same_list, differs, answer_by, compare}

-- (Examples is named so that it is checked before: a wrong definition then shows at a computed value.)

-- TWO LISTS
same-is : (xs ys : List ℕ) → same_list xs ys ≡ true → xs ≡ ys
unfolding same_list
same-is [] [] e = refl
same-is [] (y ∷ ys) e = clash e refl
same-is (x ∷ xs) [] e = clash e refl
same-is (x ∷ xs) (y ∷ ys) e =
    let a = and-true (eqb x y) (same_list xs ys) e in
    let p : x ≡ y = eqb-true x y a.0 in let q : xs ≡ ys = same-is xs ys a.1 in rw (p, q) refl

is_same : (xs : List ℕ) → same_list xs xs ≡ true
unfolding same_list
is_same [] = refl
is_same (x ∷ xs) = and_both (eqb x x) (same_list xs xs) (eq-eqb x x refl) (is_same xs)

-- A TRAIN that differs by the test, and one that does not
pub same_not : (a b : List Entry) (t : ℕ) → SameFor a b t → differs a b t ≡ false
unfolding differs
same_not a b t e = ap not (ap (λ (l : List ℕ). same_list l (sections_for t b)) e ∙ is_same (sections_for t b))

pub not_same : (a b : List Entry) (t : ℕ) → differs a b t ≡ false → SameFor a b t
unfolding differs
not_same a b t e = same-is (sections_for t a) (sections_for t b) (not_is (same_list (sections_for t a) (sections_for t b)) e)

-- PAST THE LAST TRAIN a log that nothing is refused of gives no sections
beyond : (r : Railway) (es : List Entry) → any (lacking r) es ≡ false → (t : ℕ) → r.trains ≤ t → sections_for t es ≡ []
unfolding any sections_for
beyond r [] e t l = refl
beyond r (x ∷ xs) e t l =
    let a = or-false (lacking r x) (any (lacking r) xs) e in
    let b = or-false (leb r.trains x.train) (leb r.sections x.section) a.0 in
    let k : x.train < r.trains = leb-false r.trains x.train b.0 in
    let n : eqb x.train t ≡ false = ne_eqb x.train t (λ z. omega arith) in
    rw n (beyond r xs a.1 t l)

or-else : (a b : Option Refusal) → or_else a b ≡ none → (a ≡ none) × (b ≡ none)
or-else none b e = (refl, e)
or-else (some f) b e = some-none refl e

module _ (r : Railway) (a b : List Entry) (taken : Taken r a b) where
  clean : (any (lacking r) a ≡ false) × (any (lacking r) b ≡ false)
  unfolding first faulty
  clean =
      let x = or-else (first (record_rows r)) _ (sym (first-append (record_rows r) (row Log (faulty r a || faulty r b) ∷ [])) ∙ taken) in
      let y = refuse-none (faulty r a || faulty r b) Log none x.1 in
      let z = or-false (faulty r a) (faulty r b) y.0 in
      ((or-false (ltb most_entries (length a)) (any (lacking r) a) z.0).1, (or-false (ltb most_entries (length b)) (any (lacking r) b) z.1).1)

  pub past_same : (t : ℕ) → r.trains ≤ t → SameFor a b t
  past_same t l = beyond r a clean.0 t l ∙ sym (beyond r b clean.1 t l)

  -- THE LOWEST of the case's trains that differs, or none: so it is of all
  found : (o : Option ℕ) → lowest (differs a b) r.trains ≡ o → Found a b o
  found none e = λ t. elim (lt? t r.trains) [
    | inl l ↦ elim (lowest-cases (differs a b) r.trains) [ inl w ↦ some-none w.1 e | inr w ↦ not_same a b t (w.1 t l) ]
    | inr l ↦ past_same t l
  ]
  found (some t) e = elim (lowest-cases (differs a b) r.trains) [
    | inr w ↦ some-none e w.0
    | inl w ↦
        let z : w.0 ≡ t = cc in
        let l : t < r.trains = rw (sym z) w.2 in
        let d : differs a b t ≡ true = rw (sym z) w.3 in
        record {
          differs = λ s. clash d (same_not a b t s);
          below = λ u k. elim (bool? (differs a b u)) [
            | inl y ↦ absurd (let m : t ≤ u = lowest-least (differs a b) r.trains t e u y (omega arith) in omega arith)
            | inr y ↦ not_same a b u y
          ];
        }
  ]

module _ (r : Railway) (a b : List Entry) where
  abbrev pub both : Bool
  both = faulty r a || faulty r b

  -- THE ROWS: the record's number, or else 17
  rows : first (log_rows r a b) ≡ or_else (record_refusal r) (refuse_if both Log none)
  unfolding first record_refusal
  rows = first-append (record_rows r) (row Log both ∷ [])

  pub by-record : (f : Refusal) → record_refusal r ≡ some f → first (log_rows r a b) ≡ some f
  by-record f e = rows ∙ ap (λ (o : Option Refusal). or_else o (refuse_if both Log none)) e

  pub by-logs : record_refusal r ≡ none → first (log_rows r a b) ≡ refuse_if both Log none
  by-logs e = rows ∙ ap (λ (o : Option Refusal). or_else o (refuse_if both Log none)) e

-- THE ANSWER
number_by : (f : Option Refusal) (o : Option ℕ) → number_said (answer_by f o) ≡ number_of f
number_by (some f) o = refl
number_by none none = refl
number_by none (some t) = refl

train-by : (o : Option ℕ) → train_named (answer_by none o) ≡ o
train-by none = refl
train-by (some t) = refl

pub compare-keeps : (r : Railway) (a b : List Entry) → LogPost r a b (compare r a b)
unfolding compare
compare-keeps r a b = record {
  numbered = number_by (first (log_rows r a b)) (lowest (differs a b) r.trains);
  compared = λ taken.
      let o = lowest (differs a b) r.trains in
      let e : train_named (answer_by (first (log_rows r a b)) o) ≡ o = ap (λ (f : Option Refusal). train_named (answer_by f o)) taken ∙ train-by o in
      rw e (found r a b taken o refl);
}

-- it is the record's refusal, or else goes by the logs
pub compare-refused : (r : Railway) (a b : List Entry) (f : Refusal) → record_refusal r ≡ some f → compare r a b ≡ Refused f
unfolding compare
compare-refused r a b f e = ap (λ (o : Option Refusal). answer_by o (lowest (differs a b) r.trains)) (by-record r a b f e)

pub compare-logs : (r : Railway) (a b : List Entry) → record_refusal r ≡ none → compare r a b ≡ answer_by (refuse_if (faulty r a || faulty r b) Log none) (lowest (differs a b) r.trains)
unfolding compare
compare-logs r a b e = ap (λ (o : Option Refusal). answer_by o (lowest (differs a b) r.trains)) (by-logs r a b e)
