-- Row 7 and the closed sections: X lines are taken one by one. A section has its flag exactly if an X line names it or it had one before; it is
-- closed already exactly where an X line before names it too.
-- Assumes nothing.
use Prim.Native.Nat.{ℕ, suc, ◌-◌, ◌<◌, ◌≤◌}
use mathlib.Core.Path.{◌≡◌, refl, sym, ◌∙◌, ap}
use mathlib.Core.Logic.{◌⊎◌, inl, inr}
use mathlib.Core.Bool.{Bool, true, false, ◌||◌}
use mathlib.Core.List.{List, [], ◌∷◌, Memᴰ}
use native.Mathlib.Omega.{arith}
use lib.Dec.{eqb}
use lib.ListN.{length, get_or, set, length-set}
use lib.Seq.{get_or-set_same, get_or-set_other}
use borrow.Author.Tests.{lt-ltb, eqb-true, eqb-false, eq-eqb, ne_eqb}
use Rattle.laws.specs.Lists.{any, repeats, Every}
use Rattle.laws.proofs.Bools.{bool?, or-false, or-none}
use Rattle.laws.proofs.Lists.{repeats-head, repeats-none, every-none, every_more}
use Rattle.railway.specs.declared.Railway.{Railway}
use Rattle.railway.specs.Bounds.{most_sections}
use Rattle.railway.specs.Record.{closed_at, is_closed, with_closed}
use Rattle.railway.proofs.Lookups.{closed-there}
use Rattle.case_file.proofs.Ends.{less_one}
use Rattle.case_draft.proofs.Built.{close_all, closed_again}
use Rattle.case_draft.proofs.Signalling.{swap}

-- an X line of a section that a railway can have
abbrev pub Sectioned : ℕ → Type 0
Sectioned n = (1 ≤ n) × (n ≤ most_sections)

same-section : (x n : ℕ) → 1 ≤ n → eqb (suc x) n ≡ eqb (n - 1) x
same-section x n h = elim (bool? (eqb (n - 1) x)) [
  | inl e ↦ let p = eqb-true (n - 1) x e in rw e (eq-eqb (suc x) n (omega arith))
  | inr e ↦ let p = eqb-false (n - 1) x e in rw e (ne_eqb (suc x) n (λ q. p (omega arith)))
]

module _ (r : Railway) (room : length r.closed ≡ most_sections) (y : ℕ) (small : y < most_sections) where
  added : (with_closed r y).closed ≡ set r.closed y true
  unfolding with_closed
  added = rw (lt-ltb y most_sections small)

  flag-set : (x : ℕ) → closed_at (with_closed r y) x ≡ (eqb y x || closed_at r x)
  flag-set x = ap (λ (l : List Bool). get_or l x false) added ∙ go (bool? (eqb y x))
    where
      go : (eqb y x ≡ true) ⊎ (eqb y x ≡ false) → get_or (set r.closed y true) x false ≡ (eqb y x || closed_at r x)
      go (inl p) = let q = eqb-true y x p in rw (p, ← q) (get_or-set_same r.closed y true false (omega arith))
      go (inr p) = let q = eqb-false y x p in rw p (get_or-set_other r.closed y x true false (λ z. q (sym z)))

  -- the length stays
  kept : length (with_closed r y).closed ≡ most_sections
  kept = ap length added ∙ simp length-set room

pub closed_all : (ns : List ℕ) (r : Railway) → length r.closed ≡ most_sections → Every Sectioned ns → (x : ℕ) → x < most_sections
    → closed_at (close_all r ns) x ≡ (any (eqb (suc x)) ns || closed_at r x)
unfolding close_all any
closed_all [] r room h x b = refl
closed_all (n ∷ ns) r room h x b =
    let pn = h n (Memᴰ.head refl) in
    closed_all ns (with_closed r (n - 1)) (kept r room (n - 1) (omega arith)) (λ y m. h y (Memᴰ.tail m)) x b
    ∙ rw (flag-set r room (n - 1) (omega arith) x, ← same-section x n pn.0) (swap (any (eqb (suc x)) ns) (eqb (suc x) n) (closed_at r x))

-- X lines of which none finds its section closed
pub record Once (r : Railway) (ns : List ℕ) : Type 0 where
  pub once : repeats eqb ns ≡ false
  pub free : Every (λ n. closed_at r (n - 1) ≡ false) ns

pub once-again : (ns : List ℕ) (r : Railway) → length r.closed ≡ most_sections → Every Sectioned ns → Once r ns → closed_again r ns ≡ false
unfolding closed_again
once-again [] r room h f = refl
once-again (n ∷ ns) r room h f =
    let pn = h n (Memᴰ.head refl) in
    let o = repeats-head eqb n ns f.once in
    or-none _ _ (sym (closed-there r (n - 1) (omega arith)) ∙ f.free n (Memᴰ.head refl))
    (once-again ns (with_closed r (n - 1)) (kept r room (n - 1) (omega arith)) (λ y m. h y (Memᴰ.tail m))
    (record {
      once = o.1;
      free = λ y m.
          flag-set r room (n - 1) (omega arith) (y - 1)
          ∙ or-none _ _ (less_one n y pn.0 (h y (Memᴰ.tail m)).0 ∙ o.0 y m) (f.free y (Memᴰ.tail m));
    }))

pub again-once : (ns : List ℕ) (r : Railway) → length r.closed ≡ most_sections → Every Sectioned ns → closed_again r ns ≡ false → Once r ns
unfolding closed_again repeats
again-once [] r room h p = record { once = refl; free = every-none _ }
again-once (n ∷ ns) r room h p =
    let pn = h n (Memᴰ.head refl) in
    let q = or-false (is_closed r (n - 1)) (closed_again (with_closed r (n - 1)) ns) p in
    let f = again-once ns (with_closed r (n - 1)) (kept r room (n - 1) (omega arith)) (λ y m. h y (Memᴰ.tail m)) q.1 in
    let both : (y : ℕ) → Memᴰ y ns → (eqb (n - 1) (y - 1) ≡ false) × (closed_at r (y - 1) ≡ false) =
    λ y m. or-false (eqb (n - 1) (y - 1)) (closed_at r (y - 1)) (sym (flag-set r room (n - 1) (omega arith) (y - 1)) ∙ f.free y m) in
    record {
      once = repeats-none eqb n ns (λ y m. sym (less_one n y pn.0 (h y (Memᴰ.tail m)).0) ∙ (both y m).0) f.once;
      free = every_more (λ n. closed_at r (n - 1) ≡ false) n ns (closed-there r (n - 1) (omega arith) ∙ q.0) (λ y m. (both y m).1);
    }
