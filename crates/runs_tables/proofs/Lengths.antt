-- NO SHORTEST RUN IS LONGER than there are sections: along it every number up to its length is the length of the shortest run to some section, and no section has two such lengths. Assumes nothing.
use mathlib.Core.Path.{◌≡◌, refl}
use mathlib.Core.Logic.{inl, inr}
use mathlib.Core.Bool.{Bool, true, false, cond}
use Prim.Native.Nat.{ℕ, zero, suc, ◌≤◌, ◌<◌}
use native.Mathlib.Omega.{arith}
use lib.Dec.{eqb, leb}
use borrow.Author.Tests.{eqb-true, eq-eqb, le-leb, lt-leb}
use Rattle.laws.specs.Below.{any_below, count_below}
use Rattle.laws.proofs.Bools.{lt?, not-true}
use Rattle.laws.proofs.Below.{any_at, any_of, count-le, count-more}
use Rattle.railway.specs.declared.Side.{Side}
use Rattle.railway.specs.declared.Railway.{Railway}
use Rattle.game.proofs.Accepted.{Facts}
use Rattle.runs.specs.Runs.{Run, here, further}
use Rattle.runs.proofs.Says.{run-to}
use Rattle.runs_tables.specs.Filling.{Least}

-- DIFFERENT NUMBERS below a bound are no more than the bound
module _ (f : ℕ → ℕ) (k s : ℕ) (inside : (i : ℕ) → i < k → f i < s) (apart : (i j : ℕ) → i < j → j < k → f i ≡ f j → ⊥) where
  among : ℕ → ℕ → Bool
  among n x = any_below (λ i. eqb (f i) x) n

  more : (n x : ℕ) → among n x ≡ true → among (suc n) x ≡ true
  unfolding among
  more n x e = let y = any_at (λ i. eqb (f i) x) n e in any_of (λ i. eqb (f i) x) (suc n) y.0 (omega (arith, y.1)) y.2

  many : (n : ℕ) → n ≤ k → n ≤ count_below (among n) s
  unfolding among
  many zero l = omega arith
  many (suc n) l =
      let new : among n (f n) ≡ false = not-true (among n (f n)) (λ e. (let y = any_at (λ i. eqb (f i) (f n)) n e in apart y.0 n y.1 (omega arith) (eqb-true (f y.0) (f n) y.2))) in
      let now : among (suc n) (f n) ≡ true = any_of (λ i. eqb (f i) (f n)) (suc n) n (omega arith) (eq-eqb (f n) (f n) refl) in
      omega (arith, many n (omega arith), count-more (among n) (among (suc n)) (more n) s (f n) (inside n (omega arith)) new now)

  pub no-more-than : k ≤ s
  no-more-than = omega (arith, many k (omega arith), count-le (among k) s)

-- a section has one shortest length
pub least-one : {r : Railway} {heading : Side} {x y m n : ℕ} → Least r heading x y m → Least r heading x y n → m ≡ n
least-one {r} {heading} {x} {y} {m} {n} a b = omega (arith, a.least n b.run, b.least m a.run)

-- ALONG A SHORTEST RUN: a section for every number up to its length
record Along (r : Railway) (heading : Side) (x n : ℕ) : Type 0 where
  section : ℕ → ℕ
  least : (m : ℕ) → m ≤ n → Least r heading x (section m) m

abbrev behind : (ℕ → ℕ) → ℕ → ℕ → ℕ → ℕ
behind f n z m = cond (leb m n) (f m) z

longer : {r : Railway} {heading : Side} {x : ℕ} (n z : ℕ) → Along r heading x n → Least r heading x z (suc n) → Along r heading x (suc n)
longer n z a l =
    record {
      section = behind a.section n z;
      least = λ m h. elim (lt? n m) [
        | inl k ↦ (let b : leb m n ≡ false = lt-leb m n k in let e : m ≡ suc n = omega arith in rw (b, e) l)
        | inr k ↦ (let b : leb m n ≡ true = le-leb m n k in rw b (a.least m k))
      ];
    }

along : {r : Railway} {heading : Side} {x y n : ℕ} → Run r heading x y n → ((m : ℕ) → Run r heading x y m → n ≤ m) → Along r heading x n
along {r} {heading} {x} (here l) h = record { section = λ m. x; least = λ m k. (let e : m ≡ 0 = omega arith in rw e (record { run = here l; least = h })) }
along (further {y} {z} {n} run e) h =
    longer n z (along run (λ m other. (let k : suc n ≤ suc m = h (suc m) (further other e) in omega (arith, k)))) (record { run = further run e; least = h })

-- so it is shorter than there are sections
pub least-short : {r : Railway} {heading : Side} {x y n : ℕ} → Facts r → Least r heading x y n → n < r.sections
least-short {r} {heading} {x} {y} {n} ok l =
    let a = along l.run l.least in
    no-more-than a.section (suc n) r.sections (λ i k. run-to ok (a.least i (omega arith)).run)
    (λ i j k m e. (let same : i ≡ j = least-one (rw e at (a.least i (omega arith))) (a.least j (omega arith)) in omega (arith, same)))
