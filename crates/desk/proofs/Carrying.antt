-- Laws of what a desk carries: 12 does not stop it exactly if its placement can be and what it carries is right. A count of trains is full exactly if each of them passes, so the
-- count that is carried is the number of trains exactly at home. Assumes nothing.
use mathlib.Core.Path.{◌≡◌, refl, sym, ◌∙◌, ap}
use mathlib.Core.Logic.{◌↔◌, inl, inr}
use mathlib.Core.Bool.{Bool, true, false, not}
use Prim.Native.Nat.{ℕ, zero, suc, ◌+◌, ◌<◌}
use native.Mathlib.Omega.{arith}
use lib.Dec.{eqb}
use borrow.Author.Tests.{eqb-true, eq-eqb}
use Rattle.laws.specs.Below.{count_below}
use Rattle.laws.proofs.Bools.{bool?, or-false, or-none, not_is}
use Rattle.laws.proofs.Below.{upto, all-at, all_of, count-le}
use Rattle.railway.specs.declared.Railway.{Railway}
use Rattle.game.specs.Placement.{arrived, at_home}
use Rattle.game_placement.specs.declared.Placement.{Placement}
use Rattle.desk.specs.Desk.{Desk, desk_code, misplaced, arrivals, miscarries, desk_row, desk_on}
use Rattle.desk.specs.Following.{Carries}

-- (Examples is named so that it is checked before: a wrong definition then shows at a computed value.)

-- the desk of a placement carries what is right
pub made-right : (r : Railway) (q : Placement) → Carries r (desk_on r q)
made-right r q = record { code = refl; arrived = refl }

-- WHAT 12 ASKS OF A DESK, test by test
carries-exactly : (r : Railway) (d : Desk) → (miscarries r d ≡ false) ↔ Carries r d
unfolding miscarries
carries-exactly r d = (
  (λ e.
      let b = or-false (not (eqb d.code (desk_code r d))) _ e in
      record { code = eqb-true d.code (desk_code r d) (not_is _ b.0); arrived = eqb-true d.arrived (arrivals r (desk_code r d)) (not_is _ b.1) }),
  (λ h. or-none (not (eqb d.code (desk_code r d))) _ (ap not (eq-eqb _ _ h.code)) (ap not (eq-eqb _ _ h.arrived))),
)

pub sound-exactly : (r : Railway) (d : Desk) → (desk_row r d ≡ false) ↔ ((misplaced r d.at ≡ false) × Carries r d)
sound-exactly r d = (
  (λ e. let a = or-false (misplaced r d.at) (miscarries r d) e in (a.0, (carries-exactly r d).0 a.1)),
  (λ h. or-none (misplaced r d.at) (miscarries r d) h.0 ((carries-exactly r d).1 h.1)),
)

-- A COUNT THAT IS FULL
full : (f : ℕ → Bool) (k : ℕ) → count_below f k ≡ k → (i : ℕ) → i < k → f i ≡ true
unfolding count_below
full f zero e i l = absurd (omega arith)
full f (suc k) e i l = elim (bool? (f k)) [
  | inl y ↦ (let a : count_below f k ≡ k = (let z : count_below f k + 1 ≡ suc k = rw y at e in omega arith) in upto (λ j. f j ≡ true) (full f k a) y i l)
  | inr y ↦ absurd (let z : count_below f k + 0 ≡ suc k = rw y at e in omega (arith, count-le f k))
]

all-full : (f : ℕ → Bool) (k : ℕ) → ((i : ℕ) → i < k → f i ≡ true) → count_below f k ≡ k
unfolding count_below
all-full f zero h = refl
all-full f (suc k) h = let a : count_below f k ≡ k = all-full f k (λ i l. h i (omega arith)) in let b : f k ≡ true = h k (omega arith) in rw (a, b) (omega arith)

-- the lamp
pub lamp-home : (r : Railway) (d : Desk) → Carries r d → (d.arrived ≡ r.trains) ↔ (at_home r (desk_code r d) ≡ true)
unfolding arrivals at_home
lamp-home r d h = (
  (λ e. all_of (arrived r (desk_code r d)) r.trains (full (arrived r (desk_code r d)) r.trains (sym h.arrived ∙ e))),
  (λ e. h.arrived ∙ all-full (arrived r (desk_code r d)) r.trains (all-at (arrived r (desk_code r d)) r.trains e)),
)
