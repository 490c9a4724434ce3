-- Laws of ends: each end that a railway can have has an index that no other has, and is got back from it.
-- Assumes nothing.
use Prim.Native.Nat.{ℕ, ◌+◌, ◌-◌, ◌*◌, ◌/◌, ◌%◌, ◌<◌, ◌≤◌}
use mathlib.Core.Path.{◌≡◌, refl, sym, ◌∙◌, ap}
use mathlib.Core.Bool.{Bool, true, false, cond}
use native.Mathlib.Omega.{arith}
use lib.Dec.{ltb, eqb}
use borrow.Author.Tests.{lt-ltb, le-ltb, eqb-true, eqb-false, ltb-true, ltb-false}
use Rattle.railway.specs.declared.Side.{Side}
use Rattle.railway.specs.declared.Side.TheVariants.{Up, Down}
use Rattle.railway.specs.declared.Leg.{Leg}
use Rattle.railway.specs.declared.Leg.TheVariants.{Stem, Plus, Minus}
use Rattle.railway.specs.declared.SectionNo.{SectionNo}
use Rattle.railway.specs.declared.PointNo.{PointNo}
use Rattle.railway.specs.declared.End.{End}
use Rattle.railway.specs.declared.End.TheVariants.{Section, Port}
use Rattle.railway.specs.Bounds.{most_sections, most_points, section_ends, all_ends}
use Rattle.railway.specs.Ends.{Numbered, side_index, leg_index, end_index, side_at, leg_at, end_at}

-- (ByteValues is named so that it is checked before: a wrong definition then shows at a computed value.)

pub side-small : (s : Side) → side_index s < 2
side-small Down = omega arith
side-small Up = omega arith

pub leg-small : (l : Leg) → leg_index l < 3
leg-small Stem = omega arith
leg-small Plus = omega arith
leg-small Minus = omega arith

-- the index, as it is computed
module _ (e : End) where
  pub section-index : (n : SectionNo) (s : Side) (i : ℕ) → e ≡ Section n s → n.0 < most_sections → i ≡ side_index s
      → 2 * n.0 + i ≡ end_index e
  section-index n s i is l h = rw (is, h, lt-ltb n.0 most_sections l)

  pub port-index : (n : PointNo) (p : Leg) (i : ℕ) → e ≡ Port n p → n.0 < most_points → i ≡ leg_index p
      → section_ends + 3 * n.0 + i ≡ end_index e
  port-index n p i is l h = rw (is, h, lt-ltb n.0 most_points l)

-- THERE AND BACK
section-back : (n : ℕ) (s : Side) → n < most_sections → end_at (2 * n + side_index s) ≡ Section (record { 0 = n }) s
unfolding end_at
section-back n Down h =
    let a : (2 * n + 0) / 2 ≡ n = omega arith in
    let b : (2 * n + 0) % 2 ≡ 0 = omega arith in
    simp (lt-ltb (2 * n + 0) section_ends (omega arith), a, b)
section-back n Up h =
    let a : (2 * n + 1) / 2 ≡ n = omega arith in
    let b : (2 * n + 1) % 2 ≡ 1 = omega arith in
    simp (lt-ltb (2 * n + 1) section_ends (omega arith), a, b)

leg-back : (l : Leg) → leg_at (leg_index l) ≡ l
leg-back Stem = refl
leg-back Plus = refl
leg-back Minus = refl

port-back : (n : ℕ) (l : Leg) → end_at (section_ends + 3 * n + leg_index l) ≡ Port (record { 0 = n }) l
unfolding end_at
port-back n l =
    let s = leg-small l in
    let a : (section_ends + 3 * n + leg_index l - section_ends) / 3 ≡ n = omega arith in
    let b : (section_ends + 3 * n + leg_index l - section_ends) % 3 ≡ leg_index l = omega arith in
    simp (le-ltb (section_ends + 3 * n + leg_index l) section_ends (omega arith), a, b, leg-back l)

pub end-index : (e : End) → Numbered e → end_at (end_index e) ≡ e
end-index (Section n s) h = rw (lt-ltb n.0 most_sections h) (section-back n.0 s h)
end-index (Port n l) h = rw (lt-ltb n.0 most_points h) (port-back n.0 l)

pub index-one : (a b : End) → Numbered a → Numbered b → end_index a ≡ end_index b → a ≡ b
index-one a b ha hb e = sym (end-index a ha) ∙ ap end_at e ∙ end-index b hb

pub index_below : (e : End) → Numbered e → end_index e < all_ends
index_below (Section n s) h = let b = side-small s in rw (lt-ltb n.0 most_sections h) (omega arith)
index_below (Port n l) h = let b = leg-small l in rw (lt-ltb n.0 most_points h) (omega arith)

-- a section end's index lies among the section ends', a port's behind them
pub section-below : (n : SectionNo) (s : Side) → n.0 < most_sections → end_index (Section n s) < section_ends
section-below n s h = let b = side-small s in rw (lt-ltb n.0 most_sections h) (omega arith)

pub port-behind : (n : PointNo) (l : Leg) → section_ends ≤ end_index (Port n l)
port-behind n l = cases (ltb n.0 most_points)
  where
    cases : (b : Bool) → section_ends ≤ cond b (section_ends + 3 * n.0 + leg_index l) all_ends
    cases true = omega arith
    cases false = omega arith

-- an end with an index below the last is one that a railway can have
pub numbered_of : (e : End) → end_index e < all_ends → Numbered e
numbered_of (Section n s) h = cases (ltb n.0 most_sections) refl h
  where
    cases : (b : Bool) → ltb n.0 most_sections ≡ b → cond b (2 * n.0 + side_index s) all_ends < all_ends
        → n.0 < most_sections
    cases true e l = ltb-true n.0 most_sections e
    cases false e l = absurd (omega arith)
numbered_of (Port n p) h = cases (ltb n.0 most_points) refl h
  where
    cases : (b : Bool) → ltb n.0 most_points ≡ b
        → cond b (section_ends + 3 * n.0 + leg_index p) all_ends < all_ends → n.0 < most_points
    cases true e l = ltb-true n.0 most_points e
    cases false e l = absurd (omega arith)

-- the end of an index, and its index
pub end-section : (i : ℕ) → i < section_ends → end_at i ≡ Section (record { 0 = i / 2 }) (side_at (i % 2))
unfolding end_at
end-section i h = rw (lt-ltb i section_ends h)

pub end-port : (i : ℕ) → section_ends ≤ i
    → end_at i ≡ Port (record { 0 = (i - section_ends) / 3 }) (leg_at ((i - section_ends) % 3))
unfolding end_at
end-port i h = rw (le-ltb i section_ends h)

side-rest : (i : ℕ) (b : Bool) → eqb (i % 2) 0 ≡ b → 2 * (i / 2) + side_index (cond b Down Up) ≡ i
side-rest i true h = let z = eqb-true (i % 2) 0 h in omega arith
side-rest i false h = let z = eqb-false (i % 2) 0 h in omega arith

leg-rest : (i : ℕ) (b d : Bool) → eqb (i % 3) 0 ≡ b → eqb (i % 3) 1 ≡ d
    → 3 * (i / 3) + leg_index (cond b Stem (cond d Plus Minus)) ≡ i
leg-rest i true d h g = let z = eqb-true (i % 3) 0 h in omega arith
leg-rest i false true h g = let z = eqb-true (i % 3) 1 g in omega arith
leg-rest i false false h g = let z = eqb-false (i % 3) 0 h in let y = eqb-false (i % 3) 1 g in omega arith

pub index-end : (i : ℕ) → i < all_ends → end_index (end_at i) ≡ i
index-end i h = cases (ltb i section_ends) refl
  where
    cases : (b : Bool) → ltb i section_ends ≡ b → end_index (end_at i) ≡ i
    cases true e =
        let l = ltb-true i section_ends e in
        rw (end-section i l, lt-ltb (i / 2) most_sections (omega arith)) (side-rest i (eqb (i % 2) 0) refl)
    cases false e =
        let l = ltb-false i section_ends e in
        let z = leg-rest (i - section_ends) (eqb ((i - section_ends) % 3) 0) (eqb ((i - section_ends) % 3) 1) refl refl in
        rw (end-port i l, lt-ltb ((i - section_ends) / 3) most_points (omega arith)) (omega arith)
