-- The steps of the walk that writes the ways, as code makes them: past a link's byte, over a point, with the point laid. Each says which list of ways is
-- written there. Assumes nothing.
use mathlib.Core.Path.{◌≡◌, refl, sym, ◌∙◌, ap}
use mathlib.Core.Logic.{inl, inr}
use mathlib.Core.Bool.{Bool, true, false, cond}
use mathlib.Core.List.{List, [], ◌∷◌}
use Prim.Native.Nat.{ℕ, zero, suc, ◌+◌, ◌-◌, ◌*◌, ◌/◌, ◌%◌, ◌^◌, ◌≤◌, ◌<◌}
use native.Mathlib.Omega.{arith}
use native.Mathlib.Nat.{mod-eq_of_lt, pow-succ', pow-le-pow_right}
use lib.Bits.{bit_or}
use lib.ListN.{get_or, set}
use borrow.Author.Tests.{lt-ltb, le-ltb, eq-eqb}
use Rattle.laws.proofs.Bools.{lt?}
use Rattle.railway.specs.declared.Side.{Side}
use Rattle.railway.specs.declared.Leg.{Leg}
use Rattle.railway.specs.declared.Leg.TheVariants.{Plus, Minus}
use Rattle.railway.specs.declared.PointNo.{PointNo}
use Rattle.railway.specs.declared.End.TheVariants.{Section, Port}
use Rattle.railway.specs.Joined.{Joined, Nothing, With}
use Rattle.railway.specs.declared.Railway.{Railway}
use Rattle.railway.specs.Bounds.{most_points, section_ends, all_ends}
use Rattle.railway.specs.Ends.{side_at, leg_index, leg_at, end_at}
use Rattle.railway.specs.Record.{no_link, joined_by, link_at, joined}
use Rattle.railway.proofs.Ends.{end-section, end-port, index-end, port-index}
use Rattle.railway.proofs.Lookups.{joined-there}
use Rattle.railway_routes.specs.Routes.{Way, bars, want_with, routes_laid, routes_over, routes, routes_from, Put}
use Rattle.railway_routes.proofs.Ways.{put-none, put_one, put_both, put_same}
use Rattle.railway_routes.proofs.Routes.{power-some}

-- ONE POINT: its bit, and whether it is barred
pub power-fits : (n : ℕ) → n < most_points → (1 * 2 ^ n) % 65536 ≡ 2 ^ n
power-fits n l =
    let h = pow-le-pow_right {n = 2} (omega arith) {i = n} {j = 15} (omega arith) in
    let e : 1 * 2 ^ n ≡ 2 ^ n = omega arith in
    rw e (mod-eq_of_lt (omega (arith, h)))

-- WHAT A BYTE SAYS
section-joined : (j : ℕ) → j < section_ends → joined_by j ≡ With (Section (record { 0 = j / 2 }) (side_at (j % 2)))
unfolding joined_by
section-joined j l = rw (lt-ltb j all_ends (omega arith)) (ap With (end-section j l))

port-joined : (j : ℕ) → section_ends ≤ j → j < all_ends → joined_by j ≡ With (Port (record { 0 = (j - section_ends) / 3 }) (leg_at ((j - section_ends) % 3)))
unfolding joined_by
port-joined j l h = rw (lt-ltb j all_ends h) (ap With (end-port j l))

none-joined : (j : ℕ) → all_ends ≤ j → joined_by j ≡ Nothing
unfolding joined_by
none-joined j l = rw (le-ltb j all_ends l)

-- PAST A LINK
at-section : (r : Railway) (shut : ℕ → Bool) (care want x : ℕ) (s : Side) (k : ℕ)
    → routes r shut k care want (With (Section (record { 0 = x }) s)) ≡ cond (shut x) [] (record { care = care; want = want; to = x } ∷ [])
unfolding routes
at-section r shut care want x s zero = refl
at-section r shut care want x s (suc k) = refl

at-nothing : (r : Railway) (shut : ℕ → Bool) (care want k : ℕ) → routes r shut k care want Nothing ≡ []
unfolding routes
at-nothing r shut care want zero = refl
at-nothing r shut care want (suc k) = refl

at-port : (r : Railway) (shut : ℕ → Bool) (care want : ℕ) (n : PointNo) (l : Leg) (k : ℕ)
    → routes r shut (suc k) care want (With (Port n l)) ≡ routes_over r (λ c w i. routes r shut k c w i) care want n l
unfolding routes
at-port r shut care want n l k = refl

at_last : (r : Railway) (shut : ℕ → Bool) (care want : ℕ) (n : PointNo) (l : Leg) → routes r shut 0 care want (With (Port n l)) ≡ []
unfolding routes
at_last r shut care want n l = refl

power-less : (k : ℕ) → (k ≡ 0 → ⊥) → 2 * 2 ^ (k - 1) ≡ 2 ^ k
power-less k h = let e : suc (k - 1) ≡ k = omega (arith, h) in sym (pow-succ' 2 (k - 1)) ∙ ap (λ (n : ℕ). 2 ^ n) e

module _ (r : Railway) (shut : ℕ → Bool) (k care want j at : ℕ) (old : List ℕ) where
  abbrev past : List Way
  past = routes r shut k care want (joined_by j)

  section-past : j < section_ends → past ≡ cond (shut (j / 2)) [] (record { care = care; want = want; to = j / 2 } ∷ [])
  section-past l = ap (λ (i : Joined). routes r shut k care want i) (section-joined j l) ∙ at-section r shut care want (j / 2) (side_at (j % 2)) k

  -- to a section that is shut
  pub past-shut : j < section_ends → shut (j / 2) ≡ true → Put past at old old at
  past-shut l e = put-none at old past (section-past l ∙ rw e)

  -- to one that is not
  pub past-section : j < section_ends → shut (j / 2) ≡ false → Put past at old (set (set (set old at (j / 2)) (at + 1) care) (at + 2) want) (at + 3)
  past-section l e = put_one at old past (record { care = care; want = want; to = j / 2 }) (section-past l ∙ rw e)

  -- nowhere
  none-past : all_ends ≤ j → past ≡ []
  none-past l = ap (λ (i : Joined). routes r shut k care want i) (none-joined j l) ∙ at-nothing r shut care want k

  pub past-none : all_ends ≤ j → Put past at old old at
  past-none l = put-none at old past (none-past l)

  -- no more points are allowed
  pub past-last : section_ends ≤ j → k ≡ 0 → Put past at old old at
  past-last l z = put-none at old past (elim (lt? j all_ends) [
    | inl h ↦
        ap (λ (i : Joined). routes r shut k care want i) (port-joined j l h)
        ∙ ap (λ (m : ℕ). routes r shut m care want (With (Port (record { 0 = (j - section_ends) / 3 }) (leg_at ((j - section_ends) % 3))))) z
        ∙ at_last r shut care want (record { 0 = (j - section_ends) / 3 }) (leg_at ((j - section_ends) % 3))
    | inr h ↦ none-past h
  ])

  -- over a point
  pub past-port : (new : List ℕ) (next : ℕ) → section_ends ≤ j → j < all_ends → (k ≡ 0 → ⊥)
      → Put (routes_over r (λ c w i. routes r shut (k - 1) c w i) care want (record { 0 = (j - section_ends) / 3 }) (leg_at ((j - section_ends) % 3))) at old new next → Put past at old new next
  past-port new next l h z p =
      let s : suc (k - 1) ≡ k = omega (arith, z) in
      let e : past ≡ routes_over r (λ c w i. routes r shut (k - 1) c w i) care want (record { 0 = (j - section_ends) / 3 }) (leg_at ((j - section_ends) % 3)) =
      ap (λ (i : Joined). routes r shut k care want i) (port-joined j l h)
      ∙ ap (λ (m : ℕ). routes r shut m care want (With (Port (record { 0 = (j - section_ends) / 3 }) (leg_at ((j - section_ends) % 3))))) (sym s)
      ∙ at-port r shut care want (record { 0 = (j - section_ends) / 3 }) (leg_at ((j - section_ends) % 3)) (k - 1) in
      put_same at old past _ new next e p

-- OVER A POINT, come to by its stem or a leg
module _ (r : Railway) (f : ℕ → ℕ → Joined → List Way) (care want : ℕ) (n : PointNo) (leg at : ℕ) (old new : List ℕ) (next : ℕ) where
  pub over-stem : leg ≡ 0 → (mid : List ℕ) (m : ℕ) → Put (routes_laid r f care want n false Minus) at old mid m → Put (routes_laid r f care want n true Plus) m mid new next
      → Put (routes_over r f care want n (leg_at leg)) at old new next
  over-stem e mid m p q = rw (eq-eqb leg 0 e) (put_both at old (routes_laid r f care want n false Minus) (routes_laid r f care want n true Plus) mid new m next p q)

-- WITH A POINT LAID
leg-index : (i : ℕ) → i < 3 → leg_index (leg_at i) ≡ i
leg-index zero l = refl
leg-index (suc zero) l = refl
leg-index (suc (suc zero)) l = refl
leg-index (suc (suc (suc i))) l = absurd (omega arith)

port-link : (r : Railway) (n : PointNo) (out : ℕ) → n.0 < most_points → out < 3 → joined r (Port n (leg_at out)) ≡ link_at r (section_ends + 3 * n.0 + out)
port-link r n out l h =
    sym (joined-there r (Port n (leg_at out)) (section_ends + 3 * n.0 + out) (port-index (Port n (leg_at out)) n (leg_at out) out refl l (sym (leg-index out h))) (omega arith))

module _ (r : Railway) (f : ℕ → ℕ → Joined → List Way) (care want : ℕ) (n : PointNo) (plus : Bool) (out at : ℕ) (old : List ℕ) where
  pub laid-barred : true ≡ bars care want n.0 plus → Put (routes_laid r f care want n plus (leg_at out)) at old old at
  laid-barred e = put-none at old (routes_laid r f care want n plus (leg_at out)) (rw (← e))

  pub laid_on : (one lies j : ℕ) (new : List ℕ) (next : ℕ) → n.0 < most_points → out < 3
      → false ≡ bars care want n.0 plus → one ≡ 2 ^ n.0 → lies ≡ want_with want n.0 plus
      → j ≡ get_or r.links (section_ends + 3 * n.0 + out) no_link
      → Put (f (bit_or care one) lies (joined_by j)) at old new next → Put (routes_laid r f care want n plus (leg_at out)) at old new next
  laid_on one lies j new next l h e o w d p =
      let z : joined_by j ≡ joined r (Port n (leg_at out)) = ap joined_by d ∙ sym (port-link r n out l h) in
      put_same at old (routes_laid r f care want n plus (leg_at out)) (f (bit_or care one) lies (joined_by j)) new next (rw (← e) (sym (same one o lies w (joined_by j) z))) p
    where
      same : (one : ℕ) → one ≡ 2 ^ n.0 → (lies : ℕ) → lies ≡ want_with want n.0 plus → (i : Joined) → i ≡ joined r (Port n (leg_at out))
          → f (bit_or care one) lies i ≡ f (bit_or care (2 ^ n.0)) (want_with want n.0 plus) (joined r (Port n (leg_at out)))
      same one o lies w i z = rw (o, w, z)

-- FROM AN END: its own link's byte
pub from-link : (r : Railway) (shut : ℕ → Bool) (e j at : ℕ) (old new : List ℕ) (next : ℕ) → e < section_ends → j ≡ get_or r.links e no_link
    → Put (routes r shut 4 0 0 (joined_by j)) at old new next → Put (routes_from r shut (end_at e)) at old new next
unfolding routes_from
from-link r shut e j at old new next l d p =
    let z : joined_by j ≡ joined r (end_at e) = ap joined_by d ∙ joined-there r (end_at e) e (sym (index-end e (omega arith))) (omega arith) in
    put_same at old (routes_from r shut (end_at e)) (routes r shut 4 0 0 (joined_by j)) new next (ap (λ (i : Joined). routes r shut 4 0 0 i) (sym z)) p

-- THE ROOM: a way needs three words, and there are two to the power of the points allowed
pub room-one : (at k : ℕ) → at + 3 ≤ at + 3 * 2 ^ k
room-one at k = omega (arith, power-some k)

pub room-less : (at k : ℕ) → (k ≡ 0 → ⊥) → at + 3 * (2 * 2 ^ (k - 1)) ≡ at + 3 * 2 ^ k
room-less at k h = ap (λ (p : ℕ). at + 3 * p) (power-less k h)
