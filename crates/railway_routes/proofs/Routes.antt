-- THE LAW OF THE WAYS: those that the points suit lead to the one section that a train comes to, unless it is shut, and none is suited
-- where it derails. It goes point by point, by the law of one point more (Suits). It holds of every record, for no link names a point that
-- no railway can have. The ways are at most 16, and in an accepted record their numbers fit. Assumes nothing.
use mathlib.Core.Path.{◌≡◌, refl, sym, ◌∙◌, ap, fun_ext}
use mathlib.Core.Logic.{inl, inr}
use mathlib.Core.Bool.{Bool, true, false, cond, not, ◌&&◌}
use mathlib.Core.List.{List, [], ◌∷◌, ◌++◌}
use mathlib.Core.Option.{Option, none, some}
use Prim.Native.Nat.{ℕ, zero, suc, ◌*◌, ◌^◌, ◌≤◌, ◌<◌}
use native.Mathlib.Omega.{arith}
use native.Mathlib.Nat.{pow-succ', pow-le-pow_right}
use lib.Bits.{bit_and, bit_or, or_lt, and_zero_r}
use lib.Dec.{ltb}
use lib.ListN.{length, get_or, length-append, replicate, get_or-eq_default, get_or-replicate, length-replicate}
use borrow.Author.Tests.{eq-eqb, ltb-true}
use Rattle.laws.specs.Bits.{bit}
use Rattle.laws.proofs.Bools.{lt?, some-none, some_one}
use Rattle.railway.specs.declared.Leg.{Leg}
use Rattle.railway.specs.declared.Leg.TheVariants.{Stem, Plus, Minus}
use Rattle.railway.specs.declared.PointNo.{PointNo}
use Rattle.railway.specs.declared.SectionNo.{SectionNo}
use Rattle.railway.specs.declared.Side.{Side}
use Rattle.railway.specs.declared.End.{End}
use Rattle.railway.specs.declared.End.TheVariants.{Section, Port}
use Rattle.railway.specs.Joined.{Joined, Nothing, With}
use Rattle.railway.specs.declared.Railway.{Railway}
use Rattle.railway.specs.Bounds.{most_points, most_sections, all_ends}
use Rattle.railway.specs.Ends.{Numbered, end_index, end_at}
use Rattle.railway.specs.Lent.{ClosedOf}
use Rattle.railway.specs.Record.{no_link, joined_by, joined, is_closed}
use Rattle.railway.specs.Rows.{known}
use Rattle.railway.specs.Passing.{Passage, through, nowhere, past_point, past_join, most_met, follow, passes, in_use, entered}
use Rattle.railway.proofs.Ends.{index-end, numbered_of}
use Rattle.railway.proofs.Lookups.{lent-closed}
use Rattle.railway.proofs.Rows.{Accepted, joined-known}
use Rattle.railway_routes.specs.Routes.{Way, suits, bars, want_with, routes_past, routes_laid, routes_over, routes, routes_from}
use Rattle.railway_routes.specs.Routes.{nth, reached_by, unless_shut, one_of, most_ways, flagged, Laid}
use Rattle.railway_routes.proofs.Ways.{nth-either}
use Rattle.railway_routes.proofs.Suits.{alike, Within, within_more, within_none, lay-law}

-- A LINK NAMES NOTHING THAT NO RAILWAY CAN HAVE
abbrev pub NumberedJoin : Joined → Type 0
NumberedJoin Nothing = Unit {0}
NumberedJoin (With f) = Numbered f

byte-numbered : (b : ℕ) → NumberedJoin (joined_by b)
unfolding joined_by
byte-numbered b = cases (ltb b all_ends) refl
  where
    cases : (t : Bool) → ltb b all_ends ≡ t → NumberedJoin (cond t (With (end_at b)) Nothing)
    cases true e = let l = ltb-true b all_ends e in numbered_of (end_at b) (rw (index-end b l) l)
    cases false e = tt

pub joined-numbered : (r : Railway) (e : End) → NumberedJoin (joined r e)
unfolding joined
joined-numbered r e = cases (ltb (end_index e) all_ends)
  where
    cases : (t : Bool) → NumberedJoin (cond t (joined_by (get_or r.links (end_index e) no_link)) Nothing)
    cases true = byte-numbered (get_or r.links (end_index e) no_link)
    cases false = tt

-- WHERE THE WAYS LEAD
reached-append : (b : ℕ) (a c : List Way) → reached_by b (a ++ c) ≡ reached_by b a ++ reached_by b c
unfolding reached_by
reached-append b [] c = refl
reached-append b (w ∷ a) c = ap (λ (x : List ℕ). cond (suits b w.care w.want) (w.to ∷ x) x) (reached-append b a c) ∙ turn (suits b w.care w.want)
  where
    turn : (s : Bool) → cond s (w.to ∷ (reached_by b a ++ reached_by b c)) (reached_by b a ++ reached_by b c) ≡ cond s (w.to ∷ reached_by b a) (reached_by b a) ++ reached_by b c
    turn true = refl
    turn false = refl

app-none : (a : List ℕ) → a ++ [] ≡ a
app-none [] = refl
app-none (x ∷ a) = ap (λ (y : List ℕ). x ∷ y) (app-none a)

none-either : (s : Bool) → ◌≡◌ {A = List ℕ} [] (cond s [] [])
none-either true = refl
none-either false = refl

both_true : (s : Bool) (x : List ℕ) → cond (s && true) x [] ≡ cond s x []
both_true true x = refl
both_true false x = refl

both_false : (s : Bool) (x : List ℕ) → cond (s && false) x [] ≡ cond s [] []
both_false true x = refl
both_false false x = refl

module _ (r : Railway) (shut : ℕ → Bool) (b : ℕ) where
  -- where a passage ends
  abbrev ends : Passage → List ℕ
  ends p = one_of (unless_shut shut p.reached)

  -- what is to be shown of ways and passages behind a point
  abbrev Leads : (ℕ → ℕ → Joined → List Way) → (Joined → Passage) → Type 0
  Leads f g = (c w : ℕ) → Within w c → (j : Joined) → NumberedJoin j → reached_by b (f c w j) ≡ cond (suits b c w) (ends (g j)) []

  -- over a point that lies so
  laid-leads : (f : ℕ → ℕ → Joined → List Way) (g : Joined → Passage) → Leads f g → (care want : ℕ) (n : PointNo) (plus : Bool) (out : Leg) → Within want care → n.0 < most_points
      → reached_by b (routes_laid r f care want n plus out) ≡ cond (suits b care want && alike plus (bit b n.0)) (ends (g (joined r (Port n out)))) []
  unfolding reached_by
  laid-leads f g h care want n plus out within l =
      go (bars care want n.0 plus) (suits b (bit_or care (2 ^ n.0)) (want_with want n.0 plus)) (suits b care want && alike plus (bit b n.0))
      (lay-law b care want n.0 plus within l)
      (h (bit_or care (2 ^ n.0)) (want_with want n.0 plus) (within_more want care n.0 plus within) (joined r (Port n out)) (joined-numbered r (Port n out)))
    where
      go : (bar s t : Bool) → (not bar && s) ≡ t
          → reached_by b (f (bit_or care (2 ^ n.0)) (want_with want n.0 plus) (joined r (Port n out))) ≡ cond s (ends (g (joined r (Port n out)))) []
          → reached_by b (cond bar [] (f (bit_or care (2 ^ n.0)) (want_with want n.0 plus) (joined r (Port n out)))) ≡ cond t (ends (g (joined r (Port n out)))) []
      go true s t q z = rw (sym q)
      go false s t q z = z ∙ ap (λ (x : Bool). cond x (ends (g (joined r (Port n out)))) []) q

  over-leads : (f : ℕ → ℕ → Joined → List Way) (g : Joined → Passage) → Leads f g → (care want : ℕ) (n : PointNo) (l : Leg) → Within want care → n.0 < most_points
      → (p : Bool) → bit b n.0 ≡ p → reached_by b (routes_over r f care want n l) ≡ cond (suits b care want) (ends (past_point r g n (through l p))) []
  over-leads f g h care want n Stem within m p e =
      reached-append b (routes_laid r f care want n false Minus) (routes_laid r f care want n true Plus)
      ∙ two (reached_by b (routes_laid r f care want n false Minus)) (reached_by b (routes_laid r f care want n true Plus)) (laid-leads f g h care want n false Minus within m)
      (laid-leads f g h care want n true Plus within m) p e
    where
      minus : (s : Bool) (x y : List ℕ) → cond (s && true) x [] ++ cond (s && false) y [] ≡ cond s x []
      minus true x y = app-none x
      minus false x y = refl

      plus : (s : Bool) (x y : List ℕ) → cond (s && false) x [] ++ cond (s && true) y [] ≡ cond s y []
      plus true x y = refl
      plus false x y = refl

      two : (x y : List ℕ) → x ≡ cond (suits b care want && not (bit b n.0)) (ends (g (joined r (Port n Minus)))) []
          → y ≡ cond (suits b care want && bit b n.0) (ends (g (joined r (Port n Plus)))) [] → (p : Bool) → bit b n.0 ≡ p
          → x ++ y ≡ cond (suits b care want) (ends (past_point r g n (through Stem p))) []
      two x y ex ey true e = rw (ex, ey, e) (plus (suits b care want) (ends (g (joined r (Port n Minus)))) (ends (g (joined r (Port n Plus)))))
      two x y ex ey false e = rw (ex, ey, e) (minus (suits b care want) (ends (g (joined r (Port n Minus)))) (ends (g (joined r (Port n Plus)))))
  over-leads f g h care want n Plus within m true e = laid-leads f g h care want n true Stem within m ∙ rw e (both_true (suits b care want) (ends (g (joined r (Port n Stem)))))
  over-leads f g h care want n Plus within m false e = laid-leads f g h care want n true Stem within m ∙ rw e (both_false (suits b care want) (ends (g (joined r (Port n Stem)))))
  over-leads f g h care want n Minus within m true e = laid-leads f g h care want n false Stem within m ∙ rw e (both_false (suits b care want) (ends (g (joined r (Port n Stem)))))
  over-leads f g h care want n Minus within m false e = laid-leads f g h care want n false Stem within m ∙ rw e (both_true (suits b care want) (ends (g (joined r (Port n Stem)))))

  past-leads : (f : PointNo → Leg → List Way) (g : PointNo → Leg → Passage) (care want : ℕ) (j : Joined)
      → ((n : PointNo) (l : Leg) → j ≡ With (Port n l) → reached_by b (f n l) ≡ cond (suits b care want) (ends (g n l)) [])
      → reached_by b (routes_past shut f care want j) ≡ cond (suits b care want) (ends (past_join g j)) []
  unfolding reached_by
  past-leads f g care want Nothing h = none-either (suits b care want)
  past-leads f g care want (With (Section n s)) h = cases (shut n.0)
    where
      cases : (t : Bool) → reached_by b (cond t [] (record { care = care; want = want; to = n.0 } ∷ [])) ≡ cond (suits b care want) (one_of (cond t none (some n.0))) []
      cases true = none-either (suits b care want)
      cases false = refl
  past-leads f g care want (With (Port n l)) h = h n l refl

  leads : (k : ℕ) → Leads (λ c w i. routes r shut k c w i) (λ i. follow r (bit b) k i)
  unfolding routes follow reached_by
  leads zero care want within j h = past-leads (λ n l. []) (λ n l. nowhere) care want j (λ n l e. none-either (suits b care want))
  leads (suc k) care want within j h =
      past-leads _ _ care want j (λ n l e.
      over-leads (λ c w i. routes r shut k c w i) (λ i. follow r (bit b) k i) (leads k) care want n l within (port-numbered n l (rw e at h)) (bit b n.0) refl)
    where
      port-numbered : (n : PointNo) (l : Leg) → NumberedJoin (With (Port n l)) → n.0 < most_points
      port-numbered n l h = h

  -- FROM AN END: the ways that are suited lead to the section that is reached, unless it is shut
  pub from-leads : (e : End) → reached_by b (routes_from r shut e) ≡ one_of (unless_shut shut (passes r (bit b) e).reached)
  unfolding routes_from passes
  from-leads e =
      let z : suits b 0 0 ≡ true = eq-eqb (bit_and b 0) 0 (and_zero_r b) in
      leads most_met 0 0 within_none (joined r e) (joined-numbered r e) ∙ rw z

-- with closed sections shut, to the section that is entered
closed-shut : (r : Railway) (o : Option ℕ) → unless_shut (is_closed r) o ≡ in_use r o
closed-shut r none = refl
closed-shut r (some x) = refl

pub from-enters : (r : Railway) (b : ℕ) (e : End) → reached_by b (routes_from r (is_closed r) e) ≡ one_of (entered r (bit b) e)
unfolding entered
from-enters r b e = from-leads r (is_closed r) b e ∙ ap one_of (closed-shut r (passes r (bit b) e).reached)

-- with nothing shut, to the section that is reached
abbrev pub nothing_shut : ℕ → Bool
nothing_shut x = false

none-shut : (o : Option ℕ) → unless_shut nothing_shut o ≡ o
none-shut none = refl
none-shut (some x) = refl

pub from-reaches : (r : Railway) (b : ℕ) (e : End) → reached_by b (routes_from r nothing_shut e) ≡ one_of (passes r (bit b) e).reached
from-reaches r b e = from-leads r nothing_shut b e ∙ ap one_of (none-shut (passes r (bit b) e).reached)

-- AT MOST 16
laid-few : (r : Railway) (f : ℕ → ℕ → Joined → List Way) (m : ℕ) → ((c w : ℕ) (j : Joined) → length (f c w j) ≤ m) → (care want : ℕ) (n : PointNo) (plus : Bool) (out : Leg)
    → length (routes_laid r f care want n plus out) ≤ m
laid-few r f m h care want n plus out = go (bars care want n.0 plus)
  where
    go : (x : Bool) → length (cond x [] (f (bit_or care (2 ^ n.0)) (want_with want n.0 plus) (joined r (Port n out)))) ≤ m
    go true = omega arith
    go false = h (bit_or care (2 ^ n.0)) (want_with want n.0 plus) (joined r (Port n out))

over-few : (r : Railway) (f : ℕ → ℕ → Joined → List Way) (m : ℕ) → ((c w : ℕ) (j : Joined) → length (f c w j) ≤ m) → (care want : ℕ) (n : PointNo) (l : Leg)
    → length (routes_over r f care want n l) ≤ 2 * m
over-few r f m h care want n Stem =
    let a = laid-few r f m h care want n false Minus in
    let b = laid-few r f m h care want n true Plus in
    omega (arith, length-append (routes_laid r f care want n false Minus) (routes_laid r f care want n true Plus), a, b)
over-few r f m h care want n Plus = omega (arith, laid-few r f m h care want n true Stem)
over-few r f m h care want n Minus = omega (arith, laid-few r f m h care want n false Stem)

past-few : (shut : ℕ → Bool) (f : PointNo → Leg → List Way) (m : ℕ) → 1 ≤ m → ((n : PointNo) (l : Leg) → length (f n l) ≤ m)
    → (care want : ℕ) (j : Joined) → length (routes_past shut f care want j) ≤ m
past-few shut f m o h care want Nothing = omega arith
past-few shut f m o h care want (With (Section n s)) = go (shut n.0)
  where
    go : (x : Bool) → length {A = Way} (cond x [] (record { care = care; want = want; to = n.0 } ∷ [])) ≤ m
    go true = omega arith
    go false = omega arith
past-few shut f m o h care want (With (Port n l)) = h n l

pub power-some : (k : ℕ) → 1 ≤ 2 ^ k
power-some k = omega (arith, pow-le-pow_right {n = 2} (omega arith) {i = 0} {j = k} (omega arith))

few : (r : Railway) (shut : ℕ → Bool) (k care want : ℕ) (j : Joined) → length (routes r shut k care want j) ≤ 2 ^ k
unfolding routes
few r shut zero care want j = past-few shut (λ n l. []) 1 (omega arith) (λ n l. omega arith) care want j
few r shut (suc k) care want j =
    let e : 2 ^ suc k ≡ 2 * 2 ^ k = pow-succ' 2 k in
    let o = power-some k in
    rw e (past-few shut _ (2 * 2 ^ k) (omega arith) (λ n l. over-few r (λ c w i. routes r shut k c w i) (2 ^ k) (λ c w i. few r shut k c w i) care want n l) care want j)

pub from-few : (r : Railway) (shut : ℕ → Bool) (e : End) → length (routes_from r shut e) ≤ most_ways
unfolding routes_from
from-few r shut e = few r shut most_met 0 0 (joined r e)

-- WHAT HOLDS OF EVERY WAY: given what holds of the points that matter so far, of joins, and of a way that ends, it goes point by point
module _ (r : Railway) (shut : ℕ → Bool) (I : ℕ → ℕ → Type 0) (J : Joined → Type 0) (Q : Way → Type 0) (joins : (e : End) → J (joined r e))
    (more : (care want : ℕ) (n : PointNo) (l : Leg) (plus : Bool) → I care want → J (With (Port n l)) → I (bit_or care (2 ^ n.0)) (want_with want n.0 plus))
    (last : (care want : ℕ) (n : SectionNo) (s : Side) → I care want → J (With (Section n s)) → shut n.0 ≡ false → Q (record { care = care; want = want; to = n.0 })) where
  abbrev Every : List Way → Type 0
  Every ws = (i : ℕ) (w : Way) → nth ws i ≡ some w → Q w

  every-none : Every []
  unfolding nth
  every-none i w e = some-none e refl

  every_one : (v : Way) → Q v → Every (v ∷ [])
  unfolding nth
  every_one v q zero w e = rw (some_one e) at q
  every_one v q (suc i) w e = some-none e refl

  abbrev EveryPast : (ℕ → ℕ → Joined → List Way) → Type 0
  EveryPast f = (care want : ℕ) (j : Joined) → I care want → J j → Every (f care want j)

  every-laid : (f : ℕ → ℕ → Joined → List Way) → EveryPast f → (care want : ℕ) (n : PointNo) (l : Leg) (plus : Bool) (out : Leg) → I care want → J (With (Port n l))
      → Every (routes_laid r f care want n plus out)
  every-laid f h care want n l plus out a k = go (bars care want n.0 plus)
    where
      go : (x : Bool) → Every (cond x [] (f (bit_or care (2 ^ n.0)) (want_with want n.0 plus) (joined r (Port n out))))
      go true = every-none
      go false = h (bit_or care (2 ^ n.0)) (want_with want n.0 plus) (joined r (Port n out)) (more care want n l plus a k) (joins (Port n out))

  every-over : (f : ℕ → ℕ → Joined → List Way) → EveryPast f → (care want : ℕ) (n : PointNo) (l : Leg) → I care want → J (With (Port n l)) → Every (routes_over r f care want n l)
  every-over f h care want n Stem a k i w e = elim (nth-either (routes_laid r f care want n false Minus) (routes_laid r f care want n true Plus) i w e) [
    | inl y ↦ every-laid f h care want n Stem false Minus a k i w y
    | inr y ↦ every-laid f h care want n Stem true Plus a k y.0 w y.1
  ]
  every-over f h care want n Plus a k i w e = every-laid f h care want n Plus true Stem a k i w e
  every-over f h care want n Minus a k i w e = every-laid f h care want n Minus false Stem a k i w e

  every-past : (f : PointNo → Leg → List Way) (care want : ℕ) (j : Joined) → I care want → J j → ((n : PointNo) (l : Leg) → J (With (Port n l)) → Every (f n l))
      → Every (routes_past shut f care want j)
  every-past f care want Nothing a k h = every-none
  every-past f care want (With (Section n s)) a k h = go (shut n.0) refl
    where
      go : (x : Bool) → shut n.0 ≡ x → Every (cond x [] (record { care = care; want = want; to = n.0 } ∷ []))
      go true e = every-none
      go false e = every_one (record { care = care; want = want; to = n.0 }) (last care want n s a k e)
  every-past f care want (With (Port n l)) a k h = h n l k

  every : (k : ℕ) → EveryPast (λ c w i. routes r shut k c w i)
  unfolding routes
  every zero care want j a h = every-past (λ n l. []) care want j a h (λ n l m. every-none)
  every (suc k) care want j a h = every-past _ care want j a h (λ n l m. every-over (λ c w i. routes r shut k c w i) (every k) care want n l a m)

  every-from : I 0 0 → (e : End) → Every (routes_from r shut e)
  unfolding routes_from
  every-from a e = every most_met 0 0 (joined r e) a (joins e)

-- in every record a way leads to a section that a railway can have, and that is not shut
pub record Ending (shut : ℕ → Bool) (w : Way) : Type 0 where
  pub to : w.to < most_sections
  pub clear : shut w.to ≡ false

pub from-ends : (r : Railway) (shut : ℕ → Bool) (e : End) (i : ℕ) (w : Way) → nth (routes_from r shut e) i ≡ some w → Ending shut w
from-ends r shut e =
    every-from r shut (λ c w. Unit {0}) NumberedJoin (Ending shut) (joined-numbered r) (λ c w n l p a k. tt) (λ c w n s a k o. record { to = k; clear = o }) tt e

-- in an accepted record all its numbers are within the counts
pub record Small (r : Railway) (w : Way) : Type 0 where
  pub care : w.care < 2 ^ r.points
  pub want : w.want < 2 ^ r.points
  pub to : w.to < r.sections
  pub within : Within w.want w.care

abbrev KnownJoin : Railway → Joined → Type 0
KnownJoin r Nothing = Unit {0}
KnownJoin r (With f) = known r f ≡ true

module _ (r : Railway) (ok : Accepted r) where
  known-join : (e : End) → KnownJoin r (joined r e)
  known-join e = cases (joined r e) refl
    where
      cases : (j : Joined) → joined r e ≡ j → KnownJoin r j
      cases Nothing h = tt
      cases (With f) h = (joined-known r ok e f h).1

  record Fits (c w : ℕ) : Type 0 where
    care : c < 2 ^ r.points
    want : w < 2 ^ r.points
    within : Within w c

  power_small : (n : ℕ) → n < r.points → 2 ^ n < 2 ^ r.points
  power_small n l = let e : 2 ^ suc n ≡ 2 * 2 ^ n = pow-succ' 2 n in omega (arith, power-some n, pow-le-pow_right {n = 2} (omega arith) {i = suc n} {j = r.points} (omega arith))

  want-small : (want n : ℕ) (plus : Bool) → n < r.points → want < 2 ^ r.points → want_with want n plus < 2 ^ r.points
  want-small want n true l h = or_lt r.points want (2 ^ n) h (power_small n l)
  want-small want n false l h = h

  fits_more : (care want : ℕ) (n : PointNo) (l : Leg) (plus : Bool) → Fits care want → known r (Port n l) ≡ true → Fits (bit_or care (2 ^ n.0)) (want_with want n.0 plus)
  fits_more care want n l plus h k =
      let m : n.0 < r.points = ltb-true n.0 r.points k in
      record {
        care = or_lt r.points care (2 ^ n.0) h.care (power_small n.0 m);
        want = want-small want n.0 plus m h.want;
        within = within_more want care n.0 plus h.within;
      }

  pub from-small : (shut : ℕ → Bool) (e : End) (i : ℕ) (w : Way) → nth (routes_from r shut e) i ≡ some w → Small r w
  from-small shut e =
      every-from r shut Fits (KnownJoin r) (Small r) known-join fits_more
      (λ c w n s a k o. record { care = a.care; want = a.want; to = ltb-true n.0 r.sections k; within = a.within })
      (record { care = power-some r.points; want = power-some r.points; within = within_none }) e

-- THE FLAGS of a record's closed sections say which are closed, and flags that are all unset shut nothing
pub flags-closed : (r : Railway) (flags : List Bool) → ClosedOf r flags → flagged flags ≡ is_closed r
flags-closed r flags h = fun_ext (λ x. lent-closed r x flags h)

pub laid-closed : (r : Railway) (flags : List Bool) (ways : List ℕ) → ClosedOf r flags → Laid r (flagged flags) ways → Laid r (is_closed r) ways
laid-closed r flags ways h l = rw (flags-closed r flags h) at l

pub flags-none : (n : ℕ) (flags : List Bool) → flags ≡ replicate n false → flagged flags ≡ nothing_shut
flags-none n flags e = fun_ext (λ x. ap (λ (list : List Bool). get_or list x false) e ∙ elim (lt? x n) [
  | inl l ↦ get_or-replicate n x false false l
  | inr l ↦ get_or-eq_default (replicate n false) false (omega (arith, l, length-replicate {A = Bool} n false))
])

pub laid-open : (r : Railway) (n : ℕ) (flags : List Bool) (ways : List ℕ) → flags ≡ replicate n false → Laid r (flagged flags) ways → Laid r nothing_shut ways
laid-open r n flags ways e l = rw (flags-none n flags e) at l
