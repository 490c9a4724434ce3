-- What the statements on row 13 and on passages are for: facts of any record with such joins, drawn from them alone.
-- Nothing rests on them; they hold the statements' clauses fast, for without a clause its fact is lost.
-- Assumes nothing.
use mathlib.Core.Path.{◌≡◌, refl, sym, ◌∙◌, ap}
use mathlib.Core.Logic.{inl, inr}
use mathlib.Core.Bool.{Bool, true, false}
use mathlib.Core.List.{[], ◌∷◌}
use mathlib.Core.Option.{Option, none, some}
use Prim.Native.Nat.{ℕ, zero, suc, ◌≤◌, ◌<◌, ◌+◌}
use native.Mathlib.Omega.{arith}
use lib.Dec.{eqb}
use lib.ListN.{length}
use Rattle.laws.specs.Lists.{any, repeats}
use Rattle.laws.proofs.Bools.{clash, some-none, some_one, not-true}
use Rattle.railway.specs.declared.Side.{Side}
use Rattle.railway.specs.declared.Side.TheVariants.{Up}
use Rattle.railway.specs.declared.Leg.{Leg}
use Rattle.railway.specs.declared.Leg.TheVariants.{Stem, Plus}
use Rattle.railway.specs.declared.SectionNo.{SectionNo}
use Rattle.railway.specs.declared.PointNo.{PointNo}
use Rattle.railway.specs.declared.End.{End}
use Rattle.railway.specs.declared.End.TheVariants.{Section, Port}
use Rattle.railway.specs.Joined.{Joined, Nothing, With}
use Rattle.railway.specs.declared.Railway.{Railway}
use Rattle.railway.specs.Refusals.{first, number_of}
use Rattle.railway.specs.Record.{joined}
use Rattle.railway.specs.Passing.{through, most_met, follow, passes}
use Rattle.railway.specs.Rows.{weight_row, chain_row, record_refusal}
use Rattle.railway.specs.Yards.{sec, port}
use Rattle.railway.specs.Chains.{port_out, port_past, onward, left_by, Joinable, LongWay, Round}
use Rattle.railway.proofs.Chains.{chain-exactly, accepted-unbroken}

-- 13 GIVEN. Where row 13 applies and none of those before it, the number is 13.
thirteen : (r : Railway) → weight_row r ≡ false → Joinable r → chain_row r ≡ true → number_of (record_refusal r) ≡ some 13
unfolding record_refusal first
thirteen r w h c = rw (h.count, w, h.unknown, h.join, h.loose, c)

-- Whatever else there is: where 1u leads over the plus legs of points 1 to 5 to a section, the record gets 13;
five-in-row : (r : Railway) → weight_row r ≡ false → Joinable r → (x : SectionNo) (s : Side) → joined r (sec 1 Up)
    ≡ With (port 1 Stem) → joined r (port 1 Plus) ≡ With (port 2 Stem) → joined r (port 2 Plus) ≡ With (port 3 Stem)
    → joined r (port 3 Plus) ≡ With (port 4 Stem) → joined r (port 4 Plus) ≡ With (port 5 Stem)
    → joined r (port 5 Plus) ≡ With (Section x s) → number_of (record_refusal r) ≡ some 13
unfolding left_by
five-in-row r w h x s a b c d e f =
    thirteen r w h
    ((chain-exactly r h).1
    (inl (record {
      plus = λ n. true;
      start = record { 0 = 0 };
      side = Up;
      points = 5;
      many = omega arith;
      last = port 5 Plus;
      over = rw (a, b, c, d, e);
      end = x;
      end-side = s;
      comes = f;
    })))

-- and where 1+ leads to 2+ and 2s to 1s, a round, whether or not a section leads to it.
round-of-two : (r : Railway) → weight_row r ≡ false → Joinable r → joined r (port 1 Plus) ≡ With (port 2 Plus)
    → joined r (port 2 Stem) ≡ With (port 1 Stem) → number_of (record_refusal r) ≡ some 13
unfolding left_by
round-of-two r w h a b =
    thirteen r w h ((chain-exactly r h).1
    (inr (record { plus = λ n. true; point = record { 0 = 0 }; leg = Plus; further = 1; again = rw (a, b) })))

-- 13 NOT GIVEN. Where no port is joined to a port, row 13 does not apply: neither a way over more than four points nor
-- a round goes on from its first.
module _ (r : Railway)
    (apart : (n m : PointNo) (l k : Leg) → joined r (Port n l) ≡ With (Port m k) → ⊥) (plus : ℕ → Bool) where
  not_on : (n : PointNo) (l : Leg) (f : End) → port_past plus (joined r (Port n l)) ≡ some f → ⊥
  not_on n l f h = go (joined r (Port n l)) refl h
    where
      go : (j : Joined) → joined r (Port n l) ≡ j → port_past plus j ≡ some f → ⊥
      go Nothing j q = some-none q refl
      go (With (Section m s)) j q = some-none q refl
      go (With (Port m k)) j q = apart n m l k j

  by-port : (f : End) (j : Joined) → port_past plus j ≡ some f → (n : PointNo) × (l : Leg) × (f ≡ Port n l)
  by-port f Nothing h = some-none h refl
  by-port f (With (Section n s)) h = some-none h refl
  by-port f (With (Port n l)) h = go (through l (plus n.0)) h
    where
      go : (o : Option Leg) → port_out n o ≡ some f → (n : PointNo) × (l : Leg) × (f ≡ Port n l)
      go none q = some-none q refl
      go (some m) q = (n, m, sym (some_one q))

  one_only : (o : Option End) (f : End) → onward r plus (onward r plus o) ≡ some f → ⊥
  one_only none f h = some-none h refl
  one_only (some e) f h = go (port_past plus (joined r e)) refl h
    where
      go : (o : Option End) → port_past plus (joined r e) ≡ o → onward r plus o ≡ some f → ⊥
      go none p q = some-none q refl
      go (some g) p q = let a = by-port g (joined r e) p in not_on a.0 a.1 f (rw a.2 at q)

ports-apart : (r : Railway) → Joinable r → ((n m : PointNo) (l k : Leg) → joined r (Port n l) ≡ With (Port m k) → ⊥)
    → chain_row r ≡ false
unfolding left_by
ports-apart r h apart =
    not-true (chain_row r) (λ c. elim ((chain-exactly r h).0 c) [
      | inl x ↦ way x x.points x.many x.over
      | inr x ↦ round x x.further x.again
    ])
  where
    way : (x : LongWay r) (k : ℕ) → most_met < k
        → left_by r x.plus k (Section x.start x.side) ≡ some x.last → ⊥
    way x zero b q = omega arith
    way x (suc zero) b q = omega arith
    way x (suc (suc k)) b q =
        one_only r apart x.plus (left_by r x.plus k (Section x.start x.side)) x.last q

    round : (x : Round r) (k : ℕ)
        → left_by r x.plus (suc k) (Port x.point x.leg) ≡ some (Port x.point x.leg) → ⊥
    round x zero q = not_on r apart x.plus x.point x.leg (Port x.point x.leg) q
    round x (suc k) q =
        one_only r apart x.plus (left_by r x.plus k (Port x.point x.leg)) (Port x.point x.leg) q

-- Where no section end is joined to anything, or nothing to a section end, row 13 tells of a round.
none-leads : (r : Railway) (plus : ℕ → Bool) (n : SectionNo) (s : Side) (k : ℕ) → joined r (Section n s) ≡ Nothing
    → left_by r plus (suc k) (Section n s) ≡ none
unfolding left_by
none-leads r plus n s zero h = rw h
none-leads r plus n s (suc k) h = rw (none-leads r plus n s k h)

none-starts : (r : Railway) → Joinable r → chain_row r ≡ true
    → ((n : SectionNo) (s : Side) → joined r (Section n s) ≡ Nothing) → Round r
none-starts r h c off = elim ((chain-exactly r h).0 c) [ inl x ↦ go x x.points x.many x.over | inr x ↦ x ]
  where
    go : (x : LongWay r) (k : ℕ) → most_met < k
        → left_by r x.plus k (Section x.start x.side) ≡ some x.last → Round r
    go x zero b q = absurd (omega arith)
    go x (suc k) b q = some-none q (none-leads r x.plus x.start x.side k (off x.start x.side))

none-comes : (r : Railway) → Joinable r → chain_row r ≡ true
    → ((e : End) (n : SectionNo) (s : Side) → joined r e ≡ With (Section n s) → ⊥) → Round r
none-comes r h c off =
    elim ((chain-exactly r h).0 c) [ inl x ↦ absurd (off x.last x.end x.end-side x.comes) | inr x ↦ x ]

-- PASSAGES of an accepted record: none meets five points, though sixteen are allowed; none meets point 3 again behind
-- another; and over two points from 1s a train comes to the same section whether four are allowed or more.
not-five : (r : Railway) → record_refusal r ≡ none → (plus : ℕ → Bool) (e : End) (a b c d f : ℕ)
    → (follow r plus 16 (joined r e)).met ≡ a ∷ b ∷ c ∷ d ∷ f ∷ [] → ⊥
not-five r h plus e a b c d f q =
    let z : length (follow r plus 16 (joined r e)).met ≤ most_met = (accepted-unbroken r h).few plus e 16 in
    let y : length (follow r plus 16 (joined r e)).met ≡ 5 = ap length q in
    omega arith

not-again : (r : Railway) → record_refusal r ≡ none → (plus : ℕ → Bool) (e : End)
    → (passes r plus e).met ≡ 2 ∷ 0 ∷ 2 ∷ [] → ⊥
unfolding any repeats
not-again r h plus e q =
    let z : repeats eqb (2 ∷ 0 ∷ 2 ∷ []) ≡ false = sym (ap (repeats eqb) q) ∙ (accepted-unbroken r h).once plus e in
    clash refl z

more-allowed : (r : Railway) → record_refusal r ≡ none → (plus : ℕ → Bool) (more a b x : ℕ)
    → follow r plus (4 + more) (joined r (port 1 Stem)) ≡ record { met = a ∷ b ∷ []; reached = some x }
    → passes r plus (port 1 Stem) ≡ record { met = a ∷ b ∷ []; reached = some x }
more-allowed r h plus more a b x q = sym ((accepted-unbroken r h).whole plus (port 1 Stem) (4 + more) (omega arith)) ∙ q
