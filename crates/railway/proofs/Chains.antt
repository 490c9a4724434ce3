-- What row 13 means. Where the walk behind some port is too long, a run follows it, and comes round or is led on to a
-- section; turned and led on, it passes the point of that port too, and comes round or to a section again: then it is a
-- way over more than four points. The other way about, a way or a round under a setting is itself such a walk, from the
-- first port by which it leaves a point. A passage of an accepted record meets no point twice, for it could then come
-- round; and no fifth point, so it is not cut short. Assumes nothing.
use mathlib.Core.Path.{◌≡◌, refl, sym}
use mathlib.Core.Logic.{◌↔◌, ◌⊎◌, inl, inr}
use mathlib.Core.Bool.{Bool, true, false, ◌||◌}
use mathlib.Core.List.{List, [], ◌∷◌}
use mathlib.Core.Option.{Option, none, some}
use Prim.Native.Nat.{ℕ, zero, suc, ◌+◌, ◌≤◌, ◌<◌}
use native.Mathlib.Omega.{arith}
use lib.Dec.{eqb}
use lib.ListN.{length}
use borrow.Author.Tests.{ltb-true, eq-eqb, ne_eqb}
use Rattle.laws.specs.Lists.{any, repeats, Every}
use Rattle.laws.proofs.Bools.{clash, some-none, some_one, either, or_left, or_right, or-false, or-none, not-true, lt?}
use Rattle.laws.proofs.Below.{any_at, any_of}
use Rattle.laws.proofs.Lists.{every-none, every_more, repeats-none}
use Rattle.railway.specs.declared.Leg.{Leg}
use Rattle.railway.specs.declared.Leg.TheVariants.{Stem, Plus, Minus}
use Rattle.railway.specs.declared.PointNo.{PointNo}
use Rattle.railway.specs.declared.SectionNo.{SectionNo}
use Rattle.railway.specs.declared.Side.{Side}
use Rattle.railway.specs.declared.End.{End}
use Rattle.railway.specs.declared.End.TheVariants.{Section, Port}
use Rattle.railway.specs.Joined.{Joined, Nothing, With}
use Rattle.railway.specs.declared.Railway.{Railway}
use Rattle.railway.specs.Bounds.{most_points}
use Rattle.railway.specs.Record.{joined}
use Rattle.railway.specs.Passing.{Passage, through, most_met, follow, passes, past_point}
use Rattle.railway.specs.Rows.{longer, longer_over, most_behind, chained_at, chain_row}
use Rattle.railway.specs.Chains.{port_out, port_past, onward, left_by, LongWay, Round, ChainExactly}
use Rattle.railway.specs.Chains.{AcceptedUnbroken}
use Rattle.railway.proofs.Rows.{Laid, Accepted, laid-facts, laid-known, accepted-facts, laid}
use Rattle.railway.proofs.Runs.{Open, Led, Ended, beyond, passed_on, port-there, start, led_on, led-out}
use Rattle.railway.proofs.Runs.{led-back, run-left, Run, pass, Once, met-again, once_more}

-- THE ROW GIVES A WAY OR A ROUND. The row, by a port
three-ports : (f : Leg → Bool) → (f Stem || f Plus || f Minus) ≡ true → (l : Leg) × (f l ≡ true)
three-ports f h = elim (either (f Stem || f Plus) (f Minus) h) [
  | inl a ↦ elim (either (f Stem) (f Plus) a) [ inl b ↦ (Stem, b) | inr b ↦ (Plus, b) ]
  | inr a ↦ (Minus, a)
]

some-port : (f : Leg → Bool) (l : Leg) → f l ≡ true → (f Stem || f Plus || f Minus) ≡ true
some-port f Stem h = or_left (f Stem || f Plus) (f Minus) (or_left (f Stem) (f Plus) h)
some-port f Plus h = or_left (f Stem || f Plus) (f Minus) (or_right (f Stem) (f Plus) h)
some-port f Minus h = or_right (f Stem || f Plus) (f Minus) h

abbrev long-at : Railway → ℕ → Leg → Bool
long-at r n l = longer r most_behind (joined r (Port (record { 0 = n }) l))

row-port : (r : Railway) → chain_row r ≡ true → (n : ℕ) × (l : Leg) × (n < r.points) × (long-at r n l ≡ true)
unfolding chain_row
row-port r h =
    let a = any_at (chained_at r) r.points h in
    let b = three-ports (long-at r a.0) a.2 in
    (a.0, b.0, a.1, b.1)

port-row : (r : Railway) (n : ℕ) (l : Leg) → n < r.points → long-at r n l ≡ true → chain_row r ≡ true
unfolding chain_row
port-row r n l b h = any_of (chained_at r) r.points n b (some-port (long-at r n) l h)

-- the next point of a walk that is long enough, and how it is left
record Next (r : Railway) (k : ℕ) (f : End) : Type 0 where
  point : PointNo
  enters : Leg
  leaves : Leg
  there : joined r f ≡ With (Port point enters)
  way : Open enters leaves
  on : longer r k (joined r (Port point leaves)) ≡ true

module _ (r : Railway) (k : ℕ) (f : End) where
  next-over : (n : PointNo) (l : Leg) → joined r f ≡ With (Port n l)
      → longer_over r (λ i. longer r k i) n l ≡ true → Next r k f
  next-over n Stem j h = elim (either (longer r k (joined r (Port n Plus))) (longer r k (joined r (Port n Minus))) h) [
    | inl a ↦
        record { point = n; enters = Stem; leaves = Plus; there = j; way = record { set = true; out = refl }; on = a }
    | inr a ↦
        record { point = n; enters = Stem; leaves = Minus; there = j; way = record { set = false; out = refl }; on = a }
  ]
  next-over n Plus j h =
      record { point = n; enters = Plus; leaves = Stem; there = j; way = record { set = true; out = refl }; on = h }
  next-over n Minus j h =
      record { point = n; enters = Minus; leaves = Stem; there = j; way = record { set = false; out = refl }; on = h }

  next-point : longer r (suc k) (joined r f) ≡ true → Next r k f
  unfolding longer
  next-point h = go (joined r f) refl h
    where
      go : (j : Joined) → joined r f ≡ j → longer r (suc k) j ≡ true → Next r k f
      go Nothing j q = clash q refl
      go (With (Section n s)) j q = clash q refl
      go (With (Port n l)) j q = next-over n l j q

at-point : (r : Railway) (f : End) → longer r 0 (joined r f) ≡ true → (n : PointNo) × (l : Leg)
    × (joined r f ≡ With (Port n l))
unfolding longer
at-point r f h = go (joined r f) refl h
  where
    go : (j : Joined) → joined r f ≡ j → longer r 0 j ≡ true → (n : PointNo) × (l : Leg)
        × (joined r f ≡ With (Port n l))
    go Nothing j q = clash q refl
    go (With (Section n s)) j q = clash q refl
    go (With (Port n l)) j q = (n, l, j)

module _ (r : Railway) (w : Laid r) where
  -- a run to a port of a point, over at least so many
  record AtPort (e : End) (many : ℕ) : Type 0 where
    point : PointNo
    leg : Leg
    there : point.0 < r.points
    led : Led r w e (Port point leg) many

  follows : (k i many : ℕ) (e f : End) → Led r w e f i → longer r k (joined r f) ≡ true → suc (k + i) ≡ many
      → AtPort e many ⊎ Round r
  follows zero i many e f d h s =
      let a = at-point r f h in
      let z : suc i ≡ many = omega arith in
      elim (led_on r w e f i d a.0 a.1 (beyond a.1) a.2 (passed_on a.1)) [
        | inl c ↦ inl (record {
          point = a.0;
          leg = beyond a.1;
          there = port-there r w f a.0 a.1 a.2;
          led = rw z at c;
        })
        | inr c ↦ inr c
      ]
  follows (suc k) i many e f d h s =
      let a = next-point r k f h in
      elim (led_on r w e f i d a.point a.enters a.leaves a.there a.way) [
        | inl c ↦ follows k (suc i) many e (Port a.point a.leaves) c a.on (omega arith)
        | inr c ↦ inr c
      ]

  long-way : (s : SectionNo) (side : Side) → Ended r w (Section s side) (suc most_met) → LongWay r
  long-way s side d =
      let c = d.led in
      record {
        plus = c.plus;
        start = s;
        side = side;
        points = length c.points;
        many = omega (arith, c.so-many);
        last = d.last;
        over = run-left r c.plus (Section s side) c.points d.last c.run;
        end = d.section;
        end-side = d.side;
        comes = d.comes;
      }

  pub way-or-round : chain_row r ≡ true → LongWay r ⊎ Round r
  unfolding repeats
  way-or-round h =
      let a = row-port r h in
      let p : PointNo = record { 0 = a.0 } in
      let e = Port p a.1 in
      elim (follows most_behind 0 most_met e e
      (record { plus = λ n. true; points = []; run = start; once = refl; so-many = omega arith }) a.3 refl) [
        | inl b ↦ elim (led-out r w (suc most_points) most_met e b.point b.leg b.there b.led (omega arith)) [
          | inl c ↦
              let t = led-back r w e most_met c in
              let s = Section c.section c.side in
              elim (led_on r w s t.0 most_met t.1 p a.1 (beyond a.1) t.2 (passed_on a.1)) [
                | inl d ↦ elim (led-out r w (suc most_points) (suc most_met) s p (beyond a.1) a.2 d
                    (omega arith)) [ inl x ↦ inl (long-way c.section c.side x) | inr x ↦ inr x ]
                | inr x ↦ inr x
              ]
          | inr x ↦ inr x
        ]
        | inr x ↦ inr x
      ]

  -- A WAY OR A ROUND GIVES THE ROW. The first point of what is left so
  record First (plus : ℕ → Bool) (k : ℕ) (e f : End) : Type 0 where
    point : PointNo
    enters : Leg
    leaves : Leg
    there : joined r e ≡ With (Port point enters)
    passed : through enters (plus point.0) ≡ some leaves
    on : left_by r plus k (Port point leaves) ≡ some f

  first-at : (plus : ℕ → Bool) (e f : End) → port_past plus (joined r e) ≡ some f → First plus 0 e f
  unfolding left_by
  first-at plus e f h = go (joined r e) refl h
    where
      out : (n : PointNo) (l : Leg) (o : Option Leg) → joined r e ≡ With (Port n l) → through l (plus n.0) ≡ o
          → port_out n o ≡ some f → First plus 0 e f
      out n l none j t q = some-none q refl
      out n l (some m) j t q = record { point = n; enters = l; leaves = m; there = j; passed = t; on = q }

      go : (j : Joined) → joined r e ≡ j → port_past plus j ≡ some f → First plus 0 e f
      go Nothing j q = some-none q refl
      go (With (Section n s)) j q = some-none q refl
      go (With (Port n l)) j q = out n l (through l (plus n.0)) j refl q

  before_last : (plus : ℕ → Bool) (o : Option End) (f : End) → onward r plus o ≡ some f → (g : End) × (o ≡ some g)
      × (port_past plus (joined r g) ≡ some f)
  before_last plus none f h = some-none h refl
  before_last plus (some g) f h = (g, refl, h)

  first-of : (plus : ℕ → Bool) (k : ℕ) (e f : End) → left_by r plus (suc k) e ≡ some f → First plus k e f
  unfolding left_by
  first-of plus zero e f h = first-at plus e f h
  first-of plus (suc k) e f h =
      let a = before_last plus (left_by r plus (suc k) e) f h in
      let b = first-of plus k e a.0 a.1 in
      record {
        point = b.point;
        enters = b.enters;
        leaves = b.leaves;
        there = b.there;
        passed = b.passed;
        on = rw b.on a.2;
      }

  -- a walk by one point more
  longer-by : (plus : ℕ → Bool) (k : ℕ) (e : End) (n : PointNo) (l m : Leg) → joined r e ≡ With (Port n l) → through l
      (plus n.0) ≡ some m → longer r k (joined r (Port n m)) ≡ true → longer r (suc k) (joined r e) ≡ true
  unfolding longer
  longer-by plus k e n l m j t h = rw j (over l (plus n.0) t)
    where
      over : (l : Leg) (b : Bool) → through l b ≡ some m → longer_over r (λ i. longer r k i) n l ≡ true
      over Stem true t =
          let z : Plus ≡ m = some_one t in
          or_left (longer r k (joined r (Port n Plus))) (longer r k (joined r (Port n Minus))) (rw z h)
      over Stem false t =
          let z : Minus ≡ m = some_one t in
          or_right (longer r k (joined r (Port n Plus))) (longer r k (joined r (Port n Minus))) (rw z h)
      over Plus true t = let z : Stem ≡ m = some_one t in rw z h
      over Plus false t = some-none t refl
      over Minus true t = some-none t refl
      over Minus false t = let z : Stem ≡ m = some_one t in rw z h

  longer-at : (e : End) (n : PointNo) (l : Leg) → joined r e ≡ With (Port n l) → longer r 0 (joined r e) ≡ true
  unfolding longer
  longer-at e n l j = rw j

  -- so what is left over more points is a walk over as many
  left-longer : (plus : ℕ → Bool) (k d : ℕ) (e f : End) → k ≤ d → left_by r plus (suc d) e ≡ some f
      → longer r k (joined r e) ≡ true
  left-longer plus zero d e f b h = let a = first-of plus d e f h in longer-at e a.point a.enters a.there
  left-longer plus (suc k) zero e f b h = absurd (omega arith)
  left-longer plus (suc k) (suc d) e f b h =
      let a = first-of plus (suc d) e f h in
      longer-by plus k e a.point a.enters a.leaves a.there a.passed
      (left-longer plus k d (Port a.point a.leaves) f (omega arith) a.on)

  -- and a round as long a walk as one likes
  module _ (plus : ℕ → Bool) (p : End) (further : ℕ) (round : left_by r plus (suc further) p ≡ some p) where
    not_there : (d : ℕ) (e : End) → left_by r plus d e ≡ some p → (c : ℕ) × (left_by r plus (suc c) e ≡ some p)
    unfolding left_by
    not_there zero e h = let z : e ≡ p = some_one h in (further, rw z round)
    not_there (suc d) e h = (d, h)

    round-longer : (k d : ℕ) (e : End) → left_by r plus d e ≡ some p → longer r k (joined r e) ≡ true
    round-longer zero d e h =
        let c = not_there d e h in
        let a = first-of plus c.0 e p c.1 in
        longer-at e a.point a.enters a.there
    round-longer (suc k) d e h =
        let c = not_there d e h in
        let a = first-of plus c.0 e p c.1 in
        longer-by plus k e a.point a.enters a.leaves a.there a.passed
        (round-longer k c.0 (Port a.point a.leaves) a.on)

  way-row : LongWay r → chain_row r ≡ true
  way-row x = go x.points x.many x.over
    where
      go : (d : ℕ) → most_met < d
          → left_by r x.plus d (Section x.start x.side) ≡ some x.last → chain_row r ≡ true
      go zero b h = absurd (omega arith)
      go (suc zero) b h = absurd (omega arith)
      go (suc (suc d)) b h =
          let a = first-of x.plus (suc d) (Section x.start x.side) x.last h in
          port-row r a.point.0 a.leaves
          (port-there r w (Section x.start x.side) a.point a.enters a.there)
          (left-longer x.plus most_behind d (Port a.point a.leaves) x.last (omega arith) a.on)

  pub round-row : Round r → chain_row r ≡ true
  unfolding left_by
  round-row x =
      let p = Port x.point x.leg in
      let a = first-of x.plus x.further p p x.again in
      port-row r x.point.0 x.leg
      (ltb-true x.point.0 r.points (laid-known r w p (Port a.point a.enters) a.there).0)
      (round-longer x.plus p x.further x.again most_behind 0 p refl)

  pub exactly : (chain_row r ≡ true) ↔ (LongWay r ⊎ Round r)
  exactly = (way-or-round, λ x. elim x [ inl a ↦ way-row a | inr a ↦ round-row a ])

-- ROW 13, EXACTLY
pub chain-exactly : ChainExactly
chain-exactly r h = exactly r (laid-facts r h)

-- PASSAGES. No more points are met than are allowed
module _ (r : Railway) (plus : ℕ → Bool) where
  met-few : (k : ℕ) (j : Joined) → length (follow r plus k j).met ≤ k
  unfolding follow
  met-few zero Nothing = omega arith
  met-few zero (With (Section n s)) = omega arith
  met-few zero (With (Port n l)) = omega arith
  met-few (suc k) Nothing = omega arith
  met-few (suc k) (With (Section n s)) = omega arith
  met-few (suc k) (With (Port n l)) = over (through l (plus n.0)) (λ j. met-few k j)
    where
      over : (o : Option Leg) → ((j : Joined) → length (follow r plus k j).met ≤ k)
          → length (past_point r (λ i. follow r plus k i) n o).met ≤ suc k
      over none h = omega arith
      over (some m) h = omega (arith, h (joined r (Port n m)))

  -- where no more than k can be met, k allowed are enough
  short-over : (k : ℕ) (n : PointNo) (l m : Leg) (b : Bool) → longer_over r (λ i. longer r k i) n l ≡ false
      → through l b ≡ some m → longer r k (joined r (Port n m)) ≡ false
  short-over k n Stem m true h t =
      let z : Plus ≡ m = some_one t in
      rw z at (or-false (longer r k (joined r (Port n Plus))) (longer r k (joined r (Port n Minus))) h).0
  short-over k n Stem m false h t =
      let z : Minus ≡ m = some_one t in
      rw z at (or-false (longer r k (joined r (Port n Plus))) (longer r k (joined r (Port n Minus))) h).1
  short-over k n Plus m true h t = let z : Stem ≡ m = some_one t in rw z at h
  short-over k n Plus m false h t = some-none t refl
  short-over k n Minus m true h t = some-none t refl
  short-over k n Minus m false h t = let z : Stem ≡ m = some_one t in rw z at h

  not-cut : (k more : ℕ) (j : Joined) → longer r k j ≡ false → k ≤ more → follow r plus more j ≡ follow r plus k j
  unfolding follow longer
  not-cut zero zero j h b = refl
  not-cut zero (suc more) Nothing h b = refl
  not-cut zero (suc more) (With (Section n s)) h b = refl
  not-cut zero (suc more) (With (Port n l)) h b = clash refl h
  not-cut (suc k) zero j h b = absurd (omega arith)
  not-cut (suc k) (suc more) Nothing h b = refl
  not-cut (suc k) (suc more) (With (Section n s)) h b = refl
  not-cut (suc k) (suc more) (With (Port n l)) h b =
      over (through l (plus n.0)) refl (λ j q. not-cut k more j q (omega arith))
    where
      over : (o : Option Leg) → through l (plus n.0) ≡ o
          → ((j : Joined) → longer r k j ≡ false → follow r plus more j ≡ follow r plus k j)
          → past_point r (λ i. follow r plus more i) n o ≡ past_point r (λ i. follow r plus k i) n o
      over none t same = refl
      over (some m) t same = rw (same (joined r (Port n m)) (short-over k n l m (plus n.0) h t))

-- a passage that meets each point once, and none of these
abbrev Fresh : List ℕ → Passage → Type 0
Fresh ms p = Once p.met × Every (λ x. any (eqb x) ms ≡ false) p.met

module _ (r : Railway) (w : Accepted r) where
  no_row : chain_row r ≡ false
  no_row = not-true (chain_row r) (λ h. let a = row-port r h in clash a.3 (w.chain-free a.0 a.1 a.2))

  -- of an accepted record no end leads over more than four
  leads-few : (e : End) → longer r most_met (joined r e) ≡ false
  unfolding longer
  leads-few e = go (joined r e) refl
    where
      over : (n : PointNo) (l : Leg) → n.0 < r.points → longer_over r (λ i. longer r most_behind i) n l ≡ false
      over n Stem h = or-none (long-at r n.0 Plus) (long-at r n.0 Minus) (w.chain-free n.0 Plus h)
          (w.chain-free n.0 Minus h)
      over n Plus h = w.chain-free n.0 Stem h
      over n Minus h = w.chain-free n.0 Stem h

      go : (j : Joined) → joined r e ≡ j → longer r most_met j ≡ false
      go Nothing j = refl
      go (With (Section n s)) j = refl
      go (With (Port n l)) j = over n l (port-there r (laid r w) e n l j)

  -- nor over one twice: behind a run, none of its points is met
  met-once : (plus : ℕ → Bool) (e : End) (k : ℕ) (ms : List ℕ) (f : End) → Run r plus e ms f → Once ms
      → Fresh ms (follow r plus k (joined r f))
  unfolding follow any repeats
  met-once plus e zero ms f c o = go (joined r f)
    where
      go : (j : Joined) → Fresh ms (follow r plus 0 j)
      go Nothing = (refl, λ x i. elim i [ ])
      go (With (Section n s)) = (refl, λ x i. elim i [ ])
      go (With (Port n l)) = (refl, λ x i. elim i [ ])
  met-once plus e (suc k) ms f c o = go (joined r f) refl (λ n m d q. met-once plus e k (n.0 ∷ ms) (Port n m) d q)
    where
      new : (n : PointNo) (l : Leg) → joined r f ≡ With (Port n l) → any (eqb n.0) ms ≡ false
      new n l j = not-true (any (eqb n.0) ms)
          (λ h. clash (round-row r (laid r w) (met-again r (laid r w) plus e ms f c o n l j h)) no_row)

      over : (n : PointNo) (l : Leg) (t : Option Leg) → joined r f ≡ With (Port n l) → through l (plus n.0) ≡ t
          → ((n : PointNo) (m : Leg) → Run r plus e (n.0 ∷ ms) (Port n m) → Once (n.0 ∷ ms) → Fresh (n.0 ∷ ms)
          (follow r plus k (joined r (Port n m)))) → Fresh ms (past_point r (λ i. follow r plus k i) n t)
      over n l none j t on = (
        refl,
        every_more (λ x. any (eqb x) ms ≡ false) n.0 [] (new n l j) (every-none (λ x. any (eqb x) ms ≡ false)),
      )
      over n l (some m) j t on =
          let a = new n l j in
          let b = on n m (pass ms f n l m c j t) (once_more n.0 ms a o) in
          let p = (follow r plus k (joined r (Port n m))).met in (
            repeats-none eqb n.0 p (λ y i. ne_eqb n.0 y
                (λ z. clash (eq-eqb y n.0 (sym z)) (or-false (eqb y n.0) (any (eqb y) ms) (b.1 y i)).0)) b.0,
            every_more (λ x. any (eqb x) ms ≡ false) n.0 p a
                (λ x i. (or-false (eqb x n.0) (any (eqb x) ms) (b.1 x i)).1),
          )

      go : (j : Joined) → joined r f ≡ j → ((n : PointNo) (m : Leg) → Run r plus e (n.0 ∷ ms) (Port n m) → Once
          (n.0 ∷ ms) → Fresh (n.0 ∷ ms) (follow r plus k (joined r (Port n m)))) → Fresh ms (follow r plus (suc k) j)
      go Nothing j on = (refl, λ x i. elim i [ ])
      go (With (Section n s)) j on = (refl, λ x i. elim i [ ])
      go (With (Port n l)) j on = over n l (through l (plus n.0)) j refl on

-- EVERY ACCEPTED RECORD
pub accepted-unbroken : AcceptedUnbroken
unfolding passes repeats
accepted-unbroken r a =
    let w = accepted-facts r a in
    record {
      few = λ plus e k. elim (lt? k most_met) [
        | inl c ↦ omega (arith, met-few r plus k (joined r e))
        | inr c ↦ let z : follow r plus k (joined r e)
            ≡ follow r plus most_met (joined r e) = not-cut r plus most_met k (joined r e) (leads-few r w e) c in
            rw z (met-few r plus most_met (joined r e))
      ];
      once = λ plus e. (met-once r w plus e most_met [] e start refl).0;
      whole = λ plus e k h. not-cut r plus most_met k (joined r e) (leads-few r w e) h;
    }
