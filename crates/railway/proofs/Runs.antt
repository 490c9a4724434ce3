-- Runs of a train over points that lie as they are set, in a record to which rows 3 to 6 do not apply. A run keeps its
-- direction, for joins tie side to side and a point is left on the other side than it is entered; so a point that is
-- met again is entered on the same side, and can be set so that the run comes round. Points met for the first time can
-- be set as one likes. As there are few points, a run that does not come round can be led on to a section; and it can
-- be turned, for joins are returned and a point that is passed is passed back. Assumes nothing.
use mathlib.Core.Path.{◌≡◌, refl, sym, ◌∙◌, ap}
use mathlib.Core.Logic.{◌⊎◌, inl, inr}
use mathlib.Core.Bool.{Bool, true, false, cond}
use mathlib.Core.List.Memᴰ
use mathlib.Core.List.{List, [], ◌∷◌, ◌++◌, Memᴰ}
use mathlib.Core.Option.{some}
use Prim.Native.Nat.{ℕ, zero, suc, ◌+◌, ◌≤◌, ◌<◌}
use native.Mathlib.Omega.{arith}
use lib.Dec.{eqb}
use lib.ListN.{length, length-append}
use borrow.Author.Tests.{ltb-true, eqb-true, eq-eqb, ne_eqb}
use Rattle.laws.specs.Below.{count_below}
use Rattle.laws.specs.Lists.{any, repeats, Every}
use Rattle.laws.proofs.Bools.{bool?, lt?, clash, some-none, some_one, or_right}
use Rattle.laws.proofs.Lists.{any_false, any_none, any-true, any_found, every-none, every_more, repeats-head}
use Rattle.laws.proofs.Lists.{repeats-none, repeats-append}
use Rattle.railway.specs.declared.Side.{Side}
use Rattle.railway.specs.declared.Side.TheVariants.{Up, Down}
use Rattle.railway.specs.declared.Leg.{Leg}
use Rattle.railway.specs.declared.Leg.TheVariants.{Stem, Plus, Minus}
use Rattle.railway.specs.declared.SectionNo.{SectionNo}
use Rattle.railway.specs.declared.PointNo.{PointNo}
use Rattle.railway.specs.declared.End.{End}
use Rattle.railway.specs.declared.End.TheVariants.{Section, Port}
use Rattle.railway.specs.Joined.{Joined, Nothing, With}
use Rattle.railway.specs.declared.Railway.{Railway}
use Rattle.railway.specs.Bounds.{most_points}
use Rattle.railway.specs.Ends.{opposite, same_side, port_side}
use Rattle.railway.specs.Record.{joined, legs_of, side_of}
use Rattle.railway.specs.Passing.{through}
use Rattle.railway.specs.Chains.{left_by, Round}
use Rattle.railway.proofs.Rows.{Laid, laid-known, laid-right, laid-back}

-- (PassingExamples is named so that it is checked before: a wrong definition then shows at a computed value.)

-- SIDES
pub other-side : (a b : Side) → same_side a b ≡ false → b ≡ opposite a
other-side Up Up e = clash refl e
other-side Up Down e = refl
other-side Down Up e = refl
other-side Down Down e = clash refl e

pub twice : (a : Side) → opposite (opposite a) ≡ a
twice Up = refl
twice Down = refl

not-other : {A : Type 0} (a : Side) → a ≡ opposite a → A
not-other Up e = let z : ◌≡◌ {A = ℕ} 0 1 = cc in absurd (omega arith)
not-other Down e = let z : ◌≡◌ {A = ℕ} 0 1 = cc in absurd (omega arith)

-- A POINT that is passed is passed back, and is left on the other side than it is entered
pub through-back : (l m : Leg) (b : Bool) → through l b ≡ some m → through m b ≡ some l
through-back Stem m true e = let z : m ≡ Plus = sym (some_one e) in rw z
through-back Stem m false e = let z : m ≡ Minus = sym (some_one e) in rw z
through-back Plus m true e = let z : m ≡ Stem = sym (some_one e) in rw z
through-back Plus m false e = some-none e refl
through-back Minus m true e = some-none e refl
through-back Minus m false e = let z : m ≡ Stem = sym (some_one e) in rw z

pub through-sides : (legs : Side) (l m : Leg) (b : Bool) → through l b ≡ some m
    → port_side legs m ≡ opposite (port_side legs l)
through-sides legs Stem m true e = let z : m ≡ Plus = sym (some_one e) in rw z (sym (twice legs))
through-sides legs Stem m false e = let z : m ≡ Minus = sym (some_one e) in rw z (sym (twice legs))
through-sides legs Plus m true e = let z : m ≡ Stem = sym (some_one e) in rw z
through-sides legs Plus m false e = some-none e refl
through-sides legs Minus m true e = some-none e refl
through-sides legs Minus m false e = let z : m ≡ Stem = sym (some_one e) in rw z

-- a way over a point from one side to the other: it can be set so
pub record Open (l m : Leg) : Type 0 where
  pub set : Bool
  pub out : through l set ≡ some m

across : (legs : Side) (l m : Leg) → port_side legs l ≡ opposite (port_side legs m) → Open l m
across legs Stem Stem s = not-other (opposite legs) s
across legs Stem Plus s = record { set = true; out = refl }
across legs Stem Minus s = record { set = false; out = refl }
across legs Plus Stem s = record { set = true; out = refl }
across legs Minus Stem s = record { set = false; out = refl }
across legs Plus Plus s = not-other legs s
across legs Plus Minus s = not-other legs s
across legs Minus Plus s = not-other legs s
across legs Minus Minus s = not-other legs s

-- wherever a point is entered, some port is on the other side
abbrev pub beyond : Leg → Leg
beyond Stem = Plus
beyond Plus = Stem
beyond Minus = Stem

pub passed_on : (l : Leg) → Open l (beyond l)
passed_on Stem = record { set = true; out = refl }
passed_on Plus = record { set = true; out = refl }
passed_on Minus = record { set = false; out = refl }

-- SETTINGS. Points as they lie, but for one
abbrev pub but_at : (ℕ → Bool) → ℕ → Bool → ℕ → Bool
but_at plus n b m = cond (eqb m n) b (plus m)

but-there : (plus : ℕ → Bool) (n : ℕ) (b : Bool) → but_at plus n b n ≡ b
but-there plus n b = rw (eq-eqb n n refl)

but-elsewhere : (plus : ℕ → Bool) (n m : ℕ) (b : Bool) → (m ≡ n → ⊥) → but_at plus n b m ≡ plus m
but-elsewhere plus n m b h = rw (ne_eqb m n h)

-- RUNS
module _ (r : Railway) (plus : ℕ → Bool) (e : End) where
  -- leaving by an end, over these points, the last first, and leaving that by an end
  pub data Run : List ℕ → End → Type 0 where
    start : Run [] e
    pass : (ms : List ℕ) (f : End) (n : PointNo) (l m : Leg) → Run ms f → joined r f ≡ With (Port n l)
        → through l (plus n.0) ≡ some m → Run (n.0 ∷ ms) (Port n m)

-- only the points met matter
pub run-same : (r : Railway) (plus new : ℕ → Bool) (e : End) (ms : List ℕ) (f : End) → Every (λ n. new n ≡ plus n) ms
    → Run r plus e ms f → Run r new e ms f
run-same r plus new e ms f h start = start
run-same r plus new e ms f h (pass ms₁ f₁ n l m c j t) =
    pass ms₁ f₁ n l m (run-same r plus new e ms₁ f₁ (λ x i. h x (Memᴰ.tail i)) c) j
    (rw (h n.0 (Memᴰ.head refl)) t)

-- a run by the number of its points
pub run-left : (r : Railway) (plus : ℕ → Bool) (e : End) (ms : List ℕ) (f : End) → Run r plus e ms f
    → left_by r plus (length ms) e ≡ some f
unfolding left_by
run-left r plus e ms f start = refl
run-left r plus e ms f (pass ms₁ f₁ n l m c j t) = rw (run-left r plus e ms₁ f₁ c, j, t)

-- one point more before all others
first-passed : (r : Railway) (plus : ℕ → Bool) (g : End) (n : PointNo) (l m : Leg) → joined r g ≡ With (Port n l)
    → through l (plus n.0) ≡ some m → (ms : List ℕ) (f : End) → Run r plus (Port n m) ms f
    → Run r plus g (ms ++ (n.0 ∷ [])) f
first-passed r plus g n l m j t ms f start = pass [] g n l m start j t
first-passed r plus g n l m j t ms f (pass ms₁ f₁ n₁ l₁ m₁ c j₁ t₁) =
    pass (ms₁ ++ (n.0 ∷ [])) f₁ n₁ l₁ m₁ (first-passed r plus g n l m j t ms₁ f₁ c) j₁ t₁

-- no point twice
abbrev pub Once : List ℕ → Type 0
Once ms = repeats eqb ms ≡ false

pub once_more : (n : ℕ) (ms : List ℕ) → any (eqb n) ms ≡ false → Once ms → Once (n ∷ ms)
once_more n ms a o = repeats-none eqb n ms (λ y i. any_false (eqb n) ms y a i) o

-- FEW POINTS: of numbers below a bound, no more are different than the bound says
count-mono : (f g : ℕ → Bool) (k : ℕ) → ((x : ℕ) → f x ≡ true → g x ≡ true) → count_below f k ≤ count_below g k
unfolding count_below
count-mono f g zero h = omega arith
count-mono f g (suc k) h = elim (bool? (f k)) [
  | inl a ↦ rw (a, h k a) (omega (arith, count-mono f g k h))
  | inr a ↦ rw a (omega (arith, count-mono f g k h))
]

count-more : (f g : ℕ → Bool) (k y : ℕ) → ((x : ℕ) → f x ≡ true → g x ≡ true) → y < k → f y ≡ false → g y ≡ true
    → suc (count_below f k) ≤ count_below g k
unfolding count_below
count-more f g zero y h l a b = absurd (omega arith)
count-more f g (suc k) y h l a b = elim (lt? y k) [
  | inl m ↦ elim (bool? (f k)) [
    | inl z ↦ rw (z, h k z) (omega (arith, count-more f g k y h m a b))
    | inr z ↦ rw z (omega (arith, count-more f g k y h m a b))
  ]
  | inr m ↦ let z : y ≡ k = omega arith in rw (← z) (rw (a, b) (rw z (omega (arith, count-mono f g k h))))
]

count-all : (f : ℕ → Bool) (k : ℕ) → count_below f k ≤ k
unfolding count_below
count-all f zero = omega arith
count-all f (suc k) =
    elim (bool? (f k)) [ inl a ↦ rw a (omega (arith, count-all f k)) | inr a ↦ rw a (omega (arith, count-all f k)) ]

abbrev is_in : List ℕ → ℕ → Bool
is_in ms x = any (eqb x) ms

few-different : (ms : List ℕ) (k : ℕ) → Every (λ n. n < k) ms → Once ms → length ms ≤ k
unfolding any
few-different ms k h o = omega (arith, counted ms h o, count-all (is_in ms) k)
  where
    counted : (ms : List ℕ) → Every (λ n. n < k) ms → Once ms → length ms ≤ count_below (is_in ms) k
    counted [] h o = omega arith
    counted (x ∷ ms) h o =
        let a = repeats-head eqb x ms o in
        omega (
          arith,
          counted ms (λ y i. h y (Memᴰ.tail i)) a.1,
          count-more (is_in ms) (is_in (x ∷ ms)) k x (λ y t. or_right (eqb y x) (any (eqb y) ms) t)
              (h x (Memᴰ.head refl)) (any_none (eqb x) ms a.0)
              (any-true (eqb x) (x ∷ ms) x (Memᴰ.head refl) (eq-eqb x x refl)),
        )

module _ (r : Railway) (w : Laid r) where
  -- THE DIRECTION: a run leaves all its points on one side
  pub run-sides : (plus : ℕ → Bool) (e : End) (ms : List ℕ) (f : End) → Run r plus e ms f → side_of r f ≡ side_of r e
  run-sides plus e ms f start = refl
  run-sides plus e ms f (pass ms₁ f₁ n l m c j t) =
      let x : side_of r (Port n l) ≡ opposite (side_of r f₁) =
      other-side (side_of r f₁) (side_of r (Port n l)) (laid-right r w f₁ (Port n l) j).sides in
      let y : side_of r (Port n m) ≡ opposite (side_of r (Port n l)) =
      through-sides (legs_of r n.0) l m (plus n.0) t in
      y ∙ ap opposite x ∙ twice (side_of r f₁) ∙ run-sides plus e ms₁ f₁ c

  -- THE POINTS of a run are there
  pub port-there : (f : End) (n : PointNo) (l : Leg) → joined r f ≡ With (Port n l) → n.0 < r.points
  port-there f n l j = ltb-true n.0 r.points (laid-known r w f (Port n l) j).1

  run-there : (plus : ℕ → Bool) (e : End) (ms : List ℕ) (f : End) → Run r plus e ms f → Every (λ n. n < r.points) ms
  run-there plus e ms f start = every-none (λ n. n < r.points)
  run-there plus e ms f (pass ms₁ f₁ n l m c j t) =
      every_more (λ n. n < r.points) n.0 ms₁ (port-there f₁ n l j) (run-there plus e ms₁ f₁ c)

  run_short : (plus : ℕ → Bool) (e : End) (ms : List ℕ) (f : End) → Run r plus e ms f → Once ms → length ms ≤ most_points
  run_short plus e ms f c o =
      omega (arith, few-different ms r.points (run-there plus e ms f c) o, w.bounds.few-points)

  -- A POINT MET AGAIN. The run behind it, in which it is not met
  record Behind (plus : ℕ → Bool) (x : ℕ) (f : End) : Type 0 where
    point : PointNo
    is : point.0 ≡ x
    leg : Leg
    others : List ℕ
    not-among : (y : ℕ) → Memᴰ y others → y ≡ x → ⊥
    run : Run r plus (Port point leg) others f

  behind : (plus : ℕ → Bool) (e : End) (ms : List ℕ) (f : End) (x : ℕ) → Run r plus e ms f → Once ms
      → Memᴰ x ms → Behind plus x f
  behind plus e ms f x start o i = elim i [ ]
  behind plus e ms f x (pass ms₁ f₁ n l m c j t) o (Memᴰ.head z) =
      record { point = n; is = sym z; leg = m; others = []; not-among = λ y i. elim i [ ]; run = start }
  behind plus e ms f x (pass ms₁ f₁ n l m c j t) o (Memᴰ.tail i) =
      let a = repeats-head eqb n.0 ms₁ o in
      let b = behind plus e ms₁ f₁ x c a.1 i in
      record {
        point = b.point;
        is = b.is;
        leg = b.leg;
        others = n.0 ∷ b.others;
        not-among =
            every_more (λ y. y ≡ x → ⊥) n.0 b.others (λ z. clash (eq-eqb n.0 x z) (a.0 x i)) b.not-among;
        run = pass b.others f₁ n l m b.run j t;
      }

  -- so it comes round
  comes-round : (plus : ℕ → Bool) (f : End) (n : PointNo) (l : Leg) → joined r f ≡ With (Port n l)
      → Behind plus n.0 f → Round r
  unfolding left_by
  comes-round plus f n l j b =
      let p = b.point in
      let s : side_of r (Port n l) ≡ opposite (side_of r f) =
      other-side (side_of r f) (side_of r (Port n l)) (laid-right r w f (Port n l) j).sides in
      let q : side_of r f ≡ port_side (legs_of r p.0) b.leg =
      run-sides plus (Port p b.leg) b.others f b.run in
      let d : port_side (legs_of r p.0) l ≡ opposite (port_side (legs_of r p.0) b.leg) =
      rw b.is (s ∙ ap opposite (q ∙ ap (λ (x : ℕ). port_side (legs_of r x) b.leg) b.is)) in
      let o = across (legs_of r p.0) l b.leg d in
      let new = but_at plus n.0 o.set in
      let c = run-same r plus new (Port p b.leg) b.others f
      (λ y i. but-elsewhere plus n.0 y o.set (b.not-among y i)) b.run in
      let a : left_by r new (length b.others) (Port p b.leg) ≡ some f =
      run-left r new (Port p b.leg) b.others f c in
      let t : through l (new n.0) ≡ some b.leg = rw (but-there plus n.0 o.set) o.out in
      let z : n ≡ p = sym (ap (λ (x : ℕ). record { 0 = x }) b.is) in
      record { plus = new; point = p; leg = b.leg; further = length b.others; again = rw (a, j, t, z) }

  pub met-again : (plus : ℕ → Bool) (e : End) (ms : List ℕ) (f : End) → Run r plus e ms f → Once ms
      → (n : PointNo) (l : Leg) → joined r f ≡ With (Port n l) → any (eqb n.0) ms ≡ true → Round r
  met-again plus e ms f c o n l j h =
      let a = any_found (eqb n.0) ms h in
      let z : n.0 ≡ a.element = eqb-true n.0 a.element a.passes in
      comes-round plus f n l j (behind plus e ms f n.0 c o (rw z a.member))

  -- ONE POINT MORE, passed as one likes; or the run comes round
  pub record Led (e f : End) (many : ℕ) : Type 0 where
    pub plus : ℕ → Bool
    pub points : List ℕ
    pub run : Run r plus e points f
    pub once : Once points
    pub so-many : many ≤ length points

  pub led_on : (e f : End) (k : ℕ) → Led e f k → (n : PointNo) (l m : Leg) → joined r f ≡ With (Port n l) → Open l m
      → Led e (Port n m) (suc k) ⊎ Round r
  led_on e f k d n l m j o = elim (bool? (any (eqb n.0) d.points)) [
    | inl h ↦ inr (met-again d.plus e d.points f d.run d.once n l j h)
    | inr h ↦
        (let new = but_at d.plus n.0 o.set in
        let c =
        run-same r d.plus new e d.points f
        (λ y i. but-elsewhere d.plus n.0 y o.set
        (λ z. clash (eq-eqb n.0 y (sym z)) (any_false (eqb n.0) d.points y h i))) d.run in
        inl (record {
          plus = new;
          points = n.0 ∷ d.points;
          run = pass d.points f n l m c j (rw (but-there d.plus n.0 o.set) o.out);
          once = once_more n.0 d.points h d.once;
          so-many = omega (arith, d.so-many);
        }))
  ]

  -- TO A SECTION: led on from point to point, for there are few
  pub record Ended (e : End) (many : ℕ) : Type 0 where
    pub last : End
    pub led : Led e last many
    pub section : SectionNo
    pub side : Side
    pub comes : joined r last ≡ With (Section section side)

  fewer : (e : End) (j k : ℕ) → j ≤ k → Ended e k → Ended e j
  fewer e j k h d =
      let c = d.led in
      record {
        last = d.last;
        led = record {
          plus = c.plus;
          points = c.points;
          run = c.run;
          once = c.once;
          so-many = omega (arith, c.so-many);
        };
        section = d.section;
        side = d.side;
        comes = d.comes;
      }

  pub led-out : (fuel k : ℕ) (e : End) (n : PointNo) (m : Leg) → n.0 < r.points → Led e (Port n m) k
      → most_points < fuel + k → Ended e k ⊎ Round r
  led-out zero k e n m h d b =
      absurd (omega (arith, run_short d.plus e d.points (Port n m) d.run d.once, d.so-many))
  led-out (suc fuel) k e n m h d b =
      go (joined r (Port n m)) refl (λ p l q c. led-out fuel (suc k) e p l q c (omega arith))
    where
      go : (j : Joined) → joined r (Port n m) ≡ j
          → ((p : PointNo) (l : Leg) → p.0 < r.points → Led e (Port p l) (suc k) → Ended e (suc k) ⊎ Round r)
          → Ended e k ⊎ Round r
      go Nothing j on = absurd (w.port-joined n.0 m h j)
      go (With (Section s side)) j on = inl (record { last = Port n m; led = d; section = s; side = side; comes = j })
      go (With (Port p l)) j on = elim (led_on e (Port n m) k d p l (beyond l) j (passed_on l)) [
        | inl c ↦ elim (on p (beyond l) (port-there (Port n m) p l j) c) [
          | inl x ↦
              inl (fewer e k (suc k) (omega arith) x)
          | inr x ↦ inr x
        ]
        | inr x ↦ inr x
      ]

  -- TURNED: from where it comes to, over the same points, to where it came from
  record Turned (plus : ℕ → Bool) (e : End) (ms : List ℕ) (g : End) : Type 0 where
    last : End
    points : List ℕ
    run : Run r plus g points last
    back : joined r last ≡ With e
    among : (x : ℕ) → Memᴰ x points → Memᴰ x ms
    as_many : length points ≡ length ms
    once : Once points

  turned : (plus : ℕ → Bool) (e : End) (ms : List ℕ) (f : End) → Run r plus e ms f → Once ms → (g : End)
      → joined r f ≡ With g → Turned plus e ms g
  unfolding any repeats
  turned plus e ms f start o g j =
      record {
        last = g;
        points = [];
        run = start;
        back = laid-back r w f g j;
        among = λ x i. i;
        as_many = refl;
        once = refl;
      }
  turned plus e ms f (pass ms₁ f₁ n l m c j₁ t) o g j =
      let a = repeats-head eqb n.0 ms₁ o in
      let b = turned plus e ms₁ f₁ c a.1 (Port n l) j₁ in
      record {
        last = b.last;
        points = b.points ++ (n.0 ∷ []);
        run = first-passed r plus g n m l (laid-back r w (Port n m) g j) (through-back l m (plus n.0) t)
            b.points b.last b.run;
        back = b.back;
        among = λ x i. elim (Memᴰ.append_cases b.points i) [
          | inl k ↦ Memᴰ.tail (b.among x k)
          | inr k ↦ in-front n.0 ms₁ x k
        ];
        as_many = (let z : length (b.points ++ (n.0 ∷ []))
            ≡ length b.points + 1 = length-append b.points (n.0 ∷ []) in omega (arith, b.as_many));
        once =
            repeats-append eqb b.points (n.0 ∷ []) b.once refl
            (λ x y i k.
            ne_eqb x y (λ z. clash (eq-eqb n.0 x (sym (z ∙ in_one n.0 y k))) (a.0 x (b.among x i))));
      }
    where
      in_one : (n y : ℕ) → Memᴰ y (n ∷ []) → y ≡ n
      in_one n y (Memᴰ.head z) = z
      in_one n y (Memᴰ.tail i) = elim i [ ]

      in-front : (n : ℕ) (ms : List ℕ) (x : ℕ) → Memᴰ x (n ∷ []) → Memᴰ x (n ∷ ms)
      in-front n ms x i = Memᴰ.head (in_one n x i)

  pub led-back : (e : End) (k : ℕ) (d : Ended e k) → (f : End) × Led (Section d.section d.side) f k
      × (joined r f ≡ With e)
  led-back e k d =
      let c = d.led in
      let g = Section d.section d.side in
      let t = turned c.plus e c.points d.last c.run c.once g d.comes in (
        t.last,
        record {
          plus = c.plus;
          points = t.points;
          run = t.run;
          once = t.once;
          so-many = omega (arith, c.so-many, t.as_many);
        },
        t.back,
      )
