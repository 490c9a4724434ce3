-- A try with some trains open, and the search over tries, are the tables' definitions. Where a train is free the try with no signal open
-- decides all; where none is, the tries with one open do, each by the ways of that train alone. Assumes nothing.
use mathlib.Core.Path.{◌≡◌, refl, sym, ◌∙◌, ap}
use mathlib.Core.Logic.{inl, inr}
use mathlib.Core.Bool.{Bool, true, false, cond, ◌&&◌, ◌||◌}
use mathlib.Core.Option.{Option, none, some}
use Prim.Native.Nat.{ℕ, zero, suc, ◌+◌, ◌*◌, ◌%◌, ◌^◌, ◌≤◌, ◌<◌}
use native.Mathlib.Omega.{arith}
use native.Mathlib.Numerals.{add-one}
use native.Mathlib.Nat.{pow-le-pow_right, mod-eq_of_lt}
use lib.Bits.{bit_and, and_zero_r}
use lib.Dec.{eqb}
use borrow.Author.Tests.{eqb-true, eq-eqb}
use Rattle.laws.specs.Below.{any_below, all_below}
use Rattle.laws.specs.Bits.{bit, from_bits}
use Rattle.laws.proofs.Bools.{bool?, option?, lt?, clash, some-none, and-true, and-off}
use Rattle.laws.proofs.Below.{all-at, any_same, any_at, any_of, any_false, none_any}
use Rattle.laws.proofs.Bits.{bits_of, bits_none, bit-none, bits-add, bits-same}
use Rattle.railway.specs.declared.Railway.{Railway}
use Rattle.game.specs.Claim.{Keeps}
use Rattle.game.specs.Placement.{shared}
use Rattle.game.specs.Setting.{Setting, held, free}
use Rattle.game.specs.Moves.{game_of}
use Rattle.game.proofs.Accepted.{Facts}
use Rattle.game_tables.specs.Entries.{setting_at, entry_from}
use Rattle.game_tables.specs.Tables.{point_bits}
use Rattle.game_tables.specs.Find.{try_open, first_found, find, moving, GoodMoves}
use Rattle.game_tables.proofs.Fewer.{keeps-closed, bits_small as closed-small}
use Rattle.game_tables.proofs.Find.{try-finds, find-sound}
use Rattle.game_tables.proofs.Moving.{try-least, try-none, nobody-moves}
use Rattle.railway_routes.proofs.Routes.{power-some}
use Rattle.solver_settings.specs.Answers.{first_keeping}
use Rattle.solver_settings.specs.Search.{no_bits, good_at, free_good, GoodBefore, Smallest, Goes, Seen, Placed, From}

-- NUMBERS. The bit of a train.
pub shifted : (u : ℕ) → u < 4 → (1 * 2 ^ u) % 4294967296 ≡ 2 ^ u
shifted u l = let e : 1 * 2 ^ u ≡ 2 ^ u = omega arith in rw e (mod-eq_of_lt (omega (arith, train-power u l)))
  where
    train-power : (u : ℕ) → u < 4 → 2 ^ u ≤ 8
    train-power u l = omega (arith, pow-le-pow_right {n = 2} (omega arith) {i = u} {j = 3} (omega arith))

pub shifted-small : (u : ℕ) → u < 4 → (1 * 2 ^ u) % 4294967296 ≤ 8
shifted-small u l = rw (shifted u l) (omega (arith, pow-le-pow_right {n = 2} (omega arith) {i = u} {j = 3} (omega arith)))

-- nothing is wanted at first
pub nothing_placed : (r : Railway) → Placed r 0 0
nothing_placed r = record { within = λ i e. clash e (bit-none i); small = power-some r.points }

module _ (r : Railway) (ok : Facts r) (p : ℕ) (apart : shared r p ≡ false) (F : ℕ → Option ℕ) (n : ℕ) where
  points-fit : 2 ^ r.points ≤ no_bits
  points-fit = pow-le-pow_right {n = 2} (omega arith) {i = r.points} {j = 16} ok.few-points

  closed-off : (f h : Bool) → (f || h && false) ≡ f
  closed-off true h = refl
  closed-off false true = refl
  closed-off false false = refl

  -- SOME TRAIN FREE: the try with no signal open decides
  module _ (some-free : any_below (free r p) r.trains ≡ true) where
    closed-decides : find r F p n ≡ try_open r F p n (λ t. false)
    unfolding find
    closed-decides = elim (option? (try_open r F p n (λ t. false))) [
      | inr x ↦ found x.0 x.1 ∙ sym x.1
      | inl e ↦ elim (option? (find r F p n)) [
        | inl g ↦ g ∙ sym e
        | inr x ↦
            let w = any_at (free r p) r.trains some-free in
            let o : Setting = setting_at r p x.0 in
            let kept : Keeps (game_of r) F p o n = find-sound r F p n x.0 x.1 in
            let c = try-finds r F p n (λ t. false) (point_bits r o) (closed-small r ok p F n o kept) (keeps-closed r ok p F n o kept w.0 w.1 w.2) in
            some-none c.1.found e
      ]
    ]
      where
        found : (v : ℕ) → try_open r F p n (λ t. false) ≡ some v → find r F p n ≡ some v
        found v e = rw e

    good-moves : (b : ℕ) → GoodBefore r F p n r.trains b → GoodMoves r F p n (λ t. false) (bit b)
    good-moves b g =
        record {
          some-moves = any_same (moving r p (λ t. false)) (free r p) r.trains (λ t l. closed-off (free r p t) (held r p t)) ∙ some-free;
          each-good = λ t l m. g t l (sym (closed-off (free r p t) (held r p t)) ∙ m);
        }

    moves-good : (b : ℕ) → GoodMoves r F p n (λ t. false) (bit b) → GoodBefore r F p n r.trains b
    moves-good b g t l f = g.each-good t l (closed-off (free r p t) (held r p t) ∙ f)

    closed-entry : (b : ℕ) → b < 2 ^ r.points → entry_from r (bit b) (λ t. false) ≡ b
    unfolding entry_from
    closed-entry b l = let z : 0 ≡ from_bits (λ t. false) r.trains = bits_none r.trains in rw (bits_of r.points b l, ← z) (omega arith)

    pub guided-found : (b : ℕ) → b < 2 ^ r.points → GoodBefore r F p n r.trains b → ((a : ℕ) → GoodBefore r F p n r.trains a → b ≤ a) → some b ≡ find r F p n
    guided-found b l g least =
        sym (closed-decides ∙ try-least r ok p apart (λ t. false) F n b l (good-moves b g) (λ a m k. least a (moves-good a k)) ∙ ap (λ (v : ℕ). some v) (closed-entry b l))

    pub guided-none : ((a : ℕ) → GoodBefore r F p n r.trains a → no_bits ≤ a) → none ≡ find r F p n
    guided-none h = sym (closed-decides ∙ try-none r ok p apart (λ t. false) F n (λ a l k. omega (arith, h a (moves-good a k), points-fit)))

    -- one of them without a good way
    pub no_way : (t w : ℕ) → t < r.trains → free r p t ≡ true → Smallest (Goes r F p n t) r.points no_bits w → no_bits ≤ w → none ≡ find r F p n
    no_way t w there f s l = guided-none (λ a g. elim (lt? a no_bits) [ inl m ↦ omega (arith, s.least a (g t there f) m) | inr m ↦ m ])

    -- what each wants by itself, where that decides
    module _ (count all most : ℕ) (s : Seen r F p n r.trains count all most) where
      pub settled-single : count ≡ 1 → some all ≡ find r F p n
      settled-single e = let x = s.single (omega arith) in guided-found all s.small x.1 (λ a g. omega (arith, x.0, s.bound a g))

      pub settled-zero : all ≡ 0 → some 0 ≡ find r F p n
      settled-zero e = guided-found 0 (omega (arith, s.small)) (s.zero e) (λ a g. omega arith)

      pub settled-union : (b : Bool) → b ≡ (eqb all most && all_below (free_good r F p n all) r.trains) → b ≡ true → some all ≡ find r F p n
      settled-union b is e =
          let x = and-true (eqb all most) (all_below (free_good r F p n all) r.trains) (sym is ∙ e) in
          guided-found all s.small (λ u l f. good u f (all-at (free_good r F p n all) r.trains x.1 u l)) (λ a g. omega (arith, eqb-true all most x.0, s.bound a g))
        where
          good : (u : ℕ) → free r p u ≡ true → free_good r F p n all u ≡ true → good_at r F p n all u ≡ true
          good u f g = rw f at g

    -- all trains together
    module _ (b : ℕ) (s : Smallest (From r F p n 0 0 0) r.points no_bits b) where
      least-of : (a : ℕ) → GoodBefore r F p n r.trains a → b ≤ a
      least-of a g = elim (lt? a no_bits) [
        | inl l ↦ s.least a (record { suited = eq-eqb (bit_and a 0) 0 (and_zero_r a); good = λ u x y z. g u y z }) l
        | inr l ↦ omega (arith, s.upto)
      ]

      pub together-found : b < no_bits → some b ≡ find r F p n
      together-found l = let m = s.made l in guided-found b m.1 (λ u k f. m.0.good u (omega arith) k f) least-of

      pub together-none : no_bits ≤ b → none ≡ find r F p n
      together-none l = guided-none (λ a g. omega (arith, least-of a g))

  -- NO TRAIN FREE: with no signal open nobody may move
  module _ (none_free : any_below (free r p) r.trains ≡ false) where
    pub closed_none : none ≡ try_open r F p n (λ t. false)
    closed_none = sym (nobody-moves r ok p apart (λ t. false) F n (any_same (moving r p (λ t. false)) (free r p) r.trains (λ t l. closed-off (free r p t) (held r p t)) ∙ none_free))

    -- who moves with train u open
    moves-only : (u t : ℕ) → t < r.trains → moving r p (eqb u) t ≡ (held r p t && eqb u t)
    moves-only u t l = rw (any_false (free r p) r.trains none_free t l)

    -- a parked train has nothing to open
    pub open-parked : (u : ℕ) → held r p u ≡ false → none ≡ try_open r F p n (eqb u)
    open-parked u h = sym (nobody-moves r ok p apart (eqb u) F n (none_any (moving r p (eqb u)) r.trains (λ t l. moves-only u t l ∙ nobody t)))
      where
        nobody : (t : ℕ) → (held r p t && eqb u t) ≡ false
        nobody t = elim (bool? (eqb u t)) [
          | inl z ↦ let e : u ≡ t = eqb-true u t z in rw (← e, h)
          | inr z ↦ rw z (and-off (held r p t))
        ]

    module _ (u : ℕ) (there : u < r.trains) (its : held r p u ≡ true) (b : ℕ) (s : Smallest (Goes r F p n u) r.points no_bits b) where
      u-moves : moving r p (eqb u) u ≡ true
      u-moves = moves-only u u there ∙ (rw its (eq-eqb u u refl))

      goes-moves : (a : ℕ) → good_at r F p n a u ≡ true → GoodMoves r F p n (eqb u) (bit a)
      goes-moves a g =
          record {
            some-moves = any_of (moving r p (eqb u)) r.trains u there u-moves;
            each-good = λ t l m. let same : u ≡ t = only t (sym (moves-only u t l) ∙ m) in rw same at g;
          }
        where
          only : (t : ℕ) → (held r p t && eqb u t) ≡ true → u ≡ t
          only t e = elim (bool? (eqb u t)) [ inl z ↦ eqb-true u t z | inr z ↦ clash (rw z at e) (and-off (held r p t)) ]

      moves-goes : (a : ℕ) → GoodMoves r F p n (eqb u) (bit a) → good_at r F p n a u ≡ true
      moves-goes a g = g.each-good u there u-moves

      one_bit : (u k : ℕ) → u < k → from_bits (eqb u) k ≡ 2 ^ u
      one_bit u k l =
          let z : 0 ≡ from_bits (λ x. false) k = bits_none k in
          bits-same (eqb u) (λ x. false || eqb u x) k (λ x m. refl) ∙ bits-add (λ x. false) k u l refl ∙ (rw (← z) (omega arith))

      open-entry : b < 2 ^ r.points → entry_from r (bit b) (eqb u) ≡ b + 65536 * 2 ^ u
      unfolding entry_from
      open-entry l = rw (bits_of r.points b l, one_bit u r.trains there)

      pub opened-found : (e : ℕ) → e ≡ b + 65536 * ((1 * 2 ^ u) % 4294967296) → u < 4 → b < no_bits → some e ≡ try_open r F p n (eqb u)
      opened-found e q m l =
          let k = s.made l in
          let entry : e ≡ entry_from r (bit b) (eqb u) = q ∙ (rw (shifted u m) (sym (open-entry k.1))) in
          sym (try-least r ok p apart (eqb u) F n b k.1 (goes-moves b k.0) (λ a x g. s.least a (moves-goes a g) (omega (arith, points-fit))) ∙ ap (λ (v : ℕ). some v) (sym entry))

      pub opened-none : no_bits ≤ b → none ≡ try_open r F p n (eqb u)
      opened-none l = sym (try-none r ok p apart (eqb u) F n (λ a x g. omega (arith, s.least a (moves-goes a g) (omega (arith, points-fit)), points-fit)))

-- THE FIRST TRY that finds something, among any tries in their order
first-here : (f : ℕ → Option ℕ) (k u v : ℕ) → u < k → first_found f u ≡ none → f u ≡ some v → first_found f k ≡ some v
unfolding first_found
first-here f zero u v l e h = absurd (omega arith)
first-here f (suc k) u v l e h = elim (lt? u k) [
  | inl m ↦ let z : first_found f k ≡ some v = first-here f k u v m e h in rw z
  | inr m ↦ let z : u ≡ k = omega arith in let a : first_found f k ≡ none = rw z at e in let b : f k ≡ some v = rw z at h in rw (a, b)
]

pub first_next : (f : ℕ → Option ℕ) (u : ℕ) → first_found f u ≡ none → none ≡ f u → first_found f (u + 1) ≡ none
unfolding first_found
first_next f u e h = rw (add-one u, e) (sym h)

module _ (r : Railway) (F : ℕ → Option ℕ) (p n k : ℕ) (is : k ≡ r.trains) (shut : none ≡ try_open r F p n (λ t. false)) where
  pub found-open : (u v : ℕ) → u < k → first_found (λ u. try_open r F p n (eqb u)) u ≡ none → some v ≡ try_open r F p n (eqb u) → some v ≡ find r F p n
  unfolding find
  found-open u v l e h = rw (sym shut) (sym (first-here (λ u. try_open r F p n (eqb u)) r.trains u v (rw is at l) e (sym h)))

  pub found_none : (u : ℕ) → u ≤ k → k ≤ u → first_found (λ u. try_open r F p n (eqb u)) u ≡ none → none ≡ find r F p n
  unfolding find
  found_none u l m e = let z : u ≡ r.trains = omega arith in let a : first_found (λ u. try_open r F p n (eqb u)) r.trains ≡ none = rw z at e in rw (sym shut, a)

-- THE FIRST KEEPING
module _ (r : Railway) (F : ℕ → Option ℕ) (p n : ℕ) (lost : Bool) (is : lost ≡ shared r p) where
  pub lost-none : lost ≡ true → none ≡ first_keeping r F p n
  unfolding first_keeping
  lost-none e = (let g : none ≡ cond lost none (find r F p n) = rw e in g) ∙ ap (λ (b : Bool). cond b none (find r F p n)) is

  pub found_first : lost ≡ false → (o : Option ℕ) → o ≡ find r F p n → o ≡ first_keeping r F p n
  unfolding first_keeping
  found_first e o h = let g : find r F p n ≡ cond lost none (find r F p n) = rw e in h ∙ g ∙ ap (λ (b : Bool). cond b none (find r F p n)) is
