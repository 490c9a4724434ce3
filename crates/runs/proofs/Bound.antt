-- RUNS AND FIGURES. A turn moves one train by one section at most, and costs 1 at least; so whoever stands somewhere after some turns has, train by train, a run from where it began, and
-- all of them together enter no more sections than the turns have cost. A play that comes home within a total has runs to the destinations, then, and no table's entry is larger. Assumes nothing.
use mathlib.Core.Path.{◌≡◌, refl, ◌∙◌, ap}
use mathlib.Core.Logic.{inl, inr}
use mathlib.Core.Bool.{Bool, true, false, cond, not}
use mathlib.Core.List.{List}
use mathlib.Core.Option.{Option, none, some}
use Prim.Native.Nat.{ℕ, zero, suc, ◌≤◌, ◌<◌}
use native.Mathlib.Omega.{arith}
use lib.ListN.{length, get_or}
use lib.Seq.{get_or-set_same, get_or-set_other}
use lib.Dec.{eqb}
use borrow.Author.Tests.{eqb-true, eq-eqb, ne_eqb}
use Rattle.laws.specs.Below.{sum_below, list_below}
use Rattle.laws.proofs.Bools.{bool?, eq?, clash, and-true}
use Rattle.laws.proofs.Below.{all-at, list_length, list_get}
use Rattle.railway.specs.declared.Side.{Side}
use Rattle.railway.specs.declared.Side.TheVariants.{Up, Down}
use Rattle.railway.specs.declared.Railway.{Railway}
use Rattle.railway.specs.Record.{train_of}
use Rattle.railway.specs.Passing.{entered}
use Rattle.game.specs.Game.{Outcome, lost, at, collision, Turn, Strategy, Adversary, Position, lost_by_move, standing, mover}
use Rattle.game.specs.Game.{over, grown, stand_after, turn, step, play, spent, spent_at, home_at, HomeWithin, Forced}
use Rattle.game.specs.Game.{IsFigure}
use Rattle.game.specs.Placement.{code_of, sections_in, sections_of, stands_on, arrived, at_home, shared, start_code}
use Rattle.game.specs.Setting.{Setting, heads_for}
use Rattle.game.specs.Moves.{occupied, code_with, enters, move_of, game_of}
use Rattle.game.proofs.Accepted.{Facts}
use Rattle.game.proofs.Placement.{AllBelow, sections-code, sections-length}
use Rattle.game.proofs.Moves.{section-below, entered_below, sections-with}
use Rattle.game.proofs.Local.{may-train, mover-cases, spent-grown}
use Rattle.runs.specs.Runs.{Enters, Run, here, further, no_run, RunTable, table_of, train_run, runs_sum}

-- (Says is named so that it is checked before.)

-- SUMS: one more at one place
abbrev plus_one : ℕ → (ℕ → ℕ) → ℕ → ℕ
plus_one t f u = cond (eqb u t) (suc (f u)) (f u)

sum_past : (t : ℕ) (f : ℕ → ℕ) (k : ℕ) → k ≤ t → sum_below (plus_one t f) k ≡ sum_below f k
unfolding sum_below
sum_past t f zero l = refl
sum_past t f (suc k) l =
    let a : sum_below (plus_one t f) k ≡ sum_below f k = sum_past t f k (omega arith) in
    let b : eqb k t ≡ false = ne_eqb k t (λ e. omega arith) in
    rw (a, b) refl

sum-one-more : (t : ℕ) (f : ℕ → ℕ) (k : ℕ) → t < k → sum_below (plus_one t f) k ≡ suc (sum_below f k)
unfolding sum_below
sum-one-more t f zero l = absurd (omega arith)
sum-one-more t f (suc k) l = elim (eq? k t) [
  | inl e ↦
      let a : sum_below (plus_one t f) k ≡ sum_below f k = sum_past t f k (omega arith) in
      let b : eqb k t ≡ true = eq-eqb k t e in
      rw (a, b) (omega arith)
  | inr e ↦
      let a : sum_below (plus_one t f) k ≡ suc (sum_below f k) = sum-one-more t f k (omega arith) in
      let b : eqb k t ≡ false = ne_eqb k t e in
      rw (a, b) (omega arith)
]

sum-le : (f g : ℕ → ℕ) (k : ℕ) → ((i : ℕ) → i < k → f i ≤ g i) → sum_below f k ≤ sum_below g k
unfolding sum_below
sum-le f g zero h = omega arith
sum-le f g (suc k) h = let a : sum_below f k ≤ sum_below g k = sum-le f g k (λ i l. h i (omega arith)) in let b : f k ≤ g k = h k (omega arith) in omega arith

zeros : (k : ℕ) → sum_below (λ t. 0) k ≡ 0
unfolding sum_below
zeros zero = refl
zeros (suc k) = let a : sum_below (λ t. 0) k ≡ 0 = zeros k in omega arith

module _ (r : Railway) (ok : Facts r) where
  -- RUNS OF ALL TRAINS from one placement to another, at most m sections in sum
  record Runs (p q m : ℕ) : Type 0 where
    entered : ℕ → ℕ
    run : (t : ℕ) → t < r.trains → Run r (train_of r t).heading (stands_on r p t) (stands_on r q t) (entered t)
    sum : sum_below entered r.trains ≤ m

  none_yet : (p : ℕ) → Runs p p 0
  none_yet p = record { entered = λ t. 0; run = λ t l. here (section-below r ok p t l); sum = (let z : sum_below (λ t. 0) r.trains ≡ 0 = zeros r.trains in omega arith) }

  dearer : {p q m n : ℕ} → m ≤ n → Runs p q m → Runs p q n
  dearer l w = record { entered = w.entered; run = w.run; sum = omega (arith, w.sum) }

  -- where trains stand when one has come to section x
  stands_same : (q t x : ℕ) → t < r.trains → x < r.sections → stands_on r (code_with r q t x) t ≡ x
  unfolding stands_on
  stands_same q t x l m = ap (λ (xs : List ℕ). get_or xs t 0) (sections-with r ok q t x m) ∙ get_or-set_same (sections_of r q) t x 0 (rw (sections-length r.sections r.trains q) l)

  stands-other : (q t x u : ℕ) → x < r.sections → (u ≡ t → ⊥) → stands_on r (code_with r q t x) u ≡ stands_on r q u
  unfolding stands_on
  stands-other q t x u m n = ap (λ (xs : List ℕ). get_or xs u 0) (sections-with r ok q t x m) ∙ get_or-set_other (sections_of r q) t u x 0 n

  moved : {p q m : ℕ} (t x : ℕ) → t < r.trains → x < r.sections → Enters r (train_of r t).heading (stands_on r q t) x → Runs p q m → Runs p (code_with r q t x) (suc m)
  moved {p} {q} {m} t x l k e w = record {
    entered = plus_one t w.entered;
    run = λ u h. elim (eq? u t) [
      | inl z ↦ (let b : eqb u t ≡ true = eq-eqb u t z in rw b (own u z h))
      | inr z ↦ (let b : eqb u t ≡ false = ne_eqb u t z in rw (b, stands-other q t x u k z) (w.run u h))
    ];
    sum = (let a : sum_below (plus_one t w.entered) r.trains ≡ suc (sum_below w.entered r.trains) = sum-one-more t w.entered r.trains l in omega (arith, w.sum));
  }
    where
      own : (u : ℕ) → u ≡ t → u < r.trains → Run r (train_of r u).heading (stands_on r p u) (stands_on r (code_with r q t x) u) (suc (w.entered u))
      own u z h = rw (z, stands_same q t x l k) (further (w.run t l) e)

  -- A TURN: what a move ends in
  landed : {p q m : ℕ} (t : ℕ) → t < r.trains → (s : Setting) (o : Option ℕ) → entered r s.plus (heads_for r q t) ≡ o → (q' : ℕ) → enters r q t o ≡ at q' → Runs p q m → Runs p q' (suc m)
  unfolding heads_for
  landed t l s none e q' h w = let z : ◌≡◌ {A = ℕ} 0 1 = cc in absurd (omega arith)
  landed {p} {q} {m} t l s (some x) e q' h w = go (occupied r q t x) h
    where
      go : (b : Bool) → cond b (lost collision) (at (code_with r q t x)) ≡ at q' → Runs p q' (suc m)
      go true h = let z : ◌≡◌ {A = ℕ} 0 1 = cc in absurd (omega arith)
      go false h = let z : code_with r q t x ≡ q' = cc in rw z at (moved t x l (entered_below r ok s.plus (heads_for r q t) x e) (record { plus = s.plus; comes = e }) w)

  -- where a play stands, if no move has lost: its turns have cost at least what its runs are in sum
  abbrev Stands : ℕ → Position Setting → Type 0
  Stands p lost_by_move = Unit {0}
  Stands p (standing h q) = Runs p q (spent (game_of r) h)

  after-move : {p q : ℕ} (h : List (Turn Setting)) (t : ℕ) → t < r.trains → (s : Setting) (o : Outcome)
      → move_of r q s t ≡ o → Runs p q (spent (game_of r) h)
      → Stands p (stand_after (game_of r) (grown (game_of r) h q s (some t)) o)
  unfolding move_of
  after-move h t l s (lost x) e w = tt
  after-move {p} {q} h t l s (at q') e w = dearer (omega (arith, spent-grown (game_of r) h q s (some t), (ok.weights t l).0)) (landed t l s _ refl q' e w)

  after_turn : {p q : ℕ} (h : List (Turn Setting)) (s : Setting) (c : ℕ) → Runs p q (spent (game_of r) h) → Stands p (turn (game_of r) h q s (mover (game_of r) q s c))
  after_turn {p} {q} h s c w = elim (mover-cases (game_of r) q s c) [
    | inl a ↦ (let e : mover (game_of r) q s c ≡ some a.0 = a.1 in rw e (after-move h a.0 (may-train (game_of r) q s a.0 a.2) s (move_of r q s a.0) refl w))
    | inr a ↦ (let e : mover (game_of r) q s c ≡ none = a.0 in rw e (dearer (omega (arith, spent-grown (game_of r) h q s none)) w))
  ]

  after-step : (w : Strategy Setting) (c : Adversary Setting) (p : ℕ) (x : Position Setting) → Stands p x → Stands p (step (game_of r) w c x)
  after-step w c p lost_by_move a = tt
  after-step w c p (standing h q) a = elim (bool? (over (game_of r) q)) [
    | inl e ↦ rw e a
    | inr e ↦ rw e (after_turn h (w h q) (c h q (w h q)) a)
  ]

  plays : (w : Strategy Setting) (c : Adversary Setting) (p m : ℕ) → Stands p (play (game_of r) w c p m)
  unfolding play spent
  plays w c p zero = none_yet p
  plays w c p (suc m) = after-step w c p (play (game_of r) w c p m) (plays w c p m)

  -- A PLAY THAT COMES HOME within a total
  record Home (p n : ℕ) : Type 0 where
    entered : ℕ → ℕ
    run : (t : ℕ) → t < r.trains → Run r (train_of r t).heading (stands_on r p t) (train_of r t).destination.0 (entered t)
    sum : sum_below entered r.trains ≤ n

  home-at : (p n : ℕ) (x : Position Setting) → Stands p x → spent_at (game_of r) x ≤ n → home_at (game_of r) x ≡ true → Home p n
  unfolding at_home
  home-at p n lost_by_move a l e = clash e refl
  home-at p n (standing h q) a l e =
      let z = (and-true (not (shared r q)) (at_home r q) e).1 in
      record {
        entered = a.entered;
        run = λ t k. (let d : stands_on r q t ≡ (train_of r t).destination.0 = eqb-true _ _ (all-at (arrived r q) r.trains z t k) in rw d at (a.run t k));
        sum = omega (arith, a.sum);
      }

  forced-runs : (p n : ℕ) → Forced (game_of r) p n → Home p n
  forced-runs p n f =
      let h : HomeWithin (game_of r) f.0 (λ h p s. 0) p n = f.1 (λ h p s. 0) in
      home-at p n (play (game_of r) f.0 (λ h p s. 0) p h.0) (plays f.0 (λ h p s. 0) p h.0) h.1 h.2

  -- THE START: each train stands on its start
  starts-there : (t : ℕ) → t < r.trains → stands_on r (start_code r) t ≡ (train_of r t).start.0
  unfolding stands_on start_code
  starts-there t l = ap (λ (xs : List ℕ). get_or xs t 0) same ∙ list_get (λ u. (train_of r u).start.0) r.trains t 0 l
    where
      below : AllBelow r.sections (list_below (λ u. (train_of r u).start.0) r.trains)
      below i h =
          let m : i < r.trains = rw (list_length (λ u. (train_of r u).start.0) r.trains) at h in
          rw (list_get (λ u. (train_of r u).start.0) r.trains i 0 m) (ok.starts i m)

      same : sections_in r.sections r.trains (code_of r.sections (list_below (λ u. (train_of r u).start.0) r.trains)) ≡ list_below (λ u. (train_of r u).start.0) r.trains
      same =
          let c : sections_in r.sections (length (list_below (λ u. (train_of r u).start.0) r.trains))
          (code_of r.sections (list_below (λ u. (train_of r u).start.0) r.trains))
          ≡ list_below (λ u. (train_of r u).start.0) r.trains =
          sections-code r.sections (list_below (λ u. (train_of r u).start.0) r.trains) ok.one-section below in
          rw (list_length (λ u. (train_of r u).start.0) r.trains) at c

  module _ (up down : List (List ℕ)) (hu : RunTable r Up up) (hd : RunTable r Down down) where
    pub by_side : (s : Side) → RunTable r s (table_of up down s)
    by_side Up = hu
    by_side Down = hd

    -- a train that comes home within a total has a run, and none is shorter than the table's
    record AtLeast (t n : ℕ) : Type 0 where
      there : train_run r up down t ≡ no_run → ⊥
      least : train_run r up down t ≤ n

    at_least : (n : ℕ) (h : Home (start_code r) n) (t : ℕ) → t < r.trains → AtLeast t (h.entered t)
    at_least n h t l =
        let i = (by_side (train_of r t).heading).entries (train_of r t).start.0 (train_of r t).destination.0
        (omega (arith, ok.starts t l, ok.few-sections)) (omega (arith, ok.destinations t l, ok.few-sections)) in
        let run : Run r (train_of r t).heading (train_of r t).start.0 (train_of r t).destination.0 (h.entered t) = rw (starts-there t l) at (h.run t l) in
        record { there = λ e. i.none-exactly.0 e (h.entered t) run; least = i.least (h.entered t) run }

    pub sum-at-least : (n : ℕ) → Forced (game_of r) (start_code r) n → runs_sum r up down ≤ n
    sum-at-least n f =
        let h = forced-runs (start_code r) n f in
        let a : runs_sum r up down ≤ sum_below h.entered r.trains = sum-le (train_run r up down) h.entered r.trains (λ t l. (at_least n h t l).least) in
        omega (arith, h.sum)

    pub none-without : (t : ℕ) → t < r.trains → train_run r up down t ≡ no_run → IsFigure (game_of r) (start_code r) none
    none-without t l e n f = (at_least n (forced-runs (start_code r) n f) t l).there e
