-- Thinning at a placement, where every train has its section to itself. The train that stays open may move by the plan and by itself alone, so by the law it may move by what is common
-- to both: it was open. So the plan's open trains and that one, joined, are the plan's, and by the law nobody may move who could not. Somebody still may, and the lowest that may is
-- the one that stays: thinned again, it stays again. Assumes nothing.
use mathlib.Core.Path.{◌≡◌, refl, sym, ◌∙◌, ap, fun_ext}
use mathlib.Core.Logic.{◌⊎◌, inl, inr}
use mathlib.Core.Bool.{Bool, true, false, ◌&&◌, ◌||◌}
use mathlib.Core.Option.{Option, none, some}
use Prim.Native.Nat.{ℕ, ◌≤◌, ◌<◌}
use native.Mathlib.Omega.{arith}
use lib.Dec.{ltb, eqb}
use borrow.Author.Tests.{lt-ltb, eqb-true, eq-eqb}
use Rattle.laws.specs.Below.{lowest}
use Rattle.laws.proofs.Bools.{bool?, clash, not-false, and-true, and_both, and-off, either, or_left, or_right, some-none, some_one}
use Rattle.laws.proofs.Below.{any_at, any_false, lowest-cases, lowest-least}
use Rattle.railway.specs.declared.Railway.{Railway}
use Rattle.game.specs.Placement.{shared}
use Rattle.game.specs.Setting.{held, free, may_move, signal_open}
use Rattle.game.specs.Moves.{game_of}
use Rattle.game.proofs.Local.{may-train}
use Rattle.game_tables.specs.Entries.{setting_from}
use Rattle.thin.specs.Law.{moves, in_either, in_both}
use Rattle.thin.specs.Thinning.{some_free, stays}
use Rattle.thin.proofs.Bits.{is_train}
use Rattle.thin.proofs.Law.{opens_at, may-is, of-by, law, by-open, by-none}

only : (o : Option ℕ) (t : ℕ) → is_train o t ≡ true → o ≡ some t
only none t e = clash e refl
only (some u) t e = ap (λ (z : ℕ). some z) (eqb-true u t e)

module _ (r : Railway) (p : ℕ) (plus opens : ℕ → Bool) where
  -- who may move by the plan; the train that stays open; who may move by that one
  abbrev pub before : ℕ → Bool
  before = moves r p plus opens

  abbrev pub lean : ℕ → Bool
  lean = is_train (stays r p (setting_from r p plus opens))

  abbrev pub after : ℕ → Bool
  after = moves r p plus lean

  -- WHO STAYS OPEN, by whether some train is free
  pub stays-none : some_free r p ≡ true → stays r p (setting_from r p plus opens) ≡ none
  unfolding stays
  stays-none e = rw e refl

  pub stays-lowest : some_free r p ≡ false → stays r p (setting_from r p plus opens) ≡ lowest before r.trains
  unfolding stays
  stays-lowest e = rw e refl

  -- a train that stays open: nobody is free, and it is the lowest that may move
  lean-lowest : (t : ℕ) → lean t ≡ true → (some_free r p ≡ false) × (lowest before r.trains ≡ some t)
  lean-lowest t e = elim (bool? (some_free r p)) [
    | inl f ↦ some-none (only _ t e) (stays-none f)
    | inr f ↦ (f, sym (stays-lowest f) ∙ only _ t e)
  ]

  lowest-moves : (t : ℕ) → lowest before r.trains ≡ some t → (t < r.trains) × (before t ≡ true)
  lowest-moves t e = elim (lowest-cases before r.trains) [
    | inl w ↦ (let z : w.0 ≡ t = some_one (sym w.1 ∙ e) in (rw (sym z) w.2, rw (sym z) w.3))
    | inr w ↦ some-none e w.0
  ]

  -- who may move is free or held
  free-or-held : (o : ℕ → Bool) (t : ℕ) → moves r p plus o t ≡ true → (free r p t ≡ true) ⊎ (held r p t ≡ true)
  free-or-held o t e = elim (either (free r p t) (held r p t && opens_at r p o t) (and-true (ltb t r.trains) _ (sym (may-is r p plus o t) ∙ e)).1) [
    | inl f ↦ inl f
    | inr f ↦ inr (and-true (held r p t) (opens_at r p o t) f).0
  ]

  not_free : some_free r p ≡ false → (t : ℕ) → t < r.trains → free r p t ≡ false
  unfolding some_free
  not_free e t l = any_false (free r p) r.trains e t l

  moves-held : some_free r p ≡ false → (o : ℕ → Bool) (t : ℕ) → t < r.trains → moves r p plus o t ≡ true → held r p t ≡ true
  moves-held e o t l m = elim (free-or-held o t m) [ inl f ↦ clash f (not_free e t l) | inr h ↦ h ]

  -- AN OPEN TRAIN has a signal
  pub lean-signalled : (t : ℕ) → lean t ≡ true → held r p t ≡ true
  lean-signalled t e = let w = lean-lowest t e in let m = lowest-moves t w.1 in moves-held w.0 opens t m.0 m.1

  -- open by itself, a train that is held may move
  by_itself : (o : ℕ → Bool) (t : ℕ) → t < r.trains → held r p t ≡ true → o t ≡ true → moves r p plus o t ≡ true
  by_itself o t l h e = by-open r p plus t l h o (of-by r p o t (record { train = t; there = l; is-open = e; end = refl }))

  module _ (apart : shared r p ≡ false) where
    -- NEVER A TRAIN THAT WAS CLOSED: by what is common to the plan's open trains and to this one alone
    pub was-open : (t : ℕ) → lean t ≡ true → opens t ≡ true
    was-open t e =
        let w = lean-lowest t e in
        let m = lowest-moves t w.1 in
        let h = lean-signalled t e in
        let c : moves r p plus (in_both opens (eqb t)) t ≡ true =
        (law r p plus opens (eqb t)).common apart t ∙ and_both (before t) (moves r p plus (eqb t) t) m.1 (by_itself (eqb t) t m.0 h (eq-eqb t t refl)) in
        not-false (opens t) (λ z. clash c (by-none r p plus t m.0 h (in_both opens (eqb t)) (λ u. elim (bool? (eqb t u)) [
          | inl y ↦ (let k : t ≡ u = eqb-true t u y in rw (← k, z))
          | inr y ↦ rw y (and-off (opens u))
        ])))

    -- with the train that stays joined to them, the plan's open trains are what they were
    joined_same : in_either opens lean ≡ opens
    joined_same = fun_ext (λ t. elim (bool? (lean t)) [
      | inl e ↦ or_right (opens t) (lean t) e ∙ sym (was-open t e)
      | inr e ↦ rw e (or_off (opens t))
    ])
      where
        or_off : (a : Bool) → (a || false) ≡ a
        or_off true = refl
        or_off false = refl

    -- NOBODY MORE may move: by the joined sets
    pub fewer : (t : ℕ) → after t ≡ true → before t ≡ true
    fewer t e =
        let j : moves r p plus (in_either opens lean) t ≡ (before t || after t) = (law r p plus opens lean).joined t in
        ap (λ (o : ℕ → Bool). moves r p plus o t) (sym joined_same) ∙ j ∙ or_right (before t) (after t) e

  -- and the lowest that moved does, where none is free
  lowest-still : some_free r p ≡ false → (t : ℕ) → lowest before r.trains ≡ some t → after t ≡ true
  lowest-still f t e =
      let m = lowest-moves t e in
      by_itself lean t m.0 (moves-held f opens t m.0 m.1) (ap (λ (o : Option ℕ). is_train o t) (stays-lowest f ∙ e) ∙ eq-eqb t t refl)

  -- SOMEBODY still may
  pub still : (t : ℕ) → before t ≡ true → (u : ℕ) × (after u ≡ true)
  unfolding some_free
  still t e = elim (bool? (some_free r p)) [
    | inl f ↦ (let w : (u : ℕ) × (u < r.trains) × (free r p u ≡ true) = any_at (free r p) r.trains f in
        (w.0, may-is r p plus lean w.0 ∙ and_both (ltb w.0 r.trains) _ (lt-ltb w.0 r.trains w.1) (or_left (free r p w.0) _ w.2)))
    | inr f ↦ elim (lowest-cases before r.trains) [
      | inl w ↦ (w.0, lowest-still f w.0 w.1)
      | inr w ↦ clash e (w.1 t (may-train (game_of r) p (setting_from r p plus opens) t e))
    ]
  ]

  -- THE LOWEST that may move is the same
  same-lowest : shared r p ≡ false → some_free r p ≡ false → lowest after r.trains ≡ lowest before r.trains
  same-lowest apart f = elim (lowest-cases before r.trains) [
    | inl w ↦ elim (lowest-cases after r.trains) [
      | inl v ↦
          let a : w.0 ≤ v.0 = lowest-least before r.trains w.0 w.1 v.0 (fewer apart v.0 v.3) v.2 in
          let b : v.0 ≤ w.0 = lowest-least after r.trains v.0 v.1 w.0 (lowest-still f w.0 w.1) w.2 in
          let z : v.0 ≡ w.0 = omega arith in
          v.1 ∙ ap (λ (n : ℕ). some n) z ∙ sym w.1
      | inr v ↦ clash (lowest-still f w.0 w.1) (v.1 w.0 w.2)
    ]
    | inr w ↦ elim (lowest-cases after r.trains) [
      | inl v ↦ clash (fewer apart v.0 v.3) (w.1 v.0 v.2)
      | inr v ↦ v.0 ∙ sym w.0
    ]
  ]

-- how the points lie plays no part
pub stays-points : (r : Railway) (p : ℕ) (plus other opens : ℕ → Bool) → stays r p (setting_from r p plus opens) ≡ stays r p (setting_from r p other opens)
unfolding stays may_move signal_open
stays-points r p plus other opens = refl

-- THINNED AGAIN, it stays again
pub stays-again : (r : Railway) (p : ℕ) (plus opens : ℕ → Bool) → shared r p ≡ false
    → stays r p (setting_from r p plus (lean r p plus opens)) ≡ stays r p (setting_from r p plus opens)
stays-again r p plus opens apart = elim (bool? (some_free r p)) [
  | inl f ↦ stays-none r p plus (lean r p plus opens) f ∙ sym (stays-none r p plus opens f)
  | inr f ↦ stays-lowest r p plus (lean r p plus opens) f ∙ same-lowest r p plus opens apart f ∙ sym (stays-lowest r p plus opens f)
]
