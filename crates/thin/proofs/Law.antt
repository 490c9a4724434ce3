-- The law on moves under sets of open trains. Who may move is a matter of being free, or of being held with some open train that heads for the same end; joined sets have the open trains
-- of both. Where every train has its section to itself a train that is held shares its end with nobody, so that its signal is open by the train itself alone. Assumes nothing.
use mathlib.Core.Path.{◌≡◌, refl, sym, ◌∙◌, ap}
use mathlib.Core.Logic.{inl, inr}
use mathlib.Core.Bool.{Bool, true, false, ◌&&◌, ◌||◌}
use Prim.Native.Nat.{ℕ, ◌<◌}
use lib.Dec.{ltb, eqb}
use borrow.Author.Tests.{eqb-true, eq-eqb, lt-ltb, ltb-true}
use Rattle.laws.specs.Below.{any_below}
use Rattle.laws.proofs.Bools.{same_bool, and-true, and_both, and-off, not-true, either, or_left, or_right}
use Rattle.laws.proofs.Below.{any_at, any_of, none_any}
use Rattle.railway.specs.declared.Railway.{Railway}
use Rattle.railway.specs.Ends.{end_index}
use Rattle.game.specs.Placement.{shared}
use Rattle.game.specs.Setting.{heads_for, held, free, may_move, signal_open}
use Rattle.game.specs.Moves.{move_of}
use Rattle.game.proofs.Setting.{held-not-free}
use Rattle.game_tables.specs.Entries.{opens_end, setting_from}
use Rattle.game_tables.proofs.Entries.{own-end}
use Rattle.thin.specs.Law.{moves, in_either, in_both, MovesUnder, SignalsShared, LawHolds}
use Rattle.thin.proofs.Examples.{common-fails}

module _ (r : Railway) (p : ℕ) where
  -- the signal that train t heads for is open under these open trains: one of them heads for the same end
  abbrev pub opens_at : (ℕ → Bool) → ℕ → Bool
  opens_at o t = any_below (opens_end r p o (end_index (heads_for r p t))) r.trains

  pub may-is : (plus o : ℕ → Bool) (t : ℕ) → moves r p plus o t ≡ (ltb t r.trains && (free r p t || held r p t && opens_at o t))
  unfolding may_move signal_open
  may-is plus o t = refl

  -- the train that opens it
  pub record By (o : ℕ → Bool) (t : ℕ) : Type 0 where
    pub train : ℕ
    pub there : train < r.trains
    pub is-open : o train ≡ true
    pub end : end_index (heads_for r p t) ≡ end_index (heads_for r p train)

  pub by : (o : ℕ → Bool) (t : ℕ) → opens_at o t ≡ true → By o t
  by o t e =
      let w : (u : ℕ) × (u < r.trains) × (opens_end r p o (end_index (heads_for r p t)) u ≡ true) = any_at _ r.trains e in
      let b = and-true (o w.0) (eqb (end_index (heads_for r p t)) (end_index (heads_for r p w.0))) w.2 in
      record { train = w.0; there = w.1; is-open = b.0; end = eqb-true _ _ b.1 }

  pub of-by : (o : ℕ → Bool) (t : ℕ) → By o t → opens_at o t ≡ true
  of-by o t w = any_of (opens_end r p o (end_index (heads_for r p t))) r.trains w.train w.there (and_both (o w.train) _ w.is-open (eq-eqb _ _ w.end))

  -- another set that has the train
  by_in : (o o' : ℕ → Bool) (t : ℕ) (w : By o t) → o' w.train ≡ true → By o' t
  by_in o o' t w e = record { train = w.train; there = w.there; is-open = e; end = w.end }

  module _ (a b : ℕ → Bool) (t : ℕ) where
    joined-open : opens_at (in_either a b) t ≡ (opens_at a t || opens_at b t)
    joined-open =
        same_bool _ _
        (λ e. let w = by (in_either a b) t e in elim (either (a w.train) (b w.train) w.is-open) [
          | inl x ↦ or_left (opens_at a t) (opens_at b t) (of-by a t (by_in (in_either a b) a t w x))
          | inr x ↦ or_right (opens_at a t) (opens_at b t) (of-by b t (by_in (in_either a b) b t w x))
        ])
        (λ e. elim (either (opens_at a t) (opens_at b t) e) [
          | inl x ↦ (let w = by a t x in of-by (in_either a b) t (by_in a (in_either a b) t w (or_left (a w.train) (b w.train) w.is-open)))
          | inr x ↦ (let w = by b t x in of-by (in_either a b) t (by_in b (in_either a b) t w (or_right (a w.train) (b w.train) w.is-open)))
        ])

    common-open : shared r p ≡ false → t < r.trains → held r p t ≡ true → opens_at (in_both a b) t ≡ (opens_at a t && opens_at b t)
    common-open apart l h =
        same_bool _ _
        (λ e. let w = by (in_both a b) t e in let z = and-true (a w.train) (b w.train) w.is-open in
        and_both (opens_at a t) (opens_at b t) (of-by a t (by_in (in_both a b) a t w z.0)) (of-by b t (by_in (in_both a b) b t w z.1)))
        (λ e. let z = and-true (opens_at a t) (opens_at b t) e in
        let v = by a t z.0 in let w = by b t z.1 in
        let v-is : t ≡ v.train = own-end r p apart t v.train l v.there h v.end in
        let w-is : t ≡ w.train = own-end r p apart t w.train l w.there h w.end in
        of-by (in_both a b) t (record { train = t; there = l; is-open = and_both (a t) (b t) (rw v-is v.is-open) (rw w-is w.is-open); end = refl }))

-- BOOLEANS: there, free, held, and the two signals
over-or : (l f h x y : Bool) → (l && (f || h && (x || y))) ≡ ((l && (f || h && x)) || (l && (f || h && y)))
over-or true true h x y = refl
over-or true false true x y = refl
over-or true false false x y = refl
over-or false f h x y = refl

over-and : (l f h x y z : Bool) → (l ≡ true → h ≡ true → z ≡ (x && y)) → (l && (f || h && z)) ≡ ((l && (f || h && x)) && (l && (f || h && y)))
over-and true true h x y z e = refl
over-and true false true x y z e = e refl refl
over-and true false false x y z e = refl
over-and false f h x y z e = refl

module _ (r : Railway) (p : ℕ) (plus a b : ℕ → Bool) where
  pub joins : (t : ℕ) → moves r p plus (in_either a b) t ≡ (moves r p plus a t || moves r p plus b t)
  unfolding may_move signal_open
  joins t =
      ap (λ (x : Bool). ltb t r.trains && (free r p t || held r p t && x)) (joined-open r p a b t)
      ∙ over-or (ltb t r.trains) (free r p t) (held r p t) (opens_at r p a t) (opens_at r p b t)

  pub commons : shared r p ≡ false → (t : ℕ) → moves r p plus (in_both a b) t ≡ (moves r p plus a t && moves r p plus b t)
  unfolding may_move signal_open
  commons apart t =
      over-and (ltb t r.trains) (free r p t) (held r p t) (opens_at r p a t) (opens_at r p b t) (opens_at r p (in_both a b) t)
      (λ l h. common-open r p a b t apart (ltb-true t r.trains l) h)

  pub same_ends : (t : ℕ) → move_of r p (setting_from r p plus a) t ≡ move_of r p (setting_from r p plus b) t
  unfolding move_of
  same_ends t = refl

pub law : (r : Railway) (p : ℕ) (plus a b : ℕ → Bool) → MovesUnder r p plus a b
law r p plus a b = record { joined = joins r p plus a b; common = commons r p plus a b; ends = same_ends r p plus a b }

-- A SHARED SIGNAL
module _ (r : Railway) (p : ℕ) (plus : ℕ → Bool) (t : ℕ) (l : t < r.trains) (h : held r p t ≡ true) where
  pub by-open : (o : ℕ → Bool) → opens_at r p o t ≡ true → moves r p plus o t ≡ true
  by-open o e =
      may-is r p plus o t
      ∙ and_both (ltb t r.trains) _ (lt-ltb t r.trains l) (or_right (free r p t) (held r p t && opens_at r p o t) (and_both (held r p t) (opens_at r p o t) h e))

  -- nobody open: a train that is held may not move
  pub by-none : (o : ℕ → Bool) → ((u : ℕ) → o u ≡ false) → moves r p plus o t ≡ false
  by-none o e =
      let n : opens_at r p o t ≡ false = none_any (opens_end r p o (end_index (heads_for r p t))) r.trains
      (λ u k. ap (λ (x : Bool). x && eqb (end_index (heads_for r p t)) (end_index (heads_for r p u))) (e u)) in
      may-is r p plus o t ∙ rw (n, held-not-free r p t h, h) (and-off (ltb t r.trains))

not-both : (t u : ℕ) → (t ≡ u → ⊥) → (v : ℕ) → in_both (eqb t) (eqb u) v ≡ false
not-both t u apart v = not-true (in_both (eqb t) (eqb u) v) (λ e. let z = and-true (eqb t v) (eqb u v) e in apart (eqb-true t v z.0 ∙ sym (eqb-true u v z.1)))

pub signals : SignalsShared
signals r p plus t u l m apart h e =
    let i : end_index (heads_for r p t) ≡ end_index (heads_for r p u) = ap end_index e in
    record {
      by_itself = by-open r p plus t l h (eqb t) (of-by r p (eqb t) t (record { train = t; there = l; is-open = eq-eqb t t refl; end = refl }));
      by-other = by-open r p plus t l h (eqb u) (of-by r p (eqb u) t (record { train = u; there = m; is-open = eq-eqb u u refl; end = i }));
      by-nobody = by-none r p plus t l h (in_both (eqb t) (eqb u)) (not-both t u apart);
    }

pub law-holds : LawHolds
law-holds = record { law = law; signals = signals; fails = common-fails }
