-- Settings that agree on the railway are alike: they let the same trains move, to the same ends. A train looks at its own signal, if it
-- has one, and its way at points of the railway; a setting is asked nowhere else. And open signals only add moves.
-- Assumes nothing.
use mathlib.Core.Path.{◌≡◌, refl, sym, ◌∙◌, ap}
use mathlib.Core.Logic.{inl, inr}
use mathlib.Core.Bool.{Bool, true, false, not, ◌&&◌}
use mathlib.Core.Option.{Option, none, some}
use Prim.Native.Nat.{ℕ, zero, suc, ◌<◌}
use borrow.Author.Tests.{ltb-true}
use Rattle.laws.proofs.Bools.{bool?, clash, either, or_left, or_right, and-true, and_both}
use Rattle.railway.specs.declared.Leg.{Leg}
use Rattle.railway.specs.declared.PointNo.{PointNo}
use Rattle.railway.specs.declared.End.{End}
use Rattle.railway.specs.declared.End.TheVariants.{Section, Port}
use Rattle.railway.specs.Joined.{Joined, Nothing, With}
use Rattle.railway.specs.declared.Railway.{Railway}
use Rattle.railway.specs.Ends.{end_index}
use Rattle.railway.specs.Record.{joined, has_signal}
use Rattle.railway.specs.Passing.{Passage, through, most_met, meeting, past_point, past_join, follow, passes, in_use, entered}
use Rattle.railway.proofs.Lookups.{Flagged, signal-flag}
use Rattle.game.specs.Claim.{Alike}
use Rattle.game.specs.Placement.{arrived}
use Rattle.game.specs.Setting.{Setting, SameSetting, heads_for, held, free, opens_for, signal_open, may_move}
use Rattle.game.specs.Moves.{enters, move_of, game_of, AgreeingAlike}
use Rattle.game.proofs.Accepted.{Known, Facts, facts}

module _ (r : Railway) where
  -- PARKED, on its destination, a train may not move, whatever is open: it is neither free nor held
  pub may-parked : (p : ℕ) (s : Setting) (t : ℕ) → arrived r p t ≡ true → may_move r p s t ≡ false
  unfolding may_move signal_open held free
  may-parked p s t a = rw a refl

  pub parked-neither : (p t : ℕ) → arrived r p t ≡ true → (free r p t ≡ false) × (held r p t ≡ false)
  unfolding held free
  parked-neither p t a = (rw a, rw a)

  pub held-flag : (p t : ℕ) → held r p t ≡ true → Flagged r (heads_for r p t)
  unfolding held
  held-flag p t h = signal-flag r (heads_for r p t) (and-true (not (arrived r p t)) (has_signal r (heads_for r p t)) h).1

  -- a train is not both free and held
  pub held-not-free : (p t : ℕ) → held r p t ≡ true → free r p t ≡ false
  unfolding held free
  held-not-free p t h = go (arrived r p t) (has_signal r (heads_for r p t)) h
    where
      go : (a b : Bool) → (not a && b) ≡ true → (not a && not b) ≡ false
      go true b e = refl
      go false true e = refl
      go false false e = clash e refl

  -- who may move: a free train always, a held one as its signal says, a parked one never
  pub may_free : (p : ℕ) (s : Setting) (t : ℕ) → free r p t ≡ true → may_move r p s t ≡ true
  unfolding may_move
  may_free p s t h = rw h refl

  pub may-held : (p : ℕ) (s : Setting) (t : ℕ) → held r p t ≡ true → may_move r p s t ≡ opens_for r p s t
  unfolding may_move signal_open
  may-held p s t h = rw (held-not-free p t h, h)

  pub may-neither : (p : ℕ) (s : Setting) (t : ℕ) → free r p t ≡ false → held r p t ≡ false → may_move r p s t ≡ false
  unfolding may_move signal_open
  may-neither p s t f h = rw (f, h)

  pub may-same : (a b : Setting) → SameSetting r a b → (p t : ℕ) → may_move r p a t ≡ may_move r p b t
  may-same a b same p t = elim (bool? (free r p t)) [
    | inl f ↦ may_free p a t f ∙ sym (may_free p b t f)
    | inr f ↦ elim (bool? (held r p t)) [
      | inl h ↦ let g = held-flag p t h in may-held p a t h ∙ same.signals (end_index (heads_for r p t)) g.below g.flag ∙ sym (may-held p b t h)
      | inr h ↦ may-neither p a t f h ∙ sym (may-neither p b t f h)
    ]
  ]

  -- open signals only add moves
  pub may_more : (a b : Setting) → ((i : ℕ) → a.is_open i ≡ true → b.is_open i ≡ true) → (p t : ℕ) → may_move r p a t ≡ true → may_move r p b t ≡ true
  unfolding may_move signal_open
  may_more a b more p t m = elim (either (free r p t) (signal_open r p a t) m) [
    | inl f ↦ or_left (free r p t) (signal_open r p b t) f
    | inr o ↦
        let h = and-true (held r p t) (opens_for r p a t) o in
        or_right (free r p t) (signal_open r p b t) (and_both (held r p t) (opens_for r p b t) h.0 (more (end_index (heads_for r p t)) h.1))
  ]

-- ways over the railway's points depend on nothing else
abbrev pub SamePoints : Railway → (ℕ → Bool) → (ℕ → Bool) → Type 0
SamePoints r a b = (n : ℕ) → n < r.points → a n ≡ b n

module _ (r : Railway) (ok : Facts r) where
  point-same : (f g : Joined → Passage) (n : PointNo) (o : Option Leg) → ((l : Leg) → f (joined r (Port n l)) ≡ g (joined r (Port n l))) → past_point r f n o ≡ past_point r g n o
  point-same f g n none h = refl
  point-same f g n (some l) h = ap (meeting n) (h l)

  join-same : (f g : PointNo → Leg → Passage) (j : Joined) → Known r j → ((n : PointNo) (l : Leg) → n.0 < r.points → f n l ≡ g n l) → past_join f j ≡ past_join g j
  join-same f g Nothing known h = refl
  join-same f g (With (Section n d)) known h = refl
  join-same f g (With (Port n l)) known h = h n l (ltb-true n.0 r.points known)

  -- however many points are allowed
  pub follow-same : (a b : ℕ → Bool) → SamePoints r a b → (k : ℕ) (j : Joined) → Known r j → follow r a k j ≡ follow r b k j
  unfolding follow
  follow-same a b same zero j known = refl
  follow-same a b same (suc k) j known = join-same _ _ j known (λ n l there.
      let e : a n.0 ≡ b n.0 = same n.0 there in
      rw e (point-same (follow r a k) (follow r b k) n (through l (b n.0)) (λ o. follow-same a b same k (joined r (Port n o)) (ok.joins (Port n o)))))

  pub passes_same : (a b : ℕ → Bool) → SamePoints r a b → (e : End) → passes r a e ≡ passes r b e
  unfolding passes
  passes_same a b same e = follow-same a b same most_met (joined r e) (ok.joins e)

  pub move_same : (a b : Setting) → SamePoints r a.plus b.plus → (p t : ℕ) → move_of r p a t ≡ move_of r p b t
  unfolding move_of entered
  move_same a b same p t = ap (λ (w : Passage). enters r p t (in_use r w.reached)) (passes_same a.plus b.plus same (heads_for r p t))

  pub alike : (a b : Setting) → SameSetting r a b → (p : ℕ) → Alike (game_of r) p a b
  alike a b same p =
      record {
        same-trains = λ t. let e : may_move r p a t ≡ may_move r p b t = may-same r a b same p t in rw e;
        same_ends = λ t m. move_same a b same.points p t;
      }

pub agreeing-alike : AgreeingAlike
agreeing-alike r accepted a b same p = alike r (facts r accepted) a b same p
