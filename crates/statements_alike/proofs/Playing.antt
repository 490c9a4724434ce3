-- Two records of the same railway have one game. Whatever the game asks of a record is a lookup, and lookups agree; so each of the game's functions
-- gives the same at every argument.
-- Assumes nothing.
use Prim.Native.Nat.{ℕ, zero, suc}
use mathlib.Core.Path.{◌≡◌, refl, ◌∙◌, ap, fun_ext}
use mathlib.Core.Bool.{Bool, ◌&&◌}
use mathlib.Core.Option.{Option, none, some}
use Rattle.laws.specs.Below.{all_below, any_below, list_below}
use Rattle.laws.proofs.Below.{all_same, any_same, list_same}
use Rattle.railway.specs.declared.Leg.{Leg}
use Rattle.railway.specs.declared.PointNo.{PointNo}
use Rattle.railway.specs.declared.End.{End}
use Rattle.railway.specs.declared.End.TheVariants.{Section, Port}
use Rattle.railway.specs.Joined.{Joined, Nothing, With}
use Rattle.railway.specs.declared.Train.{Train}
use Rattle.railway.specs.declared.Railway.{Railway}
use Rattle.railway.specs.Ends.{end_index}
use Rattle.railway.specs.Record.{joined, has_signal, train_of, weight_of}
use Rattle.railway.specs.Passing.{Passage, through, most_met, meeting, past_point, past_join, follow, passes, in_use, entered}
use Rattle.railway.specs.Same.{SameRailway}
use Rattle.railway.proofs.Same.{closed_same, joined_same, signal-same, roster-same}
use Rattle.game.specs.Game.{Outcome, Game}
use Rattle.game.specs.Placement.{stands_on, placements, start_code, arrived, at_home, stands_with, shares_lower, shared}
use Rattle.game.specs.Setting.{Setting, heads_for, held, free, signal_open, may_move}
use Rattle.game.specs.Moves.{other_on, occupied, enters, move_of, game_of}

module _ (r q : Railway) (h : SameRailway r q) where
  pub placements-same : placements r ≡ placements q
  placements-same = rw (h.sections, h.trains)

  pub start-same : start_code r ≡ start_code q
  unfolding start_code
  start-same =
      let a : list_below (λ t. (train_of r t).start.0) r.trains ≡ list_below (λ t. (train_of q t).start.0) r.trains = list_same _ _ r.trains (λ t l. rw (roster-same r q h t)) in
      rw (a, h.sections, h.trains)

  -- where trains stand and what they head for
  module _ (p : ℕ) where
    stands_same : (t : ℕ) → stands_on r p t ≡ stands_on q p t
    unfolding stands_on
    stands_same t = rw (h.sections, h.trains)

    pub heads-same : (t : ℕ) → heads_for r p t ≡ heads_for q p t
    unfolding heads_for
    heads-same t = rw (stands_same t, roster-same r q h t)

    arrived-same : (t : ℕ) → arrived r p t ≡ arrived q p t
    arrived-same t = rw (stands_same t, roster-same r q h t)

    home_same : at_home r p ≡ at_home q p
    unfolding at_home
    home_same = all_same (arrived r p) (arrived q p) r.trains (λ t l. arrived-same t) ∙ ap (all_below (arrived q p)) h.trains

    lost-same : shared r p ≡ shared q p
    unfolding shared
    lost-same =
        any_same (shares_lower r p) (shares_lower q p) r.trains (λ t l. any_same (stands_with r p t) (stands_with q p t) t (λ u m. rw (stands_same u, stands_same t)))
        ∙ ap (any_below (shares_lower q p)) h.trains

    -- who may move
    ahead-same : (t : ℕ) → has_signal r (heads_for r p t) ≡ has_signal q (heads_for q p t)
    ahead-same t = signal-same r q h (heads_for r p t) ∙ ap (has_signal q) (heads-same t)

    held_same : (t : ℕ) → held r p t ≡ held q p t
    unfolding held
    held_same t = rw (arrived-same t, ahead-same t)

    free-same : (t : ℕ) → free r p t ≡ free q p t
    unfolding free
    free-same t = rw (arrived-same t, ahead-same t)

    pub open-same : (s : Setting) (t : ℕ) → signal_open r p s t ≡ signal_open q p s t
    unfolding signal_open
    open-same s t = rw (held_same t) (ap (λ (e : End). held q p t && s.is_open (end_index e)) (heads-same t))

    may-same : (s : Setting) (t : ℕ) → may_move r p s t ≡ may_move q p s t
    unfolding may_move
    may-same s t = rw (free-same t, open-same s t)

    -- what a move ends in
    occupied-same : (t x : ℕ) → occupied r p t x ≡ occupied q p t x
    unfolding occupied
    occupied-same t x = any_same (other_on r p t x) (other_on q p t x) r.trains (λ u l. rw (stands_same u)) ∙ ap (any_below (other_on q p t x)) h.trains

    enters-same : (t : ℕ) (o : Option ℕ) → enters r p t o ≡ enters q p t o
    enters-same t none = refl
    enters-same t (some x) = rw (occupied-same t x, h.sections, h.trains)

  -- where a train comes to, however many points are allowed
  point-same : (f g : Joined → Passage) → ((j : Joined) → f j ≡ g j) → (n : PointNo) (o : Option Leg) → past_point r f n o ≡ past_point q g n o
  point-same f g e n none = refl
  point-same f g e n (some l) = ap (meeting n) (ap f (joined_same r q h (Port n l)) ∙ e (joined q (Port n l)))

  past_same : (f g : PointNo → Leg → Passage) → ((n : PointNo) (l : Leg) → f n l ≡ g n l) → (j : Joined) → past_join f j ≡ past_join g j
  past_same f g e Nothing = refl
  past_same f g e (With (Section n s)) = refl
  past_same f g e (With (Port n l)) = e n l

  follow-same : (plus : ℕ → Bool) (k : ℕ) (j : Joined) → follow r plus k j ≡ follow q plus k j
  unfolding follow
  follow-same plus zero j = refl
  follow-same plus (suc k) j = past_same _ _ (λ n l. point-same (follow r plus k) (follow q plus k) (follow-same plus k) n (through l (plus n.0))) j

  passes_same : (plus : ℕ → Bool) (e : End) → passes r plus e ≡ passes q plus e
  unfolding passes
  passes_same plus e = follow-same plus most_met (joined r e) ∙ ap (follow q plus most_met) (joined_same r q h e)

  use-same : (o : Option ℕ) → in_use r o ≡ in_use q o
  use-same none = refl
  use-same (some x) = rw (closed_same r q h x)

  entered-same : (plus : ℕ → Bool) (e : End) → entered r plus e ≡ entered q plus e
  unfolding entered
  entered-same plus e = rw (passes_same plus e) (use-same (passes q plus e).reached)

  move_same : (p : ℕ) (s : Setting) (t : ℕ) → move_of r p s t ≡ move_of q p s t
  unfolding move_of
  move_same p s t = rw (heads-same p t, entered-same s.plus (heads_for q p t)) (enters-same p t (entered q s.plus (heads_for q p t)))

  -- what a move costs
  weight-same : (t : ℕ) → weight_of r t ≡ weight_of q t
  unfolding weight_of
  weight-same t = ap (λ (x : Train). x.weight) (roster-same r q h t)

  pub game-same : game_of r ≡ game_of q
  game-same =
      go (placements r) (placements q) r.trains q.trains (at_home r) (at_home q) (shared r) (shared q) (may_move r) (may_move q) (move_of r) (move_of q) (weight_of r) (weight_of q)
      placements-same h.trains (fun_ext home_same) (fun_ext lost-same) (fun_ext (λ p. fun_ext (λ s. fun_ext (may-same p s)))) (fun_ext (λ p. fun_ext (λ s. fun_ext (move_same p s))))
      (fun_ext weight-same)
    where
      go : (a a' b b' : ℕ) (c c' d d' : ℕ → Bool) (e e' : ℕ → Setting → ℕ → Bool) (f f' : ℕ → Setting → ℕ → Outcome) (k k' : ℕ → ℕ)
          → a ≡ a' → b ≡ b' → c ≡ c' → d ≡ d' → e ≡ e' → f ≡ f' → k ≡ k'
          → ◌≡◌ {A = Game Setting} (record { placements = a; trains = b; is_home = c; is_lost = d; allowed = e; next = f; weight = k })
          (record { placements = a'; trains = b'; is_home = c'; is_lost = d'; allowed = e'; next = f'; weight = k' })
      go a a' b b' c c' d d' e e' f f' k k' p q u v w x y = rw (p, q, u, v, w, x, y)
