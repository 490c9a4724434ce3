-- To open a signal never takes a move away: with the points as they are, whoever may move before may move after it, and comes to the same
-- end. So of a setting that keeps a figure any part of the open signals keeps it too, as long as some train may still move: where a train
-- is free no signal need be open, and else that of one train is enough. Assumes nothing.
use mathlib.Core.Path.{◌≡◌, refl, sym, ◌∙◌}
use mathlib.Core.Logic.{◌⊎◌}
use mathlib.Core.Bool.{Bool, true, false}
use mathlib.Core.Option.{Option}
use Prim.Native.Nat.{ℕ, ◌^◌, ◌<◌}
use lib.Dec.{ltb, eqb}
use borrow.Author.Tests.{lt-ltb, eqb-true, eq-eqb}
use Rattle.laws.specs.Bits.{bit}
use Rattle.laws.proofs.Bools.{clash, either, or_right, and-true, and_both}
use Rattle.laws.proofs.Bits.{bits-plain, bits_below}
use Rattle.railway.specs.declared.Railway.{Railway}
use Rattle.railway.specs.Ends.{end_index}
use Rattle.game.specs.Game.{may}
use Rattle.game.specs.Claim.{Keeps}
use Rattle.game.specs.Setting.{Setting, heads_for, held, free, opens_for, may_move, signal_open}
use Rattle.game.specs.Moves.{game_of}
use Rattle.game.proofs.Local.{may-train, may-allowed}
use Rattle.game.proofs.Accepted.{Facts}
use Rattle.game.proofs.Setting.{may_free, may_more, SamePoints, move_same}
use Rattle.game_tables.specs.Entries.{setting_at, entry_from}
use Rattle.game_tables.specs.Tables.{point_bits}
use Rattle.game_tables.proofs.Entries.{setting-plus, closed-open, one-open}

-- The signals that s opens are open under o too.
abbrev pub FewerOpen : Setting → Setting → Type 0
FewerOpen s o = (i : ℕ) → s.is_open i ≡ true → o.is_open i ≡ true

-- WHO MAY MOVE: a free train, and one whose signal is open
module _ (r : Railway) (p : ℕ) where
  pub may-cases : (s : Setting) (t : ℕ) → may (game_of r) p s t ≡ true → (free r p t ≡ true) ⊎ (signal_open r p s t ≡ true)
  unfolding may_move
  may-cases s t m = either (free r p t) (signal_open r p s t) (may-allowed (game_of r) p s t m)

  pub free-may : (s : Setting) (t : ℕ) → t < r.trains → free r p t ≡ true → may (game_of r) p s t ≡ true
  free-may s t l e = and_both (ltb t r.trains) (may_move r p s t) (lt-ltb t r.trains l) (may_free r p s t e)

  pub open-may : (s : Setting) (t : ℕ) → t < r.trains → signal_open r p s t ≡ true → may (game_of r) p s t ≡ true
  unfolding may_move
  open-may s t l e = and_both (ltb t r.trains) (may_move r p s t) (lt-ltb t r.trains l) (or_right (free r p t) (signal_open r p s t) e)

  pub more-may : (s o : Setting) → FewerOpen s o → (t : ℕ) → may (game_of r) p s t ≡ true → may (game_of r) p o t ≡ true
  more-may s o fewer t m =
      and_both (ltb t r.trains) (may_move r p o t) (lt-ltb t r.trains (may-train (game_of r) p s t m)) (may_more r s o fewer p t (may-allowed (game_of r) p s t m))

module _ (r : Railway) (ok : Facts r) (p : ℕ) (F : ℕ → Option ℕ) (n : ℕ) where
  pub keeps_fewer : (s o : Setting) → SamePoints r s.plus o.plus → FewerOpen s o → (t : ℕ) → may (game_of r) p s t ≡ true → Keeps (game_of r) F p o n → Keeps (game_of r) F p s n
  keeps_fewer s o same fewer t m k =
      record {
        one-may = (t, m);
        all-within = λ u mu. rw (move_same r ok s o same p u) (k.all-within u (more-may r p s o fewer u mu));
      }

  -- OF A WHOLE SETTING THAT KEEPS THE FIGURE: the same points with no signal open, and with one
  module _ (o : Setting) (k : Keeps (game_of r) F p o n) where
    pub bits_small : point_bits r o < 2 ^ r.points
    bits_small = bits_below o.plus r.points

    same_points : (opens : ℕ → Bool) → SamePoints r (setting_at r p (entry_from r (bit (point_bits r o)) opens)).plus o.plus
    same_points opens i l = setting-plus r ok.few-points (bit (point_bits r o)) opens p i l ∙ bits-plain o.plus r.points i l

    pub keeps-closed : (t : ℕ) → t < r.trains → free r p t ≡ true → Keeps (game_of r) F p (setting_at r p (entry_from r (bit (point_bits r o)) (λ u. false))) n
    keeps-closed t l f =
        let s : Setting = setting_at r p (entry_from r (bit (point_bits r o)) (λ u. false)) in
        keeps_fewer s o (same_points (λ u. false)) (λ i y. clash y (closed-open r ok.few-points (bit (point_bits r o)) p i)) t (free-may r p s t l f) k

    pub keeps-one : (t : ℕ) → t < r.trains → signal_open r p o t ≡ true → Keeps (game_of r) F p (setting_at r p (entry_from r (bit (point_bits r o)) (eqb t))) n
    unfolding signal_open
    keeps-one t l e =
        let h = and-true (held r p t) (opens_for r p o t) e in
        let s : Setting = setting_at r p (entry_from r (bit (point_bits r o)) (eqb t)) in
        let one : (i : ℕ) → s.is_open i ≡ eqb i (end_index (heads_for r p t)) = one-open r ok.few-points (bit (point_bits r o)) p t l in
        keeps_fewer s o (same_points (eqb t)) (λ i y. let z : i ≡ end_index (heads_for r p t) = eqb-true i (end_index (heads_for r p t)) (sym (one i) ∙ y) in rw z h.1) t
        (open-may r p s t l (and_both (held r p t) (opens_for r p s t) h.0 (one (end_index (heads_for r p t)) ∙ eq-eqb (end_index (heads_for r p t)) (end_index (heads_for r p t)) refl))) k
