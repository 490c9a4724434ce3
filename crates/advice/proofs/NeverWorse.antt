-- ONE SIGNAL MORE NEVER TAKES A FIGURE AWAY. Whoever has a signal more can leave it open for good: then the same trains
-- may move as without it, to the same ends and at the same cost. So the settings of the case, with that signal open in
-- each, keep the figures of the case, and who follows them is home within the figure of the start. Assumes nothing.
use mathlib.Core.Path.{◌≡◌, refl, sym, ◌∙◌, ap}
use mathlib.Core.Logic.{inl, inr}
use mathlib.Core.Bool.{Bool, true, false, cond, not, ◌&&◌, ◌||◌}
use mathlib.Core.List.{List}
use mathlib.Core.Option.{Option, none, some}
use Prim.Native.Nat.{ℕ, zero, suc, ◌<◌}
use native.Mathlib.Omega.{arith}
use lib.Dec.{eqb, ltb}
use lib.ListN.{set}
use lib.Seq.{get_or-set_other}
use borrow.Author.Tests.{lt-ltb, ne_eqb, eq-eqb}
use Rattle.laws.proofs.Bools.{bool?, eq?}
use Rattle.railway.specs.declared.Side.{Side}
use Rattle.railway.specs.declared.Leg.{Leg}
use Rattle.railway.specs.declared.PointNo.{PointNo}
use Rattle.railway.specs.declared.SectionNo.{SectionNo}
use Rattle.railway.specs.declared.End.{End}
use Rattle.railway.specs.declared.End.TheVariants.{Section, Port}
use Rattle.railway.specs.Joined.{Joined, Nothing, With}
use Rattle.railway.specs.declared.Railway.{Railway}
use Rattle.railway.specs.Bounds.{most_sections, section_ends}
use Rattle.railway.specs.Ends.{end_index, end_at}
use Rattle.railway.specs.Record.{flag_at, joined, is_closed, has_signal, train_of, weight_of}
use Rattle.railway.specs.Passing.{Passage, through, most_met, meeting, past_point, past_join, follow, passes, in_use, entered}
use Rattle.railway.specs.Rows.{known, record_refusal}
use Rattle.railway.proofs.Ends.{end-index, section-below}
use Rattle.game.specs.Game.{may, home, play, spent, Adversary, following, HomeWithin, Forced, IsFigure}
use Rattle.game.specs.Claim.{Keeps}
use Rattle.game.specs.Local.{Solved}
use Rattle.game.specs.Placement.{stands_on, placements, start_code, arrived, at_home, shared}
use Rattle.game.specs.Setting.{Setting, heads_for, held, free, signal_open, may_move}
use Rattle.game.specs.Moves.{occupied, enters, move_of, game_of}
use Rattle.game.proofs.Accepted.{facts}
use Rattle.game.proofs.Figures.{figure-one, figures-solved}
use Rattle.game.proofs.Homing.{not-lost, comes_home}
use Rattle.game.proofs.Moves.{inside, costs, start-below}
use Rattle.game.proofs.Local.{not-over}
use Rattle.game_tables.specs.Entries.{setting_at}
use Rattle.game_tables.specs.Tables.{IsPlanEntry}
use Rattle.game_tables.proofs.Exists.{solution}
use Rattle.advice.specs.Advising.{HasFigure, Bare, signalled, NoWorse}
use Rattle.advice.proofs.Accepting.{flagged, one_more, still-accepted}

-- WITH OTHER SIGNALS the same moves end in the same way, and cost the same
module _ (r : Railway) (flags : List Bool) where
  abbrev q : Railway
  q = flagged r flags

  point-kept : (f g : Joined → Passage) → ((j : Joined) → f j ≡ g j) → (n : PointNo) (o : Option Leg) → past_point q f n o ≡ past_point r g n o
  unfolding joined
  point-kept f g e n none = refl
  point-kept f g e n (some l) = ap (meeting n) (e (joined r (Port n l)))

  past-kept : (f g : PointNo → Leg → Passage) → ((n : PointNo) (l : Leg) → f n l ≡ g n l) → (j : Joined) → past_join f j ≡ past_join g j
  past-kept f g e Nothing = refl
  past-kept f g e (With (Section n s)) = refl
  past-kept f g e (With (Port n l)) = e n l

  follow-kept : (plus : ℕ → Bool) (k : ℕ) (j : Joined) → follow q plus k j ≡ follow r plus k j
  unfolding follow
  follow-kept plus zero j = refl
  follow-kept plus (suc k) j = past-kept _ _ (λ n l. point-kept (follow q plus k) (follow r plus k) (follow-kept plus k) n (through l (plus n.0))) j

  use_kept : (o : Option ℕ) → in_use q o ≡ in_use r o
  unfolding is_closed
  use_kept none = refl
  use_kept (some x) = refl

  entered-kept : (plus : ℕ → Bool) (e : End) → entered q plus e ≡ entered r plus e
  unfolding entered passes joined
  entered-kept plus e = use_kept (follow q plus most_met (joined r e)).reached ∙ ap (λ (w : Passage). in_use r w.reached) (follow-kept plus most_met (joined r e))

  enters-kept : (p t : ℕ) (o : Option ℕ) → enters q p t o ≡ enters r p t o
  unfolding occupied stands_on
  enters-kept p t none = refl
  enters-kept p t (some x) = refl

  heads-kept : (p t : ℕ) → heads_for q p t ≡ heads_for r p t
  unfolding heads_for stands_on train_of
  heads-kept p t = refl

  pub move-kept : (p : ℕ) (s : Setting) (t : ℕ) → move_of q p s t ≡ move_of r p s t
  unfolding move_of
  move-kept p s t = rw (heads-kept p t, entered-kept s.plus (heads_for r p t)) (enters-kept p t (entered r s.plus (heads_for r p t)))

  pub weight-kept : (t : ℕ) → weight_of q t ≡ weight_of r t
  unfolding weight_of train_of
  weight-kept t = refl

  pub arrived-kept : (p t : ℕ) → arrived q p t ≡ arrived r p t
  unfolding stands_on train_of
  arrived-kept p t = refl

  pub home-kept : (p : ℕ) → home (game_of q) p ≡ home (game_of r) p
  unfolding at_home shared stands_on train_of
  home-kept p = refl

  pub lost-kept : (p : ℕ) → shared q p ≡ shared r p
  unfolding shared stands_on
  lost-kept p = refl

-- THE SIGNAL LEFT OPEN, whatever the setting says of it
abbrev opened : ℕ → Setting → Setting
opened k s = record { plus = s.plus; is_open = λ i. eqb i k || s.is_open i }

-- a train that heads for it goes as one that is free, be there a signal or not
free-or-open : (a b o : Bool) → ((not a && not b) || ((not a && b) && true)) ≡ ((not a && not false) || ((not a && false) && o))
free-or-open true b o = refl
free-or-open false true o = refl
free-or-open false false o = refl

-- forced within n, the start has a figure, and it is no larger
no-larger : (g : Railway) (n : ℕ) (f : Option ℕ) → IsFigure (game_of g) (start_code g) f → Forced (game_of g) (start_code g) n → NoWorse n g
no-larger g n none x y = absurd (x n y)
no-larger g n (some m) x y = record { has = record { total = m; figure = x }; at-most = x.1 n y }

module _ (r : Railway) (k : ℕ) (bare : flag_at r k ≡ false) where
  abbrev more : Railway
  more = flagged r (set r.signals k true)

  no-signal-at : (e : End) → end_index e ≡ k → has_signal r e ≡ false
  unfolding has_signal
  no-signal-at e h = rw (h, bare) (none-there (ltb k section_ends))
    where
      none-there : (b : Bool) → cond b false false ≡ false
      none-there true = refl
      none-there false = refl

  other-signal : (e : End) → (end_index e ≡ k → ⊥) → has_signal more e ≡ has_signal r e
  unfolding has_signal
  other-signal e h = rw (get_or-set_other r.signals k (end_index e) true false h)

  may-ends : (p : ℕ) (s : Setting) (t : ℕ) → may_move more p (opened k s) t ≡ may_move r p s t
  unfolding may_move signal_open held free
  may-ends p s t = elim (eq? (end_index (heads_for r p t)) k) [
    | inl i ↦
        let o : eqb (end_index (heads_for r p t)) k ≡ true = eq-eqb (end_index (heads_for r p t)) k i in
        let n : has_signal r (heads_for r p t) ≡ false = no-signal-at (heads_for r p t) i in
        rw (heads-kept r (set r.signals k true) p t, arrived-kept r (set r.signals k true) p t, o, n)
        (free-or-open (arrived r p t) (has_signal more (heads_for r p t)) (s.is_open (end_index (heads_for r p t))))
    | inr i ↦
        let o : eqb (end_index (heads_for r p t)) k ≡ false = ne_eqb (end_index (heads_for r p t)) k i in
        let n : has_signal more (heads_for r p t) ≡ has_signal r (heads_for r p t) = other-signal (heads_for r p t) i in
        rw (heads-kept r (set r.signals k true) p t, arrived-kept r (set r.signals k true) p t, o, n) refl
  ]

  may-kept : (p : ℕ) (s : Setting) (t : ℕ) → may (game_of more) p (opened k s) t ≡ may (game_of r) p s t
  may-kept p s t = let e : may_move more p (opened k s) t ≡ may_move r p s t = may-ends p s t in rw e

  moves-on : (p : ℕ) (s : Setting) (t : ℕ) → move_of more p (opened k s) t ≡ move_of r p s t
  unfolding move_of
  moves-on p s t = move-kept r (set r.signals k true) p s t

  -- what keeps a figure of the case keeps it with the signal open
  keeps-more : (F : ℕ → Option ℕ) (p : ℕ) (s : Setting) (n : ℕ) → Keeps (game_of r) F p s n → Keeps (game_of more) F p (opened k s) n
  keeps-more F p s n x =
      record {
        one-may = (x.one-may.0, may-kept p s x.one-may.0 ∙ x.one-may.1);
        all-within = λ t m.
            let e : move_of more p (opened k s) t ≡ move_of r p s t = moves-on p s t in
            let w : weight_of more t ≡ weight_of r t = weight-kept r (set r.signals k true) t in
            rw (e, w) (x.all-within t (sym (may-kept p s t) ∙ m));
      }

  -- HOME WITHIN the same figure
  module _ (accepted : record_refusal r ≡ none) (accepted' : record_refusal more ≡ none) where
    abbrev F : ℕ → Option ℕ
    F = (solution r accepted).figure

    abbrev own : ℕ → Setting
    own p = setting_at r p ((solution r accepted).entry p)

    keeping : (p n : ℕ) → p < placements r → F p ≡ some (suc n) → Keeps (game_of r) F p (own p) (suc n)
    keeping p n l e = (let x : IsPlanEntry r F p (some (suc n)) ((solution r accepted).entry p) = rw e at ((solution r accepted).entries p l) in x).0.keeps

    solved : Solved (game_of r) F own
    solved = figures-solved (game_of r) F own (costs r (facts r accepted)) (inside r (facts r accepted)) (solution r accepted).figures keeping

    lost-none : (p : ℕ) → p < placements more → shared more p ≡ true → F p ≡ none
    lost-none p l y = solved.lost-none p l (sym (lost-kept r (set r.signals k true) p) ∙ y)

    kept : (p n : ℕ) → p < placements more → F p ≡ some n → home (game_of more) p ≡ false → Keeps (game_of more) F p (opened k (own p)) n
    kept p n l e h = keeps-more F p (own p) n (solved.kept p n l e (sym (home-kept r (set r.signals k true) p) ∙ h))

    works : (p n : ℕ) → p < placements more → F p ≡ some n → (c : Adversary Setting) → HomeWithin (game_of more) (following (λ x. opened k (own x))) c p n
    unfolding play spent
    works p n l e c = elim (bool? (home (game_of more) p)) [
      | inl h ↦ (0, omega arith, h)
      | inr h ↦
          let o = facts more accepted' in
          comes_home (game_of more) F (λ x. opened k (own x)) (costs more o) (inside more o) lost-none kept (following (λ x. opened k (own x))) (λ h p s m q. refl) p n l
          (not-over (shared more p) (at_home more p) (not-lost (game_of more) F (λ x. opened k (own x)) (costs more o) (inside more o) lost-none kept p n l e) h)
          (kept p n l e h) c
    ]

    forced : (n : ℕ) → IsFigure (game_of r) (start_code r) (some n) → Forced (game_of more) (start_code r) n
    forced n x =
        let l = start-below r (facts r accepted) in
        let e : F (start_code r) ≡ some n = figure-one (game_of r) (start_code r) (F (start_code r)) (some n) ((solution r accepted).figures (start_code r) l) x in
        (following (λ x. opened k (own x)), works (start_code r) n l e)

    no-worse : start_code more ≡ start_code r → (n : ℕ) → IsFigure (game_of r) (start_code r) (some n) → NoWorse n more
    no-worse e n x =
        no-larger more n ((solution more accepted').figure (start_code more)) ((solution more accepted').figures (start_code more) (start-below more (facts more accepted'))) (rw e (forced n x))

-- NEVER WORSE
pub never-worse : (r : Railway) (n : SectionNo) (s : Side) → record_refusal r ≡ none → Bare r n s → (x : HasFigure r) → NoWorse x.total (signalled r n s)
unfolding has_signal
never-worse r n s accepted b x =
    let k = end_index (Section n s) in
    let few = (facts r accepted).few-sections in
    let within : n.0 < most_sections = omega (arith, b.there) in
    let below : k < section_ends = section-below n s within in
    let there : known r (end_at k) ≡ true = rw (end-index (Section n s) within) (lt-ltb n.0 r.sections b.there) in
    let flag : flag_at r k ≡ false = rw (lt-ltb k section_ends below) at b.no-signal in
    let same : signalled r n s ≡ flagged r (set r.signals k true) = one_more r (Section n s) below there in
    let still = still-accepted r n s accepted b.there in
    let ok : record_refusal (flagged r (set r.signals k true)) ≡ none = rw same at still.accepted in
    let start : start_code (flagged r (set r.signals k true)) ≡ start_code r = rw same at still.start in
    rw same (no-worse r k flag accepted ok start x.total x.figure)
