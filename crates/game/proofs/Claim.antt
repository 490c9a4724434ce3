-- THE THEOREM: tables that agree with every single turn are right for whole plays.
-- Who follows the settings loses from the figure each turn what the turn costs, so is home within it. Against him stands the choice that moves, of the
-- trains that may, one whose weight and the figure its move ends in make the largest sum, none counting as the largest: under it a figure falls in a turn by
-- no more than the turn costs, and none stays none.
-- Assumes nothing.
use mathlib.Core.Path.{◌≡◌, refl, sym, ◌∙◌, ap, subst, fun_ext}
use mathlib.Core.Logic.{◌⊎◌, inl, inr}
use mathlib.Core.Bool.{Bool, true, false, cond}
use mathlib.Core.List.{List}
use mathlib.Core.Option.{Option, none, some, map}
use Prim.Native.Nat.{ℕ, zero, suc, ◌+◌, ◌≤◌, ◌<◌}
use native.Mathlib.Omega.{arith}
use Rattle.laws.proofs.Bools.{bool?, option?, lt?, clash, some_one}
use Rattle.laws.proofs.Below.{upto}
use Rattle.game.specs.Game.{Outcome, lost, at, Game, Turn, Strategy, Adversary, following, positional, Position}
use Rattle.game.specs.Game.{lost_by_move, standing, may, mover, home, over, stand_after, step, play, home_at, grown}
use Rattle.game.specs.Game.{spent, spent_at, HomeWithin, ComesHome, Beats, IsFigure}
use Rattle.game.specs.Claim.{Within, figure_of, Keeps, Decides, Alike, OneAdversary, Whole}
use Rattle.game.specs.Local.{Costs, Inside, Solved}
use Rattle.game.proofs.Local.{not-over, may-train, spent-grown, mover-cases}
use Rattle.game.proofs.Homing.{not-lost, comes_home}

-- PART ONE: who follows f comes home in time.
module _ {S : Type 0} (g : Game S) (F : ℕ → Option ℕ) (f : ℕ → S) (costs : Costs g) (inside : Inside g) (ok : Solved g F f) where
  pub follows : (p n : ℕ) → p < g.placements → F p ≡ some n → (c : Adversary S) → HomeWithin g (following f) c p n
  unfolding play spent
  follows p n hp e c = elim (bool? (home g p)) [
    | inl h ↦ (0, omega arith, h)
    | inr h ↦
        comes_home g F f costs inside ok.lost-none ok.kept (following f) (λ h p s m q. refl) p n hp
        (not-over (g.is_lost p) (g.is_home p) (not-lost g F f costs inside ok.lost-none ok.kept p n hp e) h)
        (ok.kept p n hp e h) c
  ]

-- FIGURES IN ORDER, none the largest.
abbrev AtMost : Option ℕ → Option ℕ → Type 0
AtMost a none = Unit {0}
AtMost none (some j) = ⊥
AtMost (some i) (some j) = i ≤ j

at-most-refl : (a : Option ℕ) → AtMost a a
at-most-refl none = tt
at-most-refl (some i) = omega arith

at-most-total : (a b : Option ℕ) → AtMost a b ⊎ AtMost b a
at-most-total a none = inl tt
at-most-total none (some j) = inr tt
at-most-total (some i) (some j) = elim (lt? i j) [ inl l ↦ inl (omega arith) | inr l ↦ inr l ]

at-most-trans : (a b c : Option ℕ) → AtMost a b → AtMost b c → AtMost a c
at-most-trans a b none p q = tt
at-most-trans a none (some k) p q = absurd q
at-most-trans none (some j) (some k) p q = absurd p
at-most-trans (some i) (some j) (some k) p q = omega arith

-- Of the numbers below k that pass a test, one of the largest value, unless none passes.
record Largest (f : ℕ → Bool) (v : ℕ → Option ℕ) (k : ℕ) : Type 0 where
  one : ℕ
  below : one < k
  passes : f one ≡ true
  tops : (u : ℕ) → u < k → f u ≡ true → AtMost (v u) (v one)

abbrev Search : (ℕ → Bool) → (ℕ → Option ℕ) → ℕ → Type 0
Search f v k = ((u : ℕ) → u < k → f u ≡ false) ⊎ Largest f v k

module _ (f : ℕ → Bool) (v : ℕ → Option ℕ) where
  -- the largest so far stays, or the new one takes its place
  old-stays : (k : ℕ) (r : Largest f v k) → (f k ≡ true → AtMost (v k) (v r.one)) → Largest f v (suc k)
  old-stays k r b =
      record {
        one = r.one;
        below = omega (arith, r.below);
        passes = r.passes;
        tops = upto (λ u. f u ≡ true → AtMost (v u) (v r.one)) r.tops b;
      }

  new-comes : (k : ℕ) → f k ≡ true → ((u : ℕ) → u < k → f u ≡ true → AtMost (v u) (v k)) → Largest f v (suc k)
  new-comes k e b = record { one = k; below = omega arith; passes = e; tops = upto (λ u. f u ≡ true → AtMost (v u) (v k)) b (λ a. at-most-refl (v k)) }

  largest : (k : ℕ) → Search f v k
  largest zero = inl (λ u h. absurd (omega arith))
  largest (suc k) =
      elim (bool? (f k)) [
        | inr e ↦ elim (largest k) [
          | inl r ↦ inl (upto (λ u. f u ≡ false) r e)
          | inr r ↦ inr (old-stays k r (λ a. clash a e))
        ]
        | inl e ↦ elim (largest k) [
          | inl r ↦ inr (new-comes k e (λ u l a. clash a (r u l)))
          | inr r ↦ elim (at-most-total (v k) (v r.one)) [
            | inl b ↦ inr (old-stays k r (λ a. b))
            | inr b ↦ inr (new-comes k e (λ u l a. at-most-trans (v u) (v r.one) (v k) (r.tops u l a) b))
          ]
        ]
      ]

-- the one found; 0 where there is none
abbrev one-of : {f : ℕ → Bool} {v : ℕ → Option ℕ} {k : ℕ} → Search f v k → ℕ
one-of (inl r) = 0
one-of (inr r) = r.one

-- PART TWO: the choice of trains against which no way of working does better than the figure.
module _ {S : Type 0} (g : Game S) (F : ℕ → Option ℕ) where
  -- the figure that a move ends in, with its weight; a train that may not move has nothing to show
  abbrev dear : ℕ → Outcome → Option ℕ
  dear t o = map (λ j. j + g.weight t) (figure_of F o)

  value : ℕ → S → ℕ → Option ℕ
  value p s t = cond (may g p s t) (dear t (g.next p s t)) none

  value-may : (p : ℕ) (s : S) (t : ℕ) → may g p s t ≡ true → value p s t ≡ dear t (g.next p s t)
  unfolding value
  value-may p s t e = rw e

  worst-search : (p : ℕ) (s : S) → Search (may g p s) (value p s) g.trains
  worst-search p s = largest (may g p s) (value p s) g.trains

  -- a train that may move and whose move leads to the largest figure
  worst : ℕ → S → ℕ
  worst p s = one-of (worst-search p s)

  record Worst (p : ℕ) (s : S) : Type 0 where
    moves : may g p s (worst p s) ≡ true
    tops : (u : ℕ) → may g p s u ≡ true → AtMost (dear u (g.next p s u)) (dear (worst p s) (g.next p s (worst p s)))

  worst-cases : (p : ℕ) (s : S) → ((u : ℕ) → may g p s u ≡ false) ⊎ Worst p s
  unfolding worst
  worst-cases p s = go (worst-search p s) refl
    where
      go : (x : Search (may g p s) (value p s) g.trains) → worst-search p s ≡ x → ((u : ℕ) → may g p s u ≡ false) ⊎ Worst p s
      go (inl r) e = inl (λ u. elim (bool? (may g p s u)) [ inl m ↦ r u (may-train g p s u m) | inr m ↦ m ])
      go (inr r) e =
          let w : worst p s ≡ r.one = ap one-of e in
          inr (record { moves = rw w r.passes; tops = λ u m. rw (w, ← value-may p s u m, ← value-may p s r.one r.passes) (r.tops u (may-train g p s u m) m) })

  worst-there : (p : ℕ) (s : S) → 0 < g.trains → worst p s < g.trains
  unfolding worst
  worst-there p s l = go (worst-search p s)
    where
      go : (x : Search (may g p s) (value p s) g.trains) → one-of x < g.trains
      go (inl r) = l
      go (inr r) = r.below

  worst-moves : (p : ℕ) (s : S) (t : ℕ) → may g p s t ≡ true → may g p s (worst p s) ≡ true
  worst-moves p s t e = elim (worst-cases p s) [ inl n ↦ clash e (n t) | inr w ↦ w.moves ]

  -- the search looks at nothing but who may move, and to which end
  worst-alike : (p : ℕ) (s o : S) → Alike g p s o → worst p s ≡ worst p o
  unfolding worst worst-search value
  worst-alike p s o a =
      let m : may g p s ≡ may g p o = fun_ext a.same-trains in
      let v : value p s ≡ value p o = fun_ext same in
      same-one (may g p s) (may g p o) (value p s) (value p o) m v
    where
      same : (t : ℕ) → value p s t ≡ value p o t
      same t = elim (bool? (may g p s t)) [
        | inl e ↦ rw (e, ← a.same-trains t, e) (ap (dear t) (a.same_ends t e))
        | inr e ↦ rw (e, ← a.same-trains t, e)
      ]

      same-one : (f f' : ℕ → Bool) (v v' : ℕ → Option ℕ) → f ≡ f' → v ≡ v' → one-of (largest f v g.trains) ≡ one-of (largest f' v' g.trains)
      same-one f f' v v' p q = rw (p, q)

-- A bound on figures by what has been spent, that a turn against the worst train keeps.
record Bound (R : ℕ → Option ℕ → Type 0) : Type 0 where
  off : (m : ℕ) → R m none
  stay : (m : ℕ) (f : Option ℕ) → R m f → R (m + 1) f
  drop : (m w i j : ℕ) → R m (some i) → i ≤ j + w → R (m + w) (some j)

module _ {S : Type 0} (g : Game S) (F : ℕ → Option ℕ) (f : ℕ → S) (inside : Inside g) (ok : Solved g F f) (R : ℕ → Option ℕ → Type 0) (bound : Bound R) where
  abbrev Behind : Position S → Type 0
  Behind lost_by_move = Unit {0}
  Behind (standing h q) = (q < g.placements) × R (spent g h) (F q)

  abbrev against : Adversary S
  against = positional (worst g F)

  under : (a : Option ℕ) (v j : ℕ) → AtMost (map (λ i. i + v) a) (some j) → Within j v a
  under none v j b = b
  under (some i) v j b = b

  behind-move : (h : List (Turn S)) (q : ℕ) (s : S) (t : ℕ) (o : Outcome) → q < g.placements → over g q ≡ false → may g q s t ≡ true → g.next q s t ≡ o
      → ((u : ℕ) → may g q s u ≡ true → AtMost (dear g F u (g.next q s u)) (dear g F t o)) → R (spent g h) (F q) → Behind (stand_after g (grown g h q s (some t)) o)
  behind-move h q s t (lost x) hq ho e eo top r = tt
  behind-move h q s t (at q') hq ho e eo top r = (
    inside q s t q' hq e eo,
    rw (spent-grown g h q s (some t)) (elim (option? (F q')) [
      | inl f ↦ rw f (bound.off (spent g h + g.weight t))
      | inr f ↦
          let worth : dear g F t (at q') ≡ some (f.0 + g.weight t) = rw f.1 in
          let k : Keeps g F q s (f.0 + g.weight t) = record {
            one-may = (t, e);
            all-within = λ u a. under (figure_of F (g.next q s u)) (g.weight u) (f.0 + g.weight t) (subst (AtMost (dear g F u (g.next q s u))) worth (top u a));
          } in
          let l : (j : ℕ) × (F q ≡ some j) × (j ≤ f.0 + g.weight t) = ok.least q s (f.0 + g.weight t) hq ho k in
          rw f.1 (bound.drop (spent g h) (g.weight t) l.0 f.0 (rw l.1 at r) l.2)
    ]),
  )

  mover-none : (q : ℕ) (s : S) (t : ℕ) → ((u : ℕ) → may g q s u ≡ false) → mover g q s t ≡ none
  mover-none q s t n = elim (mover-cases g q s t) [ inl r ↦ clash r.2 (n r.0) | inr r ↦ r.0 ]

  behind-idle : (h : List (Turn S)) (q : ℕ) (s : S) → q < g.placements → R (spent g h) (F q) → Behind (standing (grown g h q s none) q)
  behind-idle h q s hq r = (hq, rw (spent-grown g h q s none) (bound.stay (spent g h) (F q) r))

  behind-step : (w : Strategy S) (x : Position S) → Behind x → Behind (step g w against x)
  behind-step w lost_by_move b = tt
  behind-step w (standing h q) b = elim (bool? (over g q)) [
    | inl e ↦ rw e b
    | inr e ↦ rw e (elim (worst-cases g F q (w h q)) [
      | inl u ↦ rw (mover-none q (w h q) (worst g F q (w h q)) u) (behind-idle h q (w h q) b.0 b.1)
      | inr u ↦ rw u.moves (behind-move h q (w h q) (worst g F q (w h q)) (g.next q (w h q) (worst g F q (w h q))) b.0 e u.moves refl u.tops b.1)
    ])
  ]

  behind : (w : Strategy S) (p : ℕ) → p < g.placements → R 0 (F p) → (m : ℕ) → Behind (play g w against p m)
  unfolding play spent
  behind w p hp r zero = (hp, r)
  behind w p hp r (suc m) = behind-step w (play g w against p m) (behind w p hp r m)

  -- who is home has the bound of figure 0 by what was spent
  behind-home : (x : Position S) → Behind x → home_at g x ≡ true → R (spent_at g x) (some 0)
  behind-home lost_by_move b e = clash e refl
  behind-home (standing h q) b e = rw (ok.home-zero q b.0 e) at b.1

  never-sooner : (w : Strategy S) (p : ℕ) → p < g.placements → R 0 (F p) → (m : ℕ) → home_at g (play g w against p m) ≡ true → R (spent_at g (play g w against p m)) (some 0)
  never-sooner w p hp r m e = behind-home (play g w against p m) (behind w p hp r m) e

-- The two bounds: the figure and what was spent make n at least; there is no figure.
abbrev AtLeast : ℕ → ℕ → Option ℕ → Type 0
AtLeast n m none = Unit {0}
AtLeast n m (some j) = n ≤ j + m

at_least : (n : ℕ) → Bound (AtLeast n)
at_least n = record { off = λ m. tt; stay = stays; drop = λ m w i j a l. omega arith }
  where
    stays : (m : ℕ) (f : Option ℕ) → AtLeast n m f → AtLeast n (m + 1) f
    stays m none a = tt
    stays m (some j) a = omega arith

abbrev NoFigure : ℕ → Option ℕ → Type 0
NoFigure m none = Unit {0}
NoFigure m (some j) = ⊥

no-figure : Bound NoFigure
no-figure = record { off = λ m. tt; stay = stays; drop = λ m w i j a l. a }
  where
    stays : (m : ℕ) (f : Option ℕ) → NoFigure m f → NoFigure (m + 1) f
    stays m none a = tt
    stays m (some j) a = a

module _ {S : Type 0} (g : Game S) (F : ℕ → Option ℕ) (f : ℕ → S) (costs : Costs g) (inside : Inside g) (ok : Solved g F f) where
  abbrev worst-choice : Adversary S
  worst-choice = positional (worst g F)

  not-sooner : (w : Strategy S) (p n m : ℕ) → p < g.placements → F p ≡ some n → m < n → ¬ (HomeWithin g w worst-choice p m)
  not-sooner w p n m hp e l r =
      let b : AtLeast n 0 (F p) = rw e (omega arith) in
      let z : n ≤ 0 + spent_at g (play g w worst-choice p r.0) = never-sooner g F f inside ok (AtLeast n) (at_least n) w p hp b r.0 r.2 in
      omega (arith, r.1)

  beaten : (w : Strategy S) (p : ℕ) → p < g.placements → F p ≡ none → Beats g worst-choice w p
  beaten w p hp e m = elim (bool? (home_at g (play g w worst-choice p m))) [
    | inl y ↦ absurd (never-sooner g F f inside ok NoFigure no-figure w p hp (rw e tt) m y)
    | inr n ↦ n
  ]

  figures : (p : ℕ) → p < g.placements → (o : Option ℕ) → F p ≡ o → IsFigure g p o
  figures p hp none e = λ n r. let h : HomeWithin g r.0 worst-choice p n = r.1 worst-choice in clash h.2 (beaten r.0 p hp e h.0)
  figures p hp (some n) e = (
    (following f, follows g F f costs inside ok p n hp e),
    λ m r. elim (lt? m n) [ inl l ↦ absurd (not-sooner r.0 p n m hp e l (r.1 worst-choice)) | inr l ↦ l ],
  )

  decides : (p n : ℕ) (s : S) → p < g.placements → over g p ≡ false → F p ≡ some n → Keeps g F p s n → Decides g F p s n
  decides p n s hp going e k = elim (worst-cases g F p s) [
    | inl u ↦ clash k.one-may.1 (u k.one-may.0)
    | inr u ↦
        let t : ℕ = worst g F p s in
        elim (option? (figure_of F (g.next p s t))) [
          | inl z ↦ absurd (subst (Within n (g.weight t)) z (k.all-within t u.moves))
          | inr z ↦
              let worth : dear g F t (g.next p s t) ≡ some (z.0 + g.weight t) = ap (map (λ j. j + g.weight t)) z.1 in
              let k' : Keeps g F p s (z.0 + g.weight t) = record {
                one-may = (t, u.moves);
                all-within = λ v a.
                    under g F f inside ok NoFigure no-figure (figure_of F (g.next p s v)) (g.weight v) (z.0 + g.weight t)
                    (subst (AtMost (dear g F v (g.next p s v))) worth (u.tops v a));
              } in
              let l : (j : ℕ) × (F p ≡ some j) × (j ≤ z.0 + g.weight t) = ok.least p s (z.0 + g.weight t) hp going k' in
              let b : z.0 + g.weight t ≤ n = subst (Within n (g.weight t)) z.1 (k.all-within t u.moves) in
              let same : n ≡ l.0 = some_one (sym e ∙ l.1) in
              record { train = t; moves = u.moves; figure = z.0; ends = z.1; makes = omega (arith, l.2) }
        ]
  ]

  none_only : (p : ℕ) → p < g.placements → (o : Option ℕ) → F p ≡ o → ((w : Strategy S) → ¬ ((c : Adversary S) → ComesHome g w c p)) → F p ≡ none
  none_only p hp none e no_way = e
  none_only p hp (some n) e no_way = absurd (no_way (following f) (λ c. let h : HomeWithin g (following f) c p n = follows g F f costs inside ok p n hp e c in (h.0, h.2)))

  pub one-adversary : OneAdversary g (λ p. F p ≡ none)
  one-adversary = record { named = worst g F; there = worst-there g F; moves = worst-moves g F; alike = worst-alike g F; beats = beaten }

  pub whole : Whole g F f
  whole =
      record {
        figures = λ p hp. figures p hp (F p) refl;
        follow = follows g F f costs inside ok;
        not-sooner = λ w p n hp e. (worst-choice, λ m l. not-sooner w p n m hp e l);
        decided = decides;
        none-exactly = λ p hp. (
          (λ e w all. let h : ComesHome g w worst-choice p = all worst-choice in clash h.1 (beaten w p hp e h.0)),
          none_only p hp (F p) refl,
        );
        one-adversary = one-adversary;
      }
