-- The other way round: a table that has every figure, and settings that keep them, agree with every single turn. And a placement has one figure only.
-- A setting that keeps n, played first and the table's settings after it, forces home within n, so the figure is n at most. Assumes nothing.
use mathlib.Core.Path.{◌≡◌, refl, ◌∙◌}
use mathlib.Core.Logic.{◌⊎◌, inl, inr}
use mathlib.Core.Bool.{true, false}
use mathlib.Core.List.{List, [], ◌∷◌}
use mathlib.Core.Option.{Option, none, some}
use Prim.Native.Nat.{ℕ, zero, suc, ◌≤◌, ◌<◌}
use native.Mathlib.Omega.{arith}
use Rattle.laws.proofs.Bools.{bool?, option?, clash}
use Rattle.game.specs.Game.{Outcome, lost, at, Game, Turn, Strategy, Adversary, Position, lost_by_move, standing, mover}
use Rattle.game.specs.Game.{home, over, grown, stand_after, turn, step, play, cost, spent, spent_at, home_at}
use Rattle.game.specs.Game.{HomeWithin, Forced, IsFigure}
use Rattle.game.specs.Claim.{Keeps}
use Rattle.game.specs.Local.{Costs, Inside, Solved}
use Rattle.game.proofs.Local.{lost-not-home, may-train, mover-cases, spent-grown, keeps-map}
use Rattle.game.proofs.Homing.{comes_home}

-- a placement has one figure
pub figure-one : {S : Type 0} (g : Game S) (p : ℕ) (a b : Option ℕ) → IsFigure g p a → IsFigure g p b → a ≡ b
figure-one g p none none x y = refl
figure-one g p none (some n) x y = absurd (x n y.0)
figure-one g p (some m) none x y = absurd (y m x.0)
figure-one g p (some m) (some n) x y = let e : m ≡ n = omega (arith, x.1 n y.0, y.1 m x.0) in rw e

-- figures that agree at every placement are kept by the same settings
pub keeps_same : {S : Type 0} (g : Game S) (F G : ℕ → Option ℕ) → Inside g → ((q : ℕ) → q < g.placements → G q ≡ F q) → (p : ℕ) (s : S) (n : ℕ) → p < g.placements → Keeps g F p s n → Keeps g G p s n
keeps_same g F G inside same p s n l k = keeps-map g F G p s n n (λ t q j a e h b. (same q (inside p s t q l a e) ∙ h, b)) k

-- s in the first turn, f afterwards
abbrev firstly : {S : Type 0} → S → (ℕ → S) → Strategy S
firstly s f [] q = s
firstly s f (x ∷ h) q = f q

firstly-later : {S : Type 0} (g : Game S) (s : S) (f : ℕ → S) (h : List (Turn S)) (p : ℕ) (o : S) (m : Option ℕ) (q : ℕ) → firstly s f (grown g h p o m) q ≡ f q
firstly-later g s f [] p o m q = refl
firstly-later g s f (y ∷ h) p o m q = refl

module _ {S : Type 0} (g : Game S) where
  -- a play that starts where it has ended stays there
  pub ended : (w : Strategy S) (c : Adversary S) (p : ℕ) → over g p ≡ true → (m : ℕ) → play g w c p m ≡ standing [] p
  unfolding play
  ended w c p o zero = refl
  ended w c p o (suc m) = let e : play g w c p m ≡ standing [] p = ended w c p o m in rw (e, o)

  -- from where the trains are lost home is not forced; and within a total of 0 only at home
  pub lost-unforced : (p n : ℕ) → g.is_lost p ≡ true → Forced g p n → ⊥
  lost-unforced p n l x =
      let a : HomeWithin g x.0 (λ h p s. 0) p n = x.1 (λ h p s. 0) in
      let o = lost-not-home g p l in
      let e : play g x.0 (λ h p s. 0) p a.0 ≡ standing [] p = ended x.0 (λ h p s. 0) p o.1 a.0 in
      clash a.2 (rw e o.0)

  -- a play in which nothing has been spent stands where it started
  abbrev Begun : ℕ → Position S → Type 0
  Begun p lost_by_move = Unit {0}
  Begun p (standing h q) = (q ≡ p) ⊎ (1 ≤ spent g h)

  module _ (costs : Costs g) (w : Strategy S) (c : Adversary S) (p : ℕ) where
    begun-after : (h : List (Turn S)) (q : ℕ) (s : S) (m : Option ℕ) (o : Outcome) → 1 ≤ cost g m → Begun p (stand_after g (grown g h q s m) o)
    begun-after h q s m (lost x) l = tt
    begun-after h q s m (at y) l = inr (omega (arith, spent-grown g h q s m))

    begun-turn : (h : List (Turn S)) (q : ℕ) (s : S) (t : ℕ) → Begun p (turn g h q s (mover g q s t))
    begun-turn h q s t = elim (mover-cases g q s t) [
      | inl u ↦ rw u.1 (begun-after h q s (some u.0) (g.next q s u.0) (costs u.0 (may-train g q s u.0 u.2)))
      | inr u ↦ rw u.0 (inr (omega (arith, spent-grown g h q s none)))
    ]

    begun-step : (x : Position S) → Begun p x → Begun p (step g w c x)
    begun-step lost_by_move b = tt
    begun-step (standing h q) b = elim (bool? (over g q)) [
      | inl e ↦ rw e b
      | inr e ↦ rw e (begun-turn h q (w h q) (c h q (w h q)))
    ]

    begun : (m : ℕ) → Begun p (play g w c p m)
    unfolding play
    begun zero = inl refl
    begun (suc m) = begun-step (play g w c p m) (begun m)

    unspent : (x : Position S) → Begun p x → spent_at g x ≤ 0 → home_at g x ≡ true → home g p ≡ true
    unspent lost_by_move b l e = clash e refl
    unspent (standing h q) (inl z) l e = rw z at e
    unspent (standing h q) (inr b) l e = absurd (omega arith)

  pub forced-zero : Costs g → (p : ℕ) → Forced g p 0 → home g p ≡ true
  forced-zero costs p x =
      let a : HomeWithin g x.0 (λ h p s. 0) p 0 = x.1 (λ h p s. 0) in
      unspent costs x.0 (λ h p s. 0) p (play g x.0 (λ h p s. 0) p a.0)
      (begun costs x.0 (λ h p s. 0) p a.0) a.1 a.2

  pub home-forced : S → (p : ℕ) → home g p ≡ true → Forced g p 0
  unfolding play spent
  home-forced s p e = ((λ h q. s), λ c. (0, omega arith, e))

module _ {S : Type 0} (g : Game S) (F : ℕ → Option ℕ) (f : ℕ → S) (costs : Costs g) (inside : Inside g)
    (figures : (p : ℕ) → p < g.placements → IsFigure g p (F p))
    (keeping : (p n : ℕ) → p < g.placements → F p ≡ some (suc n) → Keeps g F p (f p) (suc n)) where
  has : (p : ℕ) (o : Option ℕ) → p < g.placements → F p ≡ o → IsFigure g p o
  has p o hp e = rw e at (figures p hp)

  lost-none : (p : ℕ) → p < g.placements → g.is_lost p ≡ true → F p ≡ none
  lost-none p hp e = elim (option? (F p)) [ inl x ↦ x | inr x ↦ absurd (lost-unforced g p x.0 e (has p (some x.0) hp x.1).0) ]

  -- where home is forced within n there is a figure, n at most
  least : (p n : ℕ) → p < g.placements → Forced g p n → (j : ℕ) × (F p ≡ some j) × (j ≤ n)
  least p n hp x = elim (option? (F p)) [ inl y ↦ absurd (has p none hp y n x) | inr y ↦ (y.0, y.1, (has p (some y.0) hp y.1).1 n x) ]

  home-zero : (p : ℕ) → p < g.placements → home g p ≡ true → F p ≡ some 0
  home-zero p hp e =
      let l : (j : ℕ) × (F p ≡ some j) × (j ≤ 0) = least p 0 hp (home-forced g (f p) p e) in
      let z : l.0 ≡ 0 = omega arith in
      rw z at l.1

  kept : (p n : ℕ) → p < g.placements → F p ≡ some n → home g p ≡ false → Keeps g F p (f p) n
  kept p zero hp e h = clash (forced-zero g costs p (has p (some 0) hp e).0) h
  kept p (suc n) hp e h = keeping p n hp e

  pub figures-solved : Solved g F f
  figures-solved =
      record {
        lost-none = lost-none;
        home-zero = home-zero;
        kept = kept;
        least = λ p s n hp going k. least p n hp (firstly s f, comes_home g F f costs inside lost-none kept (firstly s f) (firstly-later g s f) p n hp going k);
      }
