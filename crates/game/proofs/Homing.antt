-- Who keeps the figures comes home in time: a way of working whose first setting keeps figure n and that gives the settings f from then on.
-- Every turn ends in a placement at home, or with a figure that what is left of the total n covers; each turn costs 1 at least. Assumes nothing.
use mathlib.Core.Path.{◌≡◌, refl, subst}
use mathlib.Core.Logic.{◌⊎◌, inl, inr}
use mathlib.Core.Bool.{true, false}
use mathlib.Core.List.{List, []}
use mathlib.Core.Option.{Option, none, some}
use Prim.Native.Nat.{ℕ, zero, suc, ◌+◌, ◌≤◌, ◌<◌}
use native.Mathlib.Omega.{arith}
use Rattle.laws.proofs.Bools.{bool?, option?, clash, some-none}
use Rattle.game.specs.Game.{Outcome, lost, at, Game, Turn, Strategy, Adversary, Position, lost_by_move, standing, may}
use Rattle.game.specs.Game.{mover, home, over, grown, stand_after, turn, step, play, home_at, spent, spent_at}
use Rattle.game.specs.Game.{HomeWithin}
use Rattle.game.specs.Claim.{Within, figure_of, Keeps}
use Rattle.game.specs.Local.{Costs, Inside}
use Rattle.game.proofs.Local.{home-over, not-over, may-train, spent-grown, no-keeps-zero, mover-cases}

module _ {S : Type 0} (g : Game S) (F : ℕ → Option ℕ) (f : ℕ → S) (costs : Costs g) (inside : Inside g)
    (lost-none : (p : ℕ) → p < g.placements → g.is_lost p ≡ true → F p ≡ none)
    (kept : (p n : ℕ) → p < g.placements → F p ≡ some n → home g p ≡ false → Keeps g F p (f p) n) where
  pub not-lost : (p n : ℕ) → p < g.placements → F p ≡ some n → g.is_lost p ≡ false
  not-lost p n h e = elim (bool? (g.is_lost p)) [ inl l ↦ some-none e (lost-none p h l) | inr l ↦ l ]

  module _ (w : Strategy S) (later : (h : List (Turn S)) (p : ℕ) (s : S) (m : Option ℕ) (q : ℕ) → w (grown g h p s m) q ≡ f q) where
    -- with a total of n: at home without more spent, or with a figure that the rest of it covers, each of m turns having cost 1 at least
    record Covered (n m q spent : ℕ) : Type 0 where
      figure : ℕ
      has : F q ≡ some figure
      covered : figure + spent ≤ n
      each : m ≤ spent

    abbrev Ahead : ℕ → ℕ → Position S → Type 0
    Ahead n m lost_by_move = ⊥
    Ahead n m (standing h q) = (q < g.placements) × (w h q ≡ f q) × (((home g q ≡ true) × (spent g h ≤ n)) ⊎ Covered n m q (spent g h))

    arrives : (n m : ℕ) (h : List (Turn S)) (q : ℕ) (s : S) (t j : ℕ) (o : Outcome) → q < g.placements → may g q s t ≡ true → g.next q s t ≡ o
        → Within j (g.weight t) (figure_of F o) → j + spent g h ≤ n → m ≤ spent g h → Ahead n (suc m) (stand_after g (grown g h q s (some t)) o)
    arrives n m h q s t j (lost l) hq e eo b le each = b
    arrives n m h q s t j (at y) hq e eo b le each = (
      inside q s t y hq e eo,
      later h q s (some t) y,
      elim (option? (F y)) [
        | inl z ↦ absurd (subst (Within j (g.weight t)) z b)
        | inr z ↦
            let b' : z.0 + g.weight t ≤ j = subst (Within j (g.weight t)) z.1 b in
            let c : 1 ≤ g.weight t = costs t (may-train g q s t e) in
            let k : spent g (grown g h q s (some t)) ≡ spent g h + g.weight t = spent-grown g h q s (some t) in
            inr (record { figure = z.0; has = z.1; covered = omega arith; each = omega arith })
      ],
    )

    -- a turn under a setting that keeps the figure, whichever train is named
    turns : (n m : ℕ) (h : List (Turn S)) (q : ℕ) (s : S) (t j : ℕ) → q < g.placements → Keeps g F q s j → j + spent g h ≤ n → m ≤ spent g h → Ahead n (suc m) (turn g h q s (mover g q s t))
    turns n m h q s t j hq k le each = elim (mover-cases g q s t) [
      | inl u ↦ rw u.1 (arrives n m h q s u.0 j (g.next q s u.0) hq u.2 refl (k.all-within u.0 u.2) le each)
      | inr u ↦ clash k.one-may.1 (u.1 k.one-may.0)
    ]

    steps : (n m : ℕ) (c : Adversary S) (x : Position S) → Ahead n m x → Ahead n (suc m) (step g w c x)
    steps n m c lost_by_move a = a
    steps n m c (standing h q) a = elim (bool? (home g q)) [
      | inl e ↦ rw (home-over (g.is_lost q) (g.is_home q) e) (a.0, a.1, inl (e, within a.2))
      | inr e ↦ elim a.2 [
        | inl e' ↦ clash e'.0 e
        | inr r ↦
            let k : Keeps g F q (w h q) r.figure = rw a.1 (kept q r.figure a.0 r.has e) in
            rw (not-over (g.is_lost q) (g.is_home q) (not-lost q r.figure a.0 r.has) e) (turns n m h q (w h q) _ r.figure a.0 k r.covered r.each)
      ]
    ]
      where
        within : ((home g q ≡ true) × (spent g h ≤ n)) ⊎ Covered n m q (spent g h) → spent g h ≤ n
        within (inl x) = x.1
        within (inr x) = omega (arith, x.covered)

    -- after n turns it is home
    arrived : (n : ℕ) (x : Position S) → Ahead n n x → (spent_at g x ≤ n) × (home_at g x ≡ true)
    arrived n lost_by_move a = absurd a
    arrived n (standing h q) a = elim a.2 [
      | inl e ↦ (e.1, e.0)
      | inr r ↦ (
        omega (arith, r.covered),
        elim (bool? (home g q)) [
          | inl e ↦ e
          | inr e ↦
              let z : r.figure ≡ 0 = omega (arith, r.covered, r.each) in
              absurd (no-keeps-zero g F costs q (f q) (subst (Keeps g F q (f q)) z (kept q r.figure a.0 r.has e)))
        ],
      )
    ]

    module _ (p n : ℕ) (hp : p < g.placements) (going : over g p ≡ false) (k : Keeps g F p (w [] p) n) (c : Adversary S) where
      ahead : (m : ℕ) → Ahead n (suc m) (play g w c p (suc m))
      unfolding play spent
      ahead zero = rw going (turns n 0 [] p (w [] p) _ n hp k (omega arith) (omega arith))
      ahead (suc m) = steps n (suc m) c (play g w c p (suc m)) (ahead m)

      pub comes_home : HomeWithin g w c p n
      comes_home = let x : (spent_at g (play g w c p n) ≤ n) × (home_at g (play g w c p n) ≡ true) = go n refl in (n, x.0, x.1)
        where
          go : (i : ℕ) → i ≡ n → (spent_at g (play g w c p n) ≤ n) × (home_at g (play g w c p n) ≡ true)
          go zero e = absurd (no-keeps-zero g F costs p (w [] p) (rw (← e) at k))
          go (suc m) e = arrived n (play g w c p n) (subst (λ (i : ℕ). Ahead n i (play g w c p i)) e (ahead m))
