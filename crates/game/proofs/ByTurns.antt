-- With all weights 1 totals are turns. After m turns a play that goes on has spent m, and one that has ended no more than m; so who is home after m turns has spent
-- m at most. The other way round, a total of n at home is that of the turn in which the play came home, for turns after it cost nothing; that many turns it took.
-- Figures and kept figures follow. Assumes nothing.
use mathlib.Core.Path.{◌≡◌, refl, sym, ◌∙◌, subst}
use mathlib.Core.Logic.{inl, inr}
use mathlib.Core.Bool.{true, false}
use mathlib.Core.List.{List}
use mathlib.Core.Option.{Option, none, some}
use Prim.Native.Nat.{ℕ, zero, suc, ◌+◌, ◌≤◌}
use native.Mathlib.Omega.{arith}
use lib.ListN.{length, length-append}
use Rattle.laws.proofs.Bools.{bool?, clash}
use Rattle.game.specs.Game.{Outcome, lost, at, Game, Turn, Strategy, Adversary, Position, lost_by_move, standing, mover}
use Rattle.game.specs.Game.{over, grown, stand_after, turn, step, play, cost, spent, spent_at, home_at, HomeWithin}
use Rattle.game.specs.Game.{Forced, IsFigure}
use Rattle.game.specs.Claim.{Within, figure_of, Keeps}
use Rattle.game.specs.ByTurns.{HomeInTurns, ForcedInTurns, IsTurns, Smaller, KeepsInTurns, AllOne, OneAsBefore}
use Rattle.game.proofs.Local.{may-train, mover-cases, spent-grown}

module _ {S : Type 0} (g : Game S) (one : AllOne g) where
  -- TURNS COST 1 EACH
  costs-one : (p : ℕ) (s : S) (t : ℕ) → cost g (mover g p s t) ≡ 1
  costs-one p s t = elim (mover-cases g p s t) [ inl u ↦ rw u.1 (one u.0 (may-train g p s u.0 u.2)) | inr u ↦ rw u.0 refl ]

  -- just m turns are behind a play, and it has spent m
  abbrev Just : ℕ → Position S → Type 0
  Just m lost_by_move = Unit {0}
  Just m (standing h q) = (length h ≡ m) × (spent g h ≡ m)

  -- what is so after m turns: no more than m are behind it, just m if it goes on
  record Behind (m : ℕ) (h : List (Turn S)) (q : ℕ) : Type 0 where
    most : length h ≤ m
    each : spent g h ≡ length h
    goes_on : over g q ≡ false → length h ≡ m

  abbrev After : ℕ → Position S → Type 0
  After m lost_by_move = Unit {0}
  After m (standing h q) = Behind m h q

  just-after : (m : ℕ) (x : Position S) → Just m x → After m x
  just-after m lost_by_move j = tt
  just-after m (standing h q) j = record { most = omega (arith, j.0); each = j.1 ∙ sym j.0; goes_on = λ e. j.0 }

  stands : (m : ℕ) (h : List (Turn S)) (o : Outcome) → length h ≡ m → spent g h ≡ m → Just m (stand_after g h o)
  stands m h (lost l) a b = tt
  stands m h (at q) a b = (a, b)

  turned : (m : ℕ) (h : List (Turn S)) (p : ℕ) (s : S) (o : Option ℕ) → cost g o ≡ 1 → length h ≡ m → spent g h ≡ m → Just (suc m) (turn g h p s o)
  turned m h p s o k a b = go o (longer o ∙ grows) (spent-grown g h p s o ∙ more)
    where
      grows : length h + 1 ≡ suc m
      grows = omega arith

      more : spent g h + cost g o ≡ suc m
      more = omega arith

      longer : (o : Option ℕ) → length (grown g h p s o) ≡ length h + 1
      longer o = length-append h _

      go : (o : Option ℕ) → length (grown g h p s o) ≡ suc m → spent g (grown g h p s o) ≡ suc m → Just (suc m) (turn g h p s o)
      go none a b = (a, b)
      go (some t) a b = stands (suc m) (grown g h p s (some t)) (g.next p s t) a b

  module _ (w : Strategy S) (c : Adversary S) where
    -- one more turn where the play goes on
    goes : (m : ℕ) (h : List (Turn S)) (q : ℕ) → Behind m h q → over g q ≡ false → Just (suc m) (step g w c (standing h q))
    goes m h q b o = rw o (turned m h q (w h q) (mover g q (w h q) (c h q (w h q))) (costs-one q (w h q) (c h q (w h q))) (b.goes_on o) (b.each ∙ b.goes_on o))

    steps : (m : ℕ) (x : Position S) → After m x → After (suc m) (step g w c x)
    steps m lost_by_move a = tt
    steps m (standing h q) a = elim (bool? (over g q)) [
      | inl o ↦ rw o (record { most = omega (arith, a.most); each = a.each; goes_on = λ e. clash o e })
      | inr o ↦ just-after (suc m) (step g w c (standing h q)) (goes m h q a o)
    ]

    after : (p m : ℕ) → After m (play g w c p m)
    unfolding play spent
    after p zero = record { most = omega arith; each = refl; goes_on = λ e. refl }
    after p (suc m) = steps m (play g w c p m) (after p m)

    -- WHAT IS SPENT
    totals : (p m : ℕ) (h : List (Turn S)) (q : ℕ) → play g w c p m ≡ standing h q → spent g h ≡ length h
    totals p m h q e = let b : Behind m h q = subst (After m) e (after p m) in b.each

    most-spent : (m : ℕ) (x : Position S) → After m x → spent_at g x ≤ m
    most-spent m lost_by_move a = omega arith
    most-spent m (standing h q) a = omega (arith, a.most, a.each)

    -- HOME WITHIN, from turns to totals and back
    by_total : (p n : ℕ) → HomeInTurns g w c p n → HomeWithin g w c p n
    by_total p n h = (h.0, omega (arith, h.1, most-spent h.0 (play g w c p h.0) (after p h.0)), h.2)

    just-home : (m n : ℕ) (x : Position S) → Just m x → home_at g x ≡ true → spent_at g x ≤ n → m ≤ n
    just-home m n lost_by_move j e l = clash e refl
    just-home m n (standing h q) j e l = omega (arith, j.1)

    by-turns : (p n m : ℕ) → spent_at g (play g w c p m) ≤ n → home_at g (play g w c p m) ≡ true → HomeInTurns g w c p n
    unfolding play
    by-turns p n zero l e = (0, omega arith, e)
    by-turns p n (suc m) l e = go (λ l e. by-turns p n m l e) (play g w c p m) refl (after p m) l e
      where
        go : (spent_at g (play g w c p m) ≤ n → home_at g (play g w c p m) ≡ true → HomeInTurns g w c p n)
            → (x : Position S) → play g w c p m ≡ x → After m x → spent_at g (step g w c x) ≤ n
            → home_at g (step g w c x) ≡ true → HomeInTurns g w c p n
        go sooner lost_by_move z a l e = clash e refl
        go sooner (standing h q) z a l e = elim (bool? (over g q)) [
          | inl o ↦ sooner (rw z (rw o at l)) (rw z (rw o at e))
          | inr o ↦ (suc m, just-home (suc m) n (step g w c (standing h q)) (goes m h q a o) e l, rw z e)
        ]

  -- FIGURES: forced within a total, and within turns
  forced-turns : (p n : ℕ) → Forced g p n → ForcedInTurns g p n
  forced-turns p n f = (f.0, λ c. let h = f.1 c in by-turns f.0 c p n h.0 h.1 h.2)

  forced-total : (p n : ℕ) → ForcedInTurns g p n → Forced g p n
  forced-total p n f = (f.0, λ c. by_total f.0 c p n (f.1 c))

  figure-turns : (p : ℕ) (f : Option ℕ) → IsFigure g p f → IsTurns g p f
  figure-turns p none i = λ n f. i n (forced-total p n f)
  figure-turns p (some n) i = (forced-turns p n i.0, λ m f. i.1 m (forced-total p m f))

  turns-figure : (p : ℕ) (f : Option ℕ) → IsTurns g p f → IsFigure g p f
  turns-figure p none i = λ n f. i n (forced-turns p n f)
  turns-figure p (some n) i = (forced-total p n i.0, λ m f. i.1 m (forced-turns p m f))

  -- KEPT FIGURES: smaller by 1 is smaller
  within-smaller : (n w : ℕ) (f : Option ℕ) → w ≡ 1 → Within n w f → Smaller n f
  within-smaller n w none e b = b
  within-smaller n w (some j) e b = omega arith

  smaller-within : (n w : ℕ) (f : Option ℕ) → w ≡ 1 → Smaller n f → Within n w f
  smaller-within n w none e b = b
  smaller-within n w (some j) e b = omega arith

  keeps-turns : (F : ℕ → Option ℕ) (p : ℕ) (s : S) (n : ℕ) → Keeps g F p s n → KeepsInTurns g F p s n
  keeps-turns F p s n k = record { one-may = k.one-may; all-within = λ t m. within-smaller n (g.weight t) (figure_of F (g.next p s t)) (one t (may-train g p s t m)) (k.all-within t m) }

  turns_keeps : (F : ℕ → Option ℕ) (p : ℕ) (s : S) (n : ℕ) → KeepsInTurns g F p s n → Keeps g F p s n
  turns_keeps F p s n k = record { one-may = k.one-may; all-within = λ t m. smaller-within n (g.weight t) (figure_of F (g.next p s t)) (one t (may-train g p s t m)) (k.all-within t m) }

-- WITH ALL WEIGHTS 1 ALL IS AS BEFORE
pub one-as-before : OneAsBefore
one-as-before S g one =
    record {
      totals = totals g one;
      within = λ w c p n. (λ h. by-turns g one w c p n h.0 h.1 h.2, by_total g one w c p n);
      figures = λ p f. (figure-turns g one p f, turns-figure g one p f);
      keeps = λ F p s n. (keeps-turns g one F p s n, turns_keeps g one F p s n);
    }
