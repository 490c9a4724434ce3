-- The test of a plan. Computed it is true exactly if the plan passes; plans that list the same pass together; and whoever follows one that
-- passes is home in time, for the figure listed falls at every turn by what it costs at least. Assumes nothing.
use mathlib.Core.Path.{◌≡◌, refl, sym, ◌∙◌, ap, subst}
use mathlib.Core.Logic.{inl, inr}
use mathlib.Core.Bool.{Bool, true, false, not, ◌&&◌, ◌||◌}
use mathlib.Core.Option.{Option, none, some}
use Prim.Native.Nat.{ℕ, ◌<◌}
use native.Mathlib.Omega.{arith}
use borrow.Author.Tests.{eqb-true, eq-eqb, not-true}
use Rattle.laws.specs.Below.{all_below}
use Rattle.laws.proofs.Bools.{bool?, option?, clash, either, or_left, or_right, and-true, and_both}
use Rattle.laws.proofs.Below.{all-at, all_of}
use Rattle.railway.specs.declared.Railway.{Railway}
use Rattle.game.specs.Game.{Outcome, Game, Adversary, following, may, home, over, play, spent, HomeWithin}
use Rattle.game.specs.Claim.{Within, figure_of, Keeps, Alike}
use Rattle.game.specs.Local.{keeps_test}
use Rattle.game.specs.Placement.{placements, start_code, at_home, shared}
use Rattle.game.specs.Setting.{Setting, SameSetting, held}
use Rattle.game.specs.Moves.{game_of}
use Rattle.game.proofs.Local.{keeps-test, test-keeps, over-cases}
use Rattle.game.proofs.Figures.{keeps_same}
use Rattle.game.proofs.Accepted.{Facts, facts}
use Rattle.game.proofs.Moves.{inside, costs, start-below}
use Rattle.game.proofs.Setting.{alike}
use Rattle.game.proofs.Homing.{comes_home}
use Rattle.game_tables.proofs.Entries.{open-same}
use Rattle.plan.specs.Test.{Listing, listed_setting, Test}
use Rattle.plan.specs.Computed.{is_figure, train_signalled, listed_passes, passes_if, placement_passes, test_holds}
use Rattle.plan.specs.Checked.{TestComputed, PlanWorks}

is-figure : (m : ℕ) (o : Option ℕ) → is_figure m o ≡ true → o ≡ some m
is-figure m none e = clash e refl
is-figure m (some n) e = ap {B = Option ℕ} some (eqb-true n m e)

figure-is : (m : ℕ) (o : Option ℕ) → o ≡ some m → is_figure m o ≡ true
figure-is m o e = rw e (eq-eqb m m refl)

module _ (r : Railway) (L : Listing) where
  -- a listed placement, sentence by sentence
  record PlacementTest (p n : ℕ) : Type 0 where
    apart : shared r p ≡ false
    signalled : (t : ℕ) → t < r.trains → L.opens p t ≡ true → held r p t ≡ true
    kept : at_home r p ≡ false → Keeps (game_of r) L.figure p (listed_setting r L p) n

  listed-test : (p n : ℕ) → listed_passes r L p n ≡ true → PlacementTest p n
  listed-test p n e =
      let k : Bool = keeps_test (game_of r) L.figure p (listed_setting r L p) n in
      let a = and-true (not (shared r p)) (all_below (train_signalled r L p) r.trains && (at_home r p || k)) e in
      let b = and-true (all_below (train_signalled r L p) r.trains) (at_home r p || k) a.1 in
      record {
        apart = not-true (shared r p) a.0;
        signalled = λ t l o. elim (either (not (L.opens p t)) (held r p t) (all-at (train_signalled r L p) r.trains b.0 t l)) [ inl y ↦ clash o (not-true (L.opens p t) y) | inr y ↦ y ];
        kept = λ h. elim (either (at_home r p) k b.1) [ inl y ↦ clash y h | inr y ↦ test-keeps (game_of r) L.figure p (listed_setting r L p) n y ];
      }

  test-listed : (p n : ℕ) → PlacementTest p n → listed_passes r L p n ≡ true
  test-listed p n f =
      let k : Bool = keeps_test (game_of r) L.figure p (listed_setting r L p) n in
      and_both (not (shared r p)) (all_below (train_signalled r L p) r.trains && (at_home r p || k)) (rw f.apart)
      (and_both (all_below (train_signalled r L p) r.trains) (at_home r p || k)
      (all_of (train_signalled r L p) r.trains (λ t l. elim (bool? (L.opens p t)) [
        | inl o ↦ or_right (not (L.opens p t)) (held r p t) (f.signalled t l o)
        | inr o ↦ or_left (not (L.opens p t)) (held r p t) (rw o)
      ]))
      (elim (bool? (at_home r p)) [
        | inl h ↦ or_left (at_home r p) k h
        | inr h ↦ or_right (at_home r p) k (keeps-test (game_of r) L.figure p (listed_setting r L p) n (f.kept h))
      ]))

  module _ (m : ℕ) where
    of_test : Test r m L → test_holds r m L ≡ true
    unfolding test_holds placement_passes
    of_test t =
        and_both (is_figure m (L.figure (start_code r))) (all_below (placement_passes r L) (placements r))
        (figure-is m (L.figure (start_code r)) t.start)
        (all_of (placement_passes r L) (placements r) (λ p l. elim (option? (L.figure p)) [
          | inl f ↦ rw f
          | inr f ↦ subst (λ (o : Option ℕ). passes_if r L p o ≡ true) (sym f.1)
              (test-listed p f.0 (record { apart = t.apart p f.0 l f.1; signalled = λ u k o. t.signalled p f.0 u l f.1 k o; kept = λ h. t.kept p f.0 l f.1 h }))
        ]))

    test_of : test_holds r m L ≡ true → Test r m L
    unfolding test_holds placement_passes
    test_of e =
        let a = and-true (is_figure m (L.figure (start_code r))) (all_below (placement_passes r L) (placements r)) e in
        record {
          start = is-figure m (L.figure (start_code r)) a.0;
          apart = λ p n l f. (each a.1 p n l f).apart;
          signalled = λ p n t l f k o. (each a.1 p n l f).signalled t k o;
          kept = λ p n l f h. (each a.1 p n l f).kept h;
        }
      where
        each : all_below (placement_passes r L) (placements r) ≡ true → (p n : ℕ) → p < placements r → L.figure p ≡ some n → PlacementTest p n
        each a p n l f = listed-test p n (subst (λ (o : Option ℕ). passes_if r L p o ≡ true) f (all-at (placement_passes r L) (placements r) a p l))

-- COMPUTED, the test is true exactly if the plan passes
pub tested : TestComputed
tested r L m = (test_of r L m, of_test r L m)

-- PLANS THAT LIST THE SAME, at the placements, trains and points that are there
pub record SameListing (r : Railway) (L M : Listing) : Type 0 where
  pub figures : (p : ℕ) → p < placements r → L.figure p ≡ M.figure p
  pub opens : (p t : ℕ) → p < placements r → t < r.trains → L.opens p t ≡ M.opens p t
  pub plus : (p n : ℕ) → p < placements r → n < r.points → L.plus p n ≡ M.plus p n

pub listing-back : (r : Railway) (L M : Listing) → SameListing r L M → SameListing r M L
listing-back r L M s =
    record {
      figures = λ p l. sym (s.figures p l);
      opens = λ p t l k. sym (s.opens p t l k);
      plus = λ p n l k. sym (s.plus p n l k);
    }

keeps-alike : {S : Type 0} (g : Game S) (F : ℕ → Option ℕ) (p : ℕ) (s o : S) (n : ℕ) → Alike g p s o → Keeps g F p s n → Keeps g F p o n
keeps-alike g F p s o n a k =
    record {
      one-may = (k.one-may.0, sym (a.same-trains k.one-may.0) ∙ k.one-may.1);
      all-within = λ t m. let y : may g p s t ≡ true = a.same-trains t ∙ m in subst (λ (x : Outcome). Within n (g.weight t) (figure_of F x)) (a.same_ends t y) (k.all-within t y);
    }

module _ (r : Railway) (ok : Facts r) (L M : Listing) (same : SameListing r L M) where
  same-setting : (p : ℕ) → p < placements r → SameSetting r (listed_setting r L p) (listed_setting r M p)
  unfolding listed_setting
  same-setting p l =
      record {
        points = λ n k. same.plus p n l k;
        signals = λ i k f. open-same r p (L.opens p) (M.opens p) (λ t h. same.opens p t l h) i;
      }

  pub test-same : (m : ℕ) → Test r m L → Test r m M
  test-same m t =
      record {
        start = sym (same.figures (start_code r) (start-below r ok)) ∙ t.start;
        apart = λ p n l f. t.apart p n l (same.figures p l ∙ f);
        signalled = λ p n u l f k o. t.signalled p n u l (same.figures p l ∙ f) k (same.opens p u l k ∙ o);
        kept = λ p n l f h. keeps-alike (game_of r) M.figure p (listed_setting r L p) (listed_setting r M p) n
            (alike r ok (listed_setting r L p) (listed_setting r M p) (same-setting p l) p)
            (keeps_same (game_of r) L.figure M.figure (inside r ok) (λ q lq. sym (same.figures q lq)) p (listed_setting r L p) n l (t.kept p n l (same.figures p l ∙ f) h));
      }

-- WHOEVER FOLLOWS a plan that passes is home within the first line's figure
module _ (r : Railway) (ok : Facts r) (m : ℕ) (L : Listing) (t : Test r m L) where
  lost-none : (p : ℕ) → p < placements r → shared r p ≡ true → L.figure p ≡ none
  lost-none p l y = elim (option? (L.figure p)) [ inl f ↦ f | inr f ↦ clash y (t.apart p f.0 l f.1) ]

  kept : (p n : ℕ) → p < placements r → L.figure p ≡ some n → home (game_of r) p ≡ false → Keeps (game_of r) L.figure p (listed_setting r L p) n
  kept p n l f h = t.kept p n l f (let a : shared r p ≡ false = t.apart p n l f in rw a at h)

  pub works : (c : Adversary Setting) → HomeWithin (game_of r) (following (listed_setting r L)) c (start_code r) m
  unfolding play spent
  works c = elim (bool? (over (game_of r) (start_code r))) [
    | inl y ↦ elim (over-cases (shared r (start_code r)) (at_home r (start_code r)) y) [
      | inl z ↦ clash z (t.apart (start_code r) m (start-below r ok) t.start)
      | inr z ↦ (0, omega arith, z)
    ]
    | inr y ↦ comes_home (game_of r) L.figure (listed_setting r L) (costs r ok) (inside r ok) lost-none kept (following (listed_setting r L)) (λ h p s u q. refl) (start_code r) m (start-below r ok) y
        (kept (start_code r) m (start-below r ok) t.start (not_home (shared r (start_code r)) (at_home r (start_code r)) y)) c
  ]
    where
      not_home : (a b : Bool) → (a || b) ≡ false → (not a && b) ≡ false
      not_home true b e = refl
      not_home false b e = e

pub plan-works : PlanWorks
plan-works r a m L t = works r (facts r a) m L t
