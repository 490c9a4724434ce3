-- How the tables of a small yard are proved by computation: tables that pass a test made at every placement are filled tables. The test
-- searches: where a figure stands, its number finds the table's entry and the number before it finds nothing; where none stands, no number
-- that a table can hold finds anything. As the search misses no whole setting, such tables agree with every single turn, and what it finds
-- is the plan's entry. Assumes nothing.
use mathlib.Core.Path.{◌≡◌, refl}
use mathlib.Core.Logic.{inl, inr}
use mathlib.Core.Bool.{Bool, true, false, cond, not, ◌&&◌}
use mathlib.Core.List.{List}
use mathlib.Core.Option.{Option, none, some}
use Prim.Native.Nat.{ℕ, zero, suc, ◌+◌, ◌≤◌, ◌<◌}
use native.Mathlib.Omega.{arith}
use lib.ListN.{get_or}
use lib.Dec.{eqb, leb}
use borrow.Author.Tests.{eqb-true, eq-eqb, leb-true}
use Rattle.laws.specs.Below.{all_below}
use Rattle.laws.proofs.Bools.{bool?, lt?, clash, some-none, and-true}
use Rattle.laws.proofs.Below.{all-at}
use Rattle.railway.specs.declared.Railway.{Railway}
use Rattle.railway.specs.Record.{weight_of}
use Rattle.railway.specs.Rows.{record_refusal}
use Rattle.game.specs.Game.{home, over}
use Rattle.game.specs.Claim.{Keeps}
use Rattle.game.specs.Local.{Solved}
use Rattle.game.specs.Placement.{placements, at_home, shared}
use Rattle.game.specs.Setting.{Setting}
use Rattle.game.specs.Moves.{game_of}
use Rattle.game.proofs.Local.{may-train, keeps-map}
use Rattle.game.proofs.Accepted.{Facts, facts}
use Rattle.game.proofs.Moves.{inside, costs, most}
use Rattle.game.proofs.Claim.{whole}
use Rattle.game_tables.specs.Entries.{setting_at}
use Rattle.game_tables.specs.Tables.{no_figure, figure_entry, figure_in, setting_in, IsPlanEntry, Filled}
use Rattle.game_tables.specs.Find.{find}
use Rattle.game_tables.proofs.Find.{find-sound, find_none}
use Rattle.game_tables.proofs.Best.{Best, find-best}

-- THE TEST
abbrev pub is_none : Option ℕ → Bool
is_none none = true
is_none (some n) = false

abbrev pub is_some : ℕ → Option ℕ → Bool
is_some v none = false
is_some v (some w) = eqb w v

-- no figure, with the weight of a move, is larger
abbrev pub beyond : ℕ
beyond = no_figure + 255

-- figure and entry at a placement that is neither home nor lost
abbrev pub played_at : Railway → (ℕ → Option ℕ) → ℕ → Option ℕ → ℕ → Bool
played_at r F p none v = is_none (find r F p beyond) && eqb v 0
played_at r F p (some zero) v = false
played_at r F p (some (suc j)) v = is_some v (find r F p (suc j)) && is_none (find r F p j)

abbrev pub right_at : Railway → (ℕ → Option ℕ) → ℕ → Option ℕ → ℕ → Bool
right_at r F p f v = cond (shared r p) (is_none f && eqb v 0) (cond (at_home r p) (is_some 0 f && eqb v 0) (played_at r F p f v))

abbrev pub certified_at : Railway → List ℕ → List ℕ → ℕ → Bool
certified_at r figs sets p = leb (get_or figs p no_figure) no_figure && right_at r (figure_in figs) p (figure_in figs p) (get_or sets p 0)

unfoldable pub certified : Railway → List ℕ → List ℕ → Bool
certified r figs sets = all_below (certified_at r figs sets) (placements r)

-- what it says, by cases
none_of : (o : Option ℕ) → is_none o ≡ true → o ≡ none
none_of none e = refl
none_of (some n) e = clash e refl

some_of : (v : ℕ) (o : Option ℕ) → is_some v o ≡ true → o ≡ some v
some_of v none e = clash e refl
some_of v (some w) e = let z : w ≡ v = eqb-true w v e in rw z

module _ (r : Railway) (F : ℕ → Option ℕ) (p : ℕ) where
  data Right : Option ℕ → ℕ → Type 0 where
    is-lost : shared r p ≡ true → Right none 0
    is-home : shared r p ≡ false → at_home r p ≡ true → Right (some 0) 0
    no-figure : shared r p ≡ false → at_home r p ≡ false → find r F p beyond ≡ none → Right none 0
    has-figure : (j v : ℕ) → shared r p ≡ false → at_home r p ≡ false → find r F p (suc j) ≡ some v → find r F p j ≡ none → Right (some (suc j)) v

  played : (f : Option ℕ) (v : ℕ) → shared r p ≡ false → at_home r p ≡ false → played_at r F p f v ≡ true → Right f v
  played none v s h e = let b = and-true (is_none (find r F p beyond)) (eqb v 0) e in rw (eqb-true v 0 b.1) (no-figure s h (none_of (find r F p beyond) b.0))
  played (some zero) v s h e = clash e refl
  played (some (suc j)) v s h e =
      let b = and-true (is_some v (find r F p (suc j))) (is_none (find r F p j)) e in
      has-figure j v s h (some_of v (find r F p (suc j)) b.0) (none_of (find r F p j) b.1)

  right : (f : Option ℕ) (v : ℕ) → right_at r F p f v ≡ true → Right f v
  right f v e = go (shared r p) (at_home r p) refl refl e
    where
      go : (s h : Bool) → shared r p ≡ s → at_home r p ≡ h → cond s (is_none f && eqb v 0) (cond h (is_some 0 f && eqb v 0) (played_at r F p f v)) ≡ true → Right f v
      go true h es eh x = let b = and-true (is_none f) (eqb v 0) x in rw (none_of f b.0, eqb-true v 0 b.1) (is-lost es)
      go false true es eh x = let b = and-true (is_some 0 f) (eqb v 0) x in rw (some_of 0 f b.0, eqb-true v 0 b.1) (is-home es eh)
      go false false es eh x = played f v es eh x

-- an entry with a figure is that figure
pub entry-is : (x j : ℕ) → figure_entry x ≡ some j → x ≡ j
entry-is x j e = elim (bool? (eqb x no_figure)) [
  | inl y ↦ some-none e (rw y refl)
  | inr y ↦ let s : figure_entry x ≡ some x = rw y in cc
]

-- a figure that a table can hold is smaller than the number for none
pub figure-small : (x j : ℕ) → x ≤ no_figure → figure_entry x ≡ some j → j < no_figure
figure-small x j l e =
    let z : x ≡ j = entry-is x j e in
    elim (lt? x no_figure) [ inl b ↦ omega arith | inr b ↦ let y : x ≡ no_figure = omega arith in some-none e (rw (eq-eqb x no_figure y) refl) ]

module _ (r : Railway) (accepted : record_refusal r ≡ none) (figs sets : List ℕ) (c : certified r figs sets ≡ true) where
  abbrev F : ℕ → Option ℕ
  F = figure_in figs

  abbrev ok : Facts r
  ok = facts r accepted

  at : (p : ℕ) → p < placements r → (get_or figs p no_figure ≤ no_figure) × Right r (figure_in figs) p (figure_in figs p) (get_or sets p 0)
  unfolding certified
  at p l =
      let b = and-true (leb (get_or figs p no_figure) no_figure) (right_at r F p (F p) (get_or sets p 0)) (all-at (certified_at r figs sets) (placements r) c p l) in
      (leb-true (get_or figs p no_figure) no_figure b.0, right r F p (F p) (get_or sets p 0) b.1)

  -- a setting that keeps some number keeps a larger one too, and any number that no figure reaches
  keeps-at : (p : ℕ) (s : Setting) (n m : ℕ) → p < placements r → ((j w : ℕ) → j < no_figure → w ≤ 255 → 1 ≤ w → j + w ≤ n → j + w ≤ m) → Keeps (game_of r) F p s n → Keeps (game_of r) F p s m
  keeps-at p s n m l up =
      keeps-map (game_of r) F F p s n m (λ t q j a e h b. let lq : q < placements r = inside r ok p s t q l a e in (
        h,
        up j (weight_of r t) (figure-small (get_or figs q no_figure) j (at q lq).0 h)
            (most r ok t (may-train (game_of r) p s t a)) (costs r ok t (may-train (game_of r) p s t a)) b,
      ))

  module _ (p : ℕ) (l : p < placements r) where
    lost-none : (f : Option ℕ) (v : ℕ) → Right r F p f v → shared r p ≡ true → f ≡ none
    lost-none none v (is-lost s) e = refl
    lost-none none v (no-figure s h x) e = refl
    lost-none (some f) v (is-home s h) e = clash e s
    lost-none (some f) v (has-figure j w s h x y) e = clash e s

    home-zero : (f : Option ℕ) (v : ℕ) → Right r F p f v → home (game_of r) p ≡ true → f ≡ some 0
    home-zero none v (is-lost s) e = clash (and-true (not (shared r p)) (at_home r p) e).0 (rw s)
    home-zero none v (no-figure s h x) e = clash (and-true (not (shared r p)) (at_home r p) e).1 h
    home-zero (some f) v (is-home s h) e = refl
    home-zero (some f) v (has-figure j w s h x y) e = clash (and-true (not (shared r p)) (at_home r p) e).1 h

    kept : (f : Option ℕ) (v n : ℕ) → Right r F p f v → f ≡ some n → home (game_of r) p ≡ false → Keeps (game_of r) F p (setting_at r p v) n
    kept none v n x e h = some-none e refl
    kept (some f) v n (is-home s a) e h = clash (rw (s, a)) h
    kept (some f) v n (has-figure j w s a x y) e h = let z : suc j ≡ n = cc in rw z at (find-sound r F p (suc j) v x)

    least : (f : Option ℕ) (v : ℕ) (s : Setting) (n : ℕ) → Right r F p f v → over (game_of r) p ≡ false → Keeps (game_of r) F p s n → (j : ℕ) × (f ≡ some j) × (j ≤ n)
    least none v s n (is-lost e) o k = clash (rw e) o
    least none v s n (no-figure e h x) o k = absurd (find_none r F p beyond ok x s (keeps-at p s n beyond l (λ j w a b c d. omega arith) k))
    least (some f) v s n (is-home e h) o k = (0, refl, omega arith)
    least (some f) v s n (has-figure j w e h x y) o k = (
      suc j,
      refl,
      elim (lt? j n) [
        | inl b ↦ b
        | inr b ↦ absurd (find_none r F p j ok y s (keeps-at p s n j l (λ i w a a' c d. omega arith) k))
      ],
    )

    entry : (f : Option ℕ) (v : ℕ) → Right r F p f v → IsPlanEntry r F p f v
    entry none v (is-lost s) = refl
    entry none v (no-figure s h x) = refl
    entry (some f) v (is-home s h) = refl
    entry (some f) v (has-figure j w s h x y) = let b : Best r ok p F (suc j) v = find-best r ok p F (suc j) s v x in (b.plans, b.itself)

  certified-solved : Solved (game_of r) (figure_in figs) (setting_in r sets)
  certified-solved =
      record {
        lost-none = λ p l. lost-none p l (F p) (get_or sets p 0) (at p l).1;
        home-zero = λ p l. home-zero p l (F p) (get_or sets p 0) (at p l).1;
        kept = λ p n l. kept p l (F p) (get_or sets p 0) n (at p l).1;
        least = λ p s n l. least p l (F p) (get_or sets p 0) s n (at p l).1;
      }

  -- TABLES THAT PASS ARE FILLED
  pub certify : Filled r figs sets
  certify =
      record {
        figures = (whole (game_of r) (figure_in figs) (setting_in r sets) (costs r ok) (inside r ok) certified-solved).figures;
        settings = λ p l. entry p l (F p) (get_or sets p 0) (at p l).1;
      }
