-- The tables are one: whatever two solvers leave is the same at every code. A placement has one figure. Two plan settings come no later
-- than each other, so their keys are the same; the plan's setting opens one signal at most, so the lowest open train is the only one, and
-- the entries have the same bits. Assumes nothing.
use mathlib.Core.Path.{◌≡◌, refl, sym, ◌∙◌}
use mathlib.Core.Logic.{inl, inr}
use mathlib.Core.Bool.{true, false}
use mathlib.Core.List.{List}
use mathlib.Core.Option.{Option, none, some}
use Prim.Native.Nat.{ℕ, zero, suc, ◌≤◌, ◌<◌}
use native.Mathlib.Omega.{arith}
use lib.ListN.{get_or}
use lib.Dec.{eqb}
use borrow.Author.Tests.{eqb-true}
use Rattle.laws.specs.Bits.{bit, from_bits}
use Rattle.laws.proofs.Bools.{bool?, lt?, clash, some-none, and-true}
use Rattle.laws.proofs.Below.{lowest-cases, count-two}
use Rattle.laws.proofs.Bits.{bits-same}
use Rattle.railway.specs.declared.Railway.{Railway}
use Rattle.railway.specs.Bounds.{section_ends}
use Rattle.railway.specs.Ends.{end_index}
use Rattle.railway.specs.Rows.{record_refusal}
use Rattle.game.specs.Placement.{placements, shared}
use Rattle.game.specs.Setting.{Setting, heads_for, held, opens_for, signal_open}
use Rattle.game.specs.Moves.{game_of}
use Rattle.game.proofs.Local.{may-train}
use Rattle.game.proofs.Accepted.{Facts, facts}
use Rattle.game.proofs.Figures.{figure-one}
use Rattle.game_tables.specs.Entries.{setting_at, entry_from, entry_of}
use Rattle.game_tables.specs.Tables.{no_figure, figure_entry, figure_in, opens_signal, open_signals, lowest_open, point_bits, IsPlanSetting, IsPlanEntry, Filled}
use Rattle.game_tables.proofs.Entries.{own-end}
use Rattle.game_tables.proofs.Fewer.{may-cases, keeps-closed, keeps-one}
use Rattle.game_tables.proofs.Order.{Keys, keys, fewest, open-counts, Lowest, some-lowest, closed-counted, opened-counted}
use Rattle.game_tables.proofs.Carry.{entry-same-figures}
use Rattle.game_tables.proofs.Plays.{filled_apart}

module _ (r : Railway) (ok : Facts r) (p : ℕ) where
  -- the plan's setting opens one signal at most
  pub few-open : (F : ℕ → Option ℕ) (n : ℕ) (a : Setting) → IsPlanSetting r F p n a → open_signals r a ≤ 1
  few-open F n a x =
      let t : ℕ = x.keeps.one-may.0 in
      let m = x.keeps.one-may.1 in
      let l : t < r.trains = may-train (game_of r) p a t m in
      elim (may-cases r p a t m) [
        | inl f ↦
            let c : Setting = setting_at r p (entry_from r (bit (point_bits r a)) (λ u. false)) in
            omega (arith, fewest r p a c (x.earliest c (keeps-closed r ok p F n a x.keeps t l f)), closed-counted r p ok.few-points (bit (point_bits r a)))
        | inr y ↦
            let c : Setting = setting_at r p (entry_from r (bit (point_bits r a)) (eqb t)) in
            omega (arith, fewest r p a c (x.earliest c (keeps-one r ok p F n a x.keeps t l y)), opened-counted r p ok.few-points (bit (point_bits r a)) t l)
      ]

  module _ (apart : shared r p ≡ false) where
    -- with one open signal at most, the train whose signal is open is the lowest
    only : (a : Setting) → open_signals r a ≤ 1 → (t : ℕ) → t < r.trains → signal_open r p a t ≡ true → lowest_open r p a ≡ t
    unfolding open_signals signal_open
    only a few t l e =
        let s : Lowest r p a t = some-lowest r p a t l e in
        let u : ℕ = lowest_open r p a in
        let here = open-counts r p a t e in
        let there = open-counts r p a u s.opened in
        elim (lt? (end_index (heads_for r p u)) (end_index (heads_for r p t))) [
          | inl m ↦ absurd (omega (arith, count-two (opens_signal r a) section_ends (end_index (heads_for r p u)) (end_index (heads_for r p t)) m here.0 there.1 here.1))
          | inr m ↦ elim (lt? (end_index (heads_for r p t)) (end_index (heads_for r p u))) [
            | inl k ↦ absurd (omega (arith, count-two (opens_signal r a) section_ends (end_index (heads_for r p t)) (end_index (heads_for r p u)) k there.0 here.1 there.1))
            | inr k ↦ own-end r p apart u t s.below l (and-true (held r p u) (opens_for r p a u) s.opened).0 (omega arith)
          ]
        ]

    back : (b : Setting) (t : ℕ) → t < r.trains → lowest_open r p b ≡ t → signal_open r p b t ≡ true
    unfolding lowest_open
    back b t l e = elim (lowest-cases (signal_open r p b) r.trains) [
      | inl x ↦ let z : x.0 ≡ t = rw x.1 at e in rw z at x.3
      | inr x ↦ let z : r.trains ≡ t = rw x.0 at e in absurd (omega arith)
    ]

    same-open : (a b : Setting) → open_signals r a ≤ 1 → open_signals r b ≤ 1 → lowest_open r p a ≡ lowest_open r p b → (t : ℕ) → t < r.trains → signal_open r p a t ≡ signal_open r p b t
    same-open a b la lb e t l = elim (bool? (signal_open r p a t)) [
      | inl x ↦ x ∙ sym (back b t l (sym e ∙ only a la t l x))
      | inr x ↦ elim (bool? (signal_open r p b t)) [ inl y ↦ clash (back a t l (e ∙ only b lb t l y)) x | inr y ↦ x ∙ sym y ]
    ]

    -- two plan settings have one entry
    pub plan-one : (F : ℕ → Option ℕ) (n : ℕ) (a b : Setting) → IsPlanSetting r F p n a → IsPlanSetting r F p n b → entry_of r p a ≡ entry_of r p b
    unfolding entry_from
    plan-one F n a b x y =
        let k : Keys r p a b = keys r p a b (x.earliest b y.keeps) (y.earliest a x.keeps) in
        let q : from_bits a.plus r.points ≡ from_bits b.plus r.points = k.points in
        let o : from_bits (signal_open r p a) r.trains ≡ from_bits (signal_open r p b) r.trains =
        bits-same (signal_open r p a) (signal_open r p b) r.trains (same-open a b (few-open F n a x) (few-open F n b y) k.trains) in
        rw (q, o)

    -- ONE PLAN ENTRY
    pub entry-one : (F : ℕ → Option ℕ) (f : Option ℕ) (v w : ℕ) → IsPlanEntry r F p f v → IsPlanEntry r F p f w → v ≡ w
    entry-one F none v w x y = x ∙ sym y
    entry-one F (some zero) v w x y = x ∙ sym y
    entry-one F (some (suc n)) v w x y = sym x.1 ∙ plan-one F (suc n) (setting_at r p v) (setting_at r p w) x.0 y.0 ∙ y.1

-- entries of the figure table that stand for the same figure are equal
pub figure-entry-one : (x y : ℕ) → figure_entry x ≡ figure_entry y → x ≡ y
figure-entry-one x y e = elim (bool? (eqb x no_figure)) [
  | inl c ↦ elim (bool? (eqb y no_figure)) [
    | inl d ↦ eqb-true x no_figure c ∙ sym (eqb-true y no_figure d)
    | inr d ↦ let hx : figure_entry x ≡ none = rw c in let hy : figure_entry y ≡ some y = rw d in some-none hy (sym e ∙ hx)
  ]
  | inr c ↦ elim (bool? (eqb y no_figure)) [
    | inl d ↦ let hx : figure_entry x ≡ some x = rw c in let hy : figure_entry y ≡ none = rw d in some-none hx (e ∙ hy)
    | inr d ↦ let z : ◌≡◌ {A = Option ℕ} (some x) (some y) = (rw (c, d) at e) in cc
  ]
]

-- THE TABLES ARE ONE
module _ (r : Railway) (accepted : record_refusal r ≡ none) (figs sets figs' sets' : List ℕ) (a : Filled r figs sets) (b : Filled r figs' sets') where
  pub figure-same : (p : ℕ) → p < placements r → figure_in figs p ≡ figure_in figs' p
  figure-same p l = figure-one (game_of r) p (figure_in figs p) (figure_in figs' p) (a.figures p l) (b.figures p l)

  pub figs-one : (p : ℕ) → p < placements r → get_or figs p no_figure ≡ get_or figs' p no_figure
  figs-one p l = figure-entry-one (get_or figs p no_figure) (get_or figs' p no_figure) (figure-same p l)

  pub sets-one : (p : ℕ) → p < placements r → get_or sets p 0 ≡ get_or sets' p 0
  sets-one p l = go (figure_in figs p) refl
    where
      theirs : IsPlanEntry r (figure_in figs) p (figure_in figs p) (get_or sets' p 0)
      theirs = entry-same-figures r (facts r accepted) (figure_in figs') (figure_in figs) (λ q lq. sym (figure-same q lq)) p (figure_in figs p) (get_or sets' p 0) l
          (let e : figure_in figs p ≡ figure_in figs' p = figure-same p l in rw e (b.settings p l))

      go : (f : Option ℕ) → figure_in figs p ≡ f → get_or sets p 0 ≡ get_or sets' p 0
      go none e = (rw e at (a.settings p l)) ∙ sym (rw e at theirs)
      go (some n) e = entry-one r (facts r accepted) p (filled_apart r accepted figs sets a p n l e) (figure_in figs) (figure_in figs p) (get_or sets p 0) (get_or sets' p 0) (a.settings p l) theirs
