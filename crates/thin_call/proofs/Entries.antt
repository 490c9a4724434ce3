-- One entry thinned: the bit of a train, the lowest train that may move, and what becomes of an entry by what code has looked at. Assumes nothing.
use mathlib.Core.Path.{◌≡◌, refl, sym, ◌∙◌, ap}
use mathlib.Core.Logic.{inl, inr}
use mathlib.Core.Bool.{Bool, true, false, cond}
use mathlib.Core.List.{List}
use mathlib.Core.Option.{none, some}
use Prim.Native.Nat.{ℕ, zero, suc, ◌+◌, ◌*◌, ◌%◌, ◌^◌, ◌≤◌, ◌<◌}
use native.Mathlib.Omega.{arith}
use lib.ListN.{get_or}
use lib.Pow.{pow-add}
use lib.Dec.{eqb}
use borrow.Author.Tests.{eq-eqb, ne_eqb}
use Rattle.laws.specs.Below.{any_below, lowest}
use Rattle.laws.proofs.Bools.{clash, lt?}
use Rattle.laws.proofs.Below.{any_false, any-one, lowest-cases, lowest-least}
use Rattle.railway.specs.declared.Railway.{Railway}
use Rattle.railway.specs.Bounds.{most_trains}
use Rattle.game.specs.Placement.{at_home}
use Rattle.game.specs.Setting.{free}
use Rattle.game.specs.Game.{may}
use Rattle.game.specs.Moves.{game_of}
use Rattle.game_tables.specs.Entries.{train_bits, setting_at}
use Rattle.game_tables.specs.Tables.{no_figure, figure_in}
use Rattle.thin.specs.Thinning.{some_free, stays, open_bit, open_only, thinned_if, thinned_entry}

-- THE BIT of a train
shifted : (t : ℕ) → t < most_trains → ((1 * 2 ^ t) % 4294967296 ≡ 2 ^ t) × (2 ^ t ≤ 8)
shifted zero l = (refl, omega arith)
shifted (suc zero) l = (refl, omega arith)
shifted (suc (suc zero)) l = (refl, omega arith)
shifted (suc (suc (suc zero))) l = (refl, omega arith)
shifted (suc (suc (suc (suc t)))) l = absurd (omega arith)

pub bit-small : (t : ℕ) → t < most_trains → 65536 * ((1 * 2 ^ t) % 4294967296) ≤ 524288
bit-small t l = let s = shifted t l in omega (arith, s.0, s.1)

pub bit_is : (t : ℕ) → t < most_trains → 65536 * ((1 * 2 ^ t) % 4294967296) ≡ 2 ^ (train_bits + t)
bit_is t l = ap (λ (x : ℕ). 65536 * x) (shifted t l).0 ∙ sym (pow-add 2 train_bits t)

-- THE LOWEST: the first that passes behind those that do not; none, where none does
pub lowest-first : (f : ℕ → Bool) (n t : ℕ) → any_below f t ≡ false → t < n → f t ≡ true → lowest f n ≡ some t
lowest-first f n t before l e = elim (lowest-cases f n) [
  | inl w ↦
      let a : w.0 ≤ t = lowest-least f n w.0 w.1 t e l in
      elim (lt? w.0 t) [
        | inl m ↦ clash w.3 (any_false f t before w.0 m)
        | inr m ↦ (let z : w.0 ≡ t = omega arith in w.1 ∙ ap (λ (n : ℕ). some n) z)
      ]
  | inr w ↦ clash e (w.1 t l)
]

pub lowest-none : (f : ℕ → Bool) (n : ℕ) → any_below f n ≡ false → lowest f n ≡ none
lowest-none f n e = elim (lowest-cases f n) [
  | inl w ↦ clash w.3 (any_false f n e w.0 w.2)
  | inr w ↦ w.0
]

-- as a bit, k being the count that code has
module _ (f : ℕ → Bool) {n k : ℕ} (e : k ≡ n) where
  pub first_bit : n ≤ most_trains → (t : ℕ) → any_below f t ≡ false → t < k → f t ≡ true → (b : ℕ) → (t < most_trains → b ≡ 2 ^ (train_bits + t)) → b ≡ open_bit (lowest f n)
  first_bit few t before l h b is = let m : t < n = rw (← e) l in is (omega (arith, m, few)) ∙ ap open_bit (sym (lowest-first f n t before m h))

  pub no-bit : any_below f k ≡ false → 0 ≡ open_bit (lowest f n)
  no-bit before = ap open_bit (sym (lowest-none f n (rw e at before)))

-- a train below the count that code has is there
pub within : {n k : ℕ} → k ≡ n → (i : ℕ) → i < k → i < n
within e i l = rw (← e) l

-- SOME TRAIN FREE
module _ (r : Railway) (p : ℕ) {k : ℕ} (e : k ≡ r.trains) where
  pub one_free : (t : ℕ) → t < k → free r p t ≡ true → true ≡ some_free r p
  unfolding some_free
  one_free t l h = any-one (free r p) r.trains t (rw (← e) l) h

  pub none_free : any_below (free r p) k ≡ false → false ≡ some_free r p
  unfolding some_free
  none_free h = sym (rw e at h)

-- AN ENTRY THINNED, by whether some train is free
module _ (r : Railway) (p v : ℕ) (b : Bool) (is : b ≡ some_free r p) where
  pub lean-free : b ≡ true → v % 65536 ≡ open_only v (stays r p (setting_at r p v))
  unfolding stays
  lean-free y = let z : some_free r p ≡ true = sym is ∙ y in rw z (omega arith)

  pub lean-held : b ≡ false → (x : ℕ) → x ≡ open_bit (lowest (may (game_of r) p (setting_at r p v)) r.trains) → v % 65536 + x ≡ open_only v (stays r p (setting_at r p v))
  unfolding stays
  lean-held y x e = let z : some_free r p ≡ false = sym is ∙ y in rw (z, e) refl

-- AN ENTRY, by what is listed
module _ (r : Railway) (figs sets : List ℕ) (p v n : ℕ) (is : v ≡ get_or sets p 0) (fig : n ≡ get_or figs p no_figure) where
  not_listed : n ≡ no_figure → figure_in figs p ≡ none
  not_listed e = let z : eqb (get_or figs p no_figure) no_figure ≡ true = eq-eqb (get_or figs p no_figure) no_figure (sym fig ∙ e) in rw z refl

  is-listed : (n ≡ no_figure → ⊥) → figure_in figs p ≡ some n
  is-listed e = let z : eqb (get_or figs p no_figure) no_figure ≡ false = ne_eqb (get_or figs p no_figure) no_figure (λ w. e (fig ∙ w)) in rw z (ap (λ (x : ℕ). some x) (sym fig))

  pub entry-unlisted : n ≡ no_figure → v ≡ thinned_entry r figs sets p
  unfolding thinned_entry
  entry-unlisted e = is ∙ sym (ap (thinned_if r p (get_or sets p 0)) (not_listed e))

  module _ (e : n ≡ no_figure → ⊥) (h : Bool) (home : h ≡ at_home r p) where
    pub entry-home : h ≡ true → v ≡ thinned_entry r figs sets p
    unfolding thinned_entry
    entry-home y =
        is
        ∙ sym (ap (thinned_if r p (get_or sets p 0)) (is-listed e)
        ∙ ap (λ (b : Bool). cond b (get_or sets p 0) (open_only (get_or sets p 0) (stays r p (setting_at r p (get_or sets p 0))))) (sym home ∙ y))

    pub entry-lean : h ≡ false → (x : ℕ) → x ≡ open_only v (stays r p (setting_at r p v)) → x ≡ thinned_entry r figs sets p
    unfolding thinned_entry
    entry-lean y x l =
        l
        ∙ ap (λ (w : ℕ). open_only w (stays r p (setting_at r p w))) is
        ∙ sym (ap (thinned_if r p (get_or sets p 0)) (is-listed e)
        ∙ ap (λ (b : Bool). cond b (get_or sets p 0) (open_only (get_or sets p 0) (stays r p (setting_at r p (get_or sets p 0))))) (sym home ∙ y))
