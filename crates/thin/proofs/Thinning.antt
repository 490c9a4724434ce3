-- A plan thinned in its tables. Behind thinning they list, with the same figures and points, the trains that stay open; so the plan in them passes the test, and thinned again it is as it
-- is. Assumes nothing.
use mathlib.Core.Path.{◌≡◌, refl, sym, ◌∙◌, ap, subst, fun_ext}
use mathlib.Core.Logic.{inl, inr}
use mathlib.Core.Bool.{Bool, true, false, cond}
use mathlib.Core.List.{List, ◌++◌}
use mathlib.Core.Option.{Option, none, some}
use Prim.Native.Nat.{ℕ, ◌+◌, ◌-◌, ◌≤◌, ◌<◌}
use native.Mathlib.Omega.{arith}
use lib.ListN.{length, get_or, drop, length-append, length-drop, get_or-append}
use lib.Seq.{get_or-append-add, get_or-drop, drop_at}
use Rattle.laws.specs.Below.{list_below}
use Rattle.laws.specs.Bits.{bit}
use Rattle.laws.proofs.Bools.{bool?, option?}
use Rattle.laws.proofs.Below.{list_length, list_get, list_same}
use Rattle.railway.specs.declared.Railway.{Railway}
use Rattle.game.specs.Claim.{Within, figure_of, Keeps}
use Rattle.game.specs.Placement.{placements, at_home, shared}
use Rattle.game.specs.Moves.{game_of}
use Rattle.game.proofs.Accepted.{Facts}
use Rattle.game_tables.specs.Entries.{train_bits, opens_in, setting_from, setting_at}
use Rattle.game_tables.specs.Tables.{figure_in}
use Rattle.plan.specs.Test.{Listing, listed_setting, Test, by_tables}
use Rattle.plan.proofs.Test.{SameListing, test-same}
use Rattle.thin.specs.Thinning.{stays, open_only, thinned_if, thinned_entry, thinned_table}
use Rattle.thin.proofs.Bits.{only-points, only-opens, only-twice}
use Rattle.thin.proofs.Law.{law}
use Rattle.thin.proofs.Placement.{lean, lean-signalled, fewer, still, stays-points, stays-again}

-- THE TABLE: entry by entry, and past the last code
module _ (r : Railway) (figs sets : List ℕ) where
  abbrev pub new : List ℕ
  new = thinned_table r figs sets

  pub as_long : placements r ≤ length sets → length new ≡ length sets
  as_long l =
      let n : length (list_below (thinned_entry r figs sets) (placements r)) ≡ placements r = list_length (thinned_entry r figs sets) (placements r) in
      let m : length (drop (placements r) sets) ≡ length sets - placements r = length-drop (placements r) sets in
      length-append (list_below (thinned_entry r figs sets) (placements r)) (drop (placements r) sets) ∙ omega (arith, n, m, l)

  pub entry-below : (p : ℕ) → p < placements r → get_or new p 0 ≡ thinned_entry r figs sets p
  entry-below p l =
      let n : length (list_below (thinned_entry r figs sets) (placements r)) ≡ placements r = list_length (thinned_entry r figs sets) (placements r) in
      get_or-append (list_below (thinned_entry r figs sets) (placements r)) (drop (placements r) sets) 0 p (omega (arith, n, l)) ∙ list_get (thinned_entry r figs sets) (placements r) p 0 l

  pub entry_past : placements r ≤ length sets → (p : ℕ) → placements r ≤ p → get_or new p 0 ≡ get_or sets p 0
  entry_past enough p l =
      let n : length (list_below (thinned_entry r figs sets) (placements r)) ≡ placements r = list_length (thinned_entry r figs sets) (placements r) in
      let k : ℕ = p - placements r in
      let e : p ≡ placements r + k = omega (arith, l) in
      let a : get_or (list_below (thinned_entry r figs sets) (placements r) ++ drop (placements r) sets)
      (length (list_below (thinned_entry r figs sets) (placements r)) + k) 0 ≡ get_or (drop (placements r) sets) k 0 =
      get_or-append-add (list_below (thinned_entry r figs sets) (placements r)) (drop (placements r) sets) k 0 in
      let b : get_or (drop (placements r) sets) k 0 ≡ get_or sets (placements r + k) 0 = get_or-drop (placements r) sets k 0 in
      ap (λ (q : ℕ). get_or new q 0) (e ∙ ap (λ (z : ℕ). z + k) (sym n)) ∙ a ∙ b ∙ ap (λ (q : ℕ). get_or sets q 0) (sym e)

  -- AN ENTRY, by what is listed
  module _ (p : ℕ) where
    abbrev v : ℕ
    v = get_or sets p 0

    pub entry-none : figure_in figs p ≡ none → thinned_entry r figs sets p ≡ v
    unfolding thinned_entry
    entry-none f = ap (thinned_if r p v) f

    pub entry-home : at_home r p ≡ true → thinned_entry r figs sets p ≡ v
    unfolding thinned_entry
    entry-home e = elim (option? (figure_in figs p)) [
      | inl f ↦ ap (thinned_if r p v) f
      | inr f ↦ ap (thinned_if r p v) f.1 ∙ ap (λ (b : Bool). cond b v (open_only v (stays r p (setting_at r p v)))) e
    ]

    pub entry-lean : (n : ℕ) → figure_in figs p ≡ some n → at_home r p ≡ false → thinned_entry r figs sets p ≡ open_only v (stays r p (setting_at r p v))
    unfolding thinned_entry
    entry-lean n f e = ap (thinned_if r p v) f ∙ ap (λ (b : Bool). cond b v (open_only v (stays r p (setting_at r p v)))) e

    -- the points stay in any case
    pub entry-points : (n : ℕ) → n < train_bits → bit (thinned_entry r figs sets p) n ≡ bit v n
    entry-points n l = elim (bool? (at_home r p)) [
      | inl e ↦ ap (λ (x : ℕ). bit x n) (entry-home e)
      | inr e ↦ elim (option? (figure_in figs p)) [
        | inl f ↦ ap (λ (x : ℕ). bit x n) (entry-none f)
        | inr f ↦ ap (λ (x : ℕ). bit x n) (entry-lean f.0 f.1 e) ∙ only-points v (stays r p (setting_at r p v)) n l
      ]
    ]

-- WHAT IS LISTED behind thinning: the open trains, by the figure and home; all else as it was
abbrev lean_if : Railway → Listing → ℕ → Option ℕ → Bool → ℕ → Bool
lean_if r L p none home = L.opens p
lean_if r L p (some n) true = L.opens p
lean_if r L p (some n) false = lean r p (L.plus p) (L.opens p)

abbrev thinned_list : Railway → Listing → Listing
thinned_list r L = record { figure = L.figure; opens = λ p. lean_if r L p (L.figure p) (at_home r p); plus = L.plus }

module _ (r : Railway) (L : Listing) where
  opens-home : (p n : ℕ) → L.figure p ≡ some n → at_home r p ≡ true → (thinned_list r L).opens p ≡ L.opens p
  opens-home p n f e = ap (λ (o : Option ℕ). lean_if r L p o (at_home r p)) f ∙ ap (lean_if r L p (some n)) e

  opens-lean : (p n : ℕ) → L.figure p ≡ some n → at_home r p ≡ false → (thinned_list r L).opens p ≡ lean r p (L.plus p) (L.opens p)
  opens-lean p n f e = ap (λ (o : Option ℕ). lean_if r L p o (at_home r p)) f ∙ ap (lean_if r L p (some n)) e

  -- the figure is kept: somebody still may move, and nobody more, to the same ends
  keeps-lean : (p n : ℕ) → shared r p ≡ false → Keeps (game_of r) L.figure p (setting_from r p (L.plus p) (L.opens p)) n
      → Keeps (game_of r) L.figure p (setting_from r p (L.plus p) (lean r p (L.plus p) (L.opens p))) n
  keeps-lean p n apart k =
      record {
        one-may = still r p (L.plus p) (L.opens p) k.one-may.0 k.one-may.1;
        all-within = λ t m. subst (λ o. Within n ((game_of r).weight t) (figure_of L.figure o))
            ((law r p (L.plus p) (L.opens p) (lean r p (L.plus p) (L.opens p))).ends t)
            (k.all-within t (fewer r p (L.plus p) (L.opens p) apart t m));
      }

  pub list-passes : (m : ℕ) → Test r m L → Test r m (thinned_list r L)
  unfolding listed_setting
  list-passes m h =
      record {
        start = h.start;
        apart = h.apart;
        signalled = λ p n t l e k o. elim (bool? (at_home r p)) [
          | inl y ↦ h.signalled p n t l e k (ap (λ (f : ℕ → Bool). f t) (sym (opens-home p n e y)) ∙ o)
          | inr y ↦ lean-signalled r p (L.plus p) (L.opens p) t (ap (λ (f : ℕ → Bool). f t) (sym (opens-lean p n e y)) ∙ o)
        ];
        kept = λ p n l e away. subst (λ (o : ℕ → Bool). Keeps (game_of r) L.figure p (setting_from r p (L.plus p) o) n) (sym (opens-lean p n e away))
            (keeps-lean p n (h.apart p n l e) (h.kept p n l e away));
      }

-- THE TABLES LIST THAT
module _ (r : Railway) (ok : Facts r) (figs sets : List ℕ) where
  lean-same : (p : ℕ) → lean_if r (by_tables figs sets) p (figure_in figs p) (at_home r p) ≡ opens_in (thinned_entry r figs sets p)
  unfolding setting_at
  lean-same p = elim (option? (figure_in figs p)) [
    | inl f ↦ ap (λ (o : Option ℕ). lean_if r (by_tables figs sets) p o (at_home r p)) f ∙ ap opens_in (sym (entry-none r figs sets p f))
    | inr f ↦ elim (bool? (at_home r p)) [
      | inl e ↦ opens-home r (by_tables figs sets) p f.0 f.1 e ∙ ap opens_in (sym (entry-home r figs sets p e))
      | inr e ↦ opens-lean r (by_tables figs sets) p f.0 f.1 e ∙ sym (ap opens_in (entry-lean r figs sets p f.0 f.1 e)
          ∙ fun_ext (only-opens (get_or sets p 0) (stays r p (setting_at r p (get_or sets p 0)))))
    ]
  ]

  same : SameListing r (thinned_list r (by_tables figs sets)) (by_tables figs (new r figs sets))
  same =
      record {
        figures = λ p l. refl;
        opens = λ p t l k. ap (λ (f : ℕ → Bool). f t) (lean-same p) ∙ ap (λ (x : ℕ). opens_in x t) (sym (entry-below r figs sets p l));
        plus = λ p n l k. sym (ap (λ (x : ℕ). bit x n) (entry-below r figs sets p l) ∙ entry-points r figs sets p n (omega (arith, k, ok.few-points)));
      }

  -- IT PASSES AGAIN
  pub passes-again : (m : ℕ) → Test r m (by_tables figs sets) → Test r m (by_tables figs (new r figs sets))
  passes-again m t = test-same r ok (thinned_list r (by_tables figs sets)) (by_tables figs (new r figs sets)) same m (list-passes r (by_tables figs sets) m t)

-- THINNED TWICE it is as thinned once, where no listed placement is lost
module _ (r : Railway) (figs sets : List ℕ) (apart : (p n : ℕ) → p < placements r → figure_in figs p ≡ some n → shared r p ≡ false) where
  -- an entry with one train open: the train that stays stays
  again-lean : (p w : ℕ) → shared r p ≡ false → (v : ℕ) → w ≡ open_only v (stays r p (setting_at r p v)) → open_only w (stays r p (setting_at r p w)) ≡ w
  unfolding setting_at
  again-lean p w a v e =
      let o : Option ℕ = stays r p (setting_from r p (bit v) (opens_in v)) in
      let q : opens_in w ≡ lean r p (bit v) (opens_in v) = fun_ext (λ t. ap (λ (x : ℕ). opens_in x t) e ∙ only-opens v o t) in
      let s : stays r p (setting_from r p (bit w) (opens_in w)) ≡ o =
      stays-points r p (bit w) (bit v) (opens_in w) ∙ ap (λ (f : ℕ → Bool). stays r p (setting_from r p (bit v) f)) q ∙ stays-again r p (bit v) (opens_in v) a in
      ap (open_only w) s ∙ ap (λ (x : ℕ). open_only x o) e ∙ only-twice v o o ∙ sym e

  twice : (p : ℕ) → p < placements r → thinned_entry r figs (new r figs sets) p ≡ thinned_entry r figs sets p
  twice p l =
      let b : get_or (new r figs sets) p 0 ≡ thinned_entry r figs sets p = entry-below r figs sets p l in
      elim (bool? (at_home r p)) [
        | inl e ↦ entry-home r figs (new r figs sets) p e ∙ b
        | inr e ↦ elim (option? (figure_in figs p)) [
          | inl f ↦ entry-none r figs (new r figs sets) p f ∙ b
          | inr f ↦ entry-lean r figs (new r figs sets) p f.0 f.1 e
              ∙ again-lean p (get_or (new r figs sets) p 0) (apart p f.0 l f.1) (get_or sets p 0) (b ∙ entry-lean r figs sets p f.0 f.1 e) ∙ b
        ]
      ]

  pub table-again : thinned_table r figs (new r figs sets) ≡ new r figs sets
  table-again =
      let f : list_below (thinned_entry r figs (new r figs sets)) (placements r) ≡ list_below (thinned_entry r figs sets) (placements r) =
      list_same (thinned_entry r figs (new r figs sets)) (thinned_entry r figs sets) (placements r) twice in
      let d : drop (placements r) (new r figs sets) ≡ drop (placements r) sets =
      drop_at (list_below (thinned_entry r figs sets) (placements r)) (drop (placements r) sets) (placements r) (list_length (thinned_entry r figs sets) (placements r)) in
      ap (λ (x : List ℕ). x ++ drop (placements r) (new r figs sets)) f ∙ ap (λ (x : List ℕ). list_below (thinned_entry r figs sets) (placements r) ++ x) d
