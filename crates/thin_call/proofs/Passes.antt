-- The pass over the setting table: entry after entry from the front, each thinned by what it was; and the call, by the answer of the test. Assumes nothing.
use mathlib.Core.Path.{◌≡◌, refl, sym, ◌∙◌, ap, subst}
use mathlib.Core.List.{List, [], ◌∷◌, ◌++◌, append_assoc}
use mathlib.Core.Option.{Option, none, some}
use Prim.Native.Nat.{ℕ, suc, ◌+◌, ◌≤◌, ◌<◌}
use native.Mathlib.Omega.{arith}
use native.Mathlib.Numerals.{add-one}
use lib.ListN.{length, get_or, set, drop, length-set}
use lib.Seq.{drop-cons, set_at, get_or-append-add}
use Rattle.std.specs.Prelude.{Err}
use Rattle.laws.specs.Below.{list_below}
use Rattle.laws.proofs.Bools.{some-none}
use Rattle.laws.proofs.Below.{list_length}
use Rattle.railway.specs.declared.Railway.{Railway}
use Rattle.railway.specs.declared.Refusal.{Refusal}
use Rattle.railway.specs.Refusals.{first, number_of}
use Rattle.railway.specs.Rows.{record_refusal}
use Rattle.game.specs.Placement.{placements}
use Rattle.game_tables.specs.Tables.{figure_in}
use Rattle.plan.specs.TestAnswer.{TestAnswer, Pass, Refused as TestRefused}
use Rattle.plan.specs.Checker.{Checking, test_rows, test_plan}
use Rattle.plan.specs.Promises.{TestPost}
use Rattle.railway_compiled.specs.Table.{CompilePost, compilation}
use Rattle.thin.specs.ThinAnswer.{ThinAnswer, Thinned, Refused}
use Rattle.thin.specs.Thinning.{thinned_if, thinned_entry, thinned_table, thin_number, thinned_checking, thin_leaves, thin_plan, ThinPost}
use Rattle.thin.proofs.Claims.{passed, claims}

-- THE LOOP: the entries before i are thinned, and the rest is as it was
pub record ThinnedTo (r : Railway) (figs old new : List ℕ) (i : ℕ) : Type 0 where
  pub sized : length new ≡ length old
  pub filled : new ≡ list_below (thinned_entry r figs old) i ++ drop i old

module _ (r : Railway) (figs old : List ℕ) where
  pub thin-none : ThinnedTo r figs old old 0
  unfolding list_below
  thin-none = record { sized = refl; filled = refl }

  module _ (new : List ℕ) (i : ℕ) (h : ThinnedTo r figs old new i) where
    -- what is read at i is what was there
    still-there : i < length old → get_or new i 0 ≡ get_or old i 0
    still-there l =
        let n : length (list_below (thinned_entry r figs old) i) ≡ i = list_length (thinned_entry r figs old) i in
        let e : i ≡ length (list_below (thinned_entry r figs old) i) + 0 = omega (arith, n) in
        let a : get_or (list_below (thinned_entry r figs old) i ++ drop i old) (length (list_below (thinned_entry r figs old) i) + 0) 0 ≡ get_or (drop i old) 0 0 =
        get_or-append-add (list_below (thinned_entry r figs old) i) (drop i old) 0 0 in
        let d : get_or (drop i old) 0 0 ≡ get_or old i 0 = ap (λ (xs : List ℕ). get_or xs 0 0) (drop-cons old i 0 l) in
        ap (λ (xs : List ℕ). get_or xs i 0) h.filled ∙ ap (λ (j : ℕ). get_or (list_below (thinned_entry r figs old) i ++ drop i old) j 0) e ∙ a ∙ d

    same-entry : i < length old → thinned_entry r figs new i ≡ thinned_entry r figs old i
    unfolding thinned_entry
    same-entry l = ap (λ (v : ℕ). thinned_if r i v (figure_in figs i)) (still-there l)

    pub thin-next : i < length old → (v : ℕ) → v ≡ thinned_entry r figs new i → ThinnedTo r figs old (set new i v) (i + 1)
    unfolding list_below
    thin-next l v e =
        let f : ℕ → ℕ = thinned_entry r figs old in
        let w : v ≡ f i = e ∙ same-entry l in
        let d : drop i old ≡ get_or old i 0 ∷ drop (suc i) old = drop-cons old i 0 l in
        let s : set (list_below (thinned_entry r figs old) i ++ get_or old i 0 ∷ drop (suc i) old) i v ≡ list_below (thinned_entry r figs old) i ++ v ∷ drop (suc i) old =
        set_at (list_below (thinned_entry r figs old) i) (get_or old i 0) (drop (suc i) old) v i (list_length (thinned_entry r figs old) i) in
        let t : list_below (thinned_entry r figs old) i ++ v ∷ drop (suc i) old ≡ list_below (thinned_entry r figs old) (suc i) ++ drop (suc i) old =
        sym (append_assoc (list_below (thinned_entry r figs old) i) (v ∷ []) (drop (suc i) old)) ∙ ap (λ (x : ℕ). (list_below (thinned_entry r figs old) i ++ (x ∷ [])) ++ drop (suc i) old) w in
        let k : suc i ≡ i + 1 = sym (add-one i) in
        record {
          sized = length-set new i v ∙ h.sized;
          filled =
              ap (λ (xs : List ℕ). set xs i v) h.filled ∙ ap (λ (xs : List ℕ). set (list_below (thinned_entry r figs old) i ++ xs) i v) d ∙ s ∙ t
              ∙ ap (λ (j : ℕ). list_below (thinned_entry r figs old) j ++ drop j old) k;
        }

    -- the same, of what is put
    pub thin-put : {n : ℕ} → n ≡ placements r → placements r ≤ length old → i < n → (v : ℕ) → v ≡ thinned_entry r figs new i → (put : List ℕ) → put ≡ set new i v → ThinnedTo r figs old put (i + 1)
    thin-put e enough l v h' put is = subst (λ (xs : List ℕ). ThinnedTo r figs old xs (i + 1)) (sym is) (thin-next (omega (arith, e, enough, l)) v h')

    pub thin-all : i ≡ placements r → new ≡ thinned_table r figs old
    thin-all k = h.filled ∙ ap (λ (j : ℕ). list_below (thinned_entry r figs old) j ++ drop j old) k

-- to put an entry changes no length
pub put-length : (old new put : List ℕ) (i v : ℕ) → put ≡ set new i v → length new ≡ length old → length put ≡ length old
put-length old new put i v e l = ap (λ (xs : List ℕ). length xs) e ∙ length-set new i v ∙ l

-- THE CALL, of a checker with tables that has been tested
module _ (r : Railway) (c : Checking) (t : TestAnswer) (d : Checking) (post : TestPost r c t d) where
  state-same : d.state ≡ c.state
  unfolding test_plan
  state-same = ap (λ (x : Checking). x.state) post.checking

  -- what a call hands back that answers as it should and leaves what it should keeps the promise
  keeps : (a : ThinAnswer) (new : Checking) → a ≡ (thin_plan r c).answer → new ≡ (thin_plan r c).checking → ThinPost r c a new
  unfolding thin_plan
  keeps a new e k = record { answer = e; numbered = ap thin_number e ∙ number_same (first (test_rows r c)); checking = k }
    where
      number_same : (o : Option Refusal) → thin_number (thin_leaves c (thinned_checking r c) o).answer ≡ number_of o
      number_same none = refl
      number_same (some f) = refl

  pub thin-refused : (f : Refusal) → t ≡ TestRefused f → (a : ThinAnswer) (new : Checking) → a ≡ Refused f → new.state ≡ d.state → new.figs ≡ c.figs → new.sets ≡ c.sets → ThinPost r c a new
  thin-refused f e a new q s x y =
      let w : (thin_plan r c).answer ≡ Refused f = ((claims r c).refused f).1 (sym post.answer ∙ e) in
      let k : new ≡ c = (λ i. record { state = (s ∙ state-same) i; figs = x i; sets = y i }) in
      keeps a new (q ∙ sym w) (k ∙ sym ((claims r c).kept f w))

  module _ (e : t ≡ Pass) where
    passes : (test_plan r c).answer ≡ Pass
    passes = sym post.answer ∙ e

    pub thin-accepted : record_refusal r ≡ none
    thin-accepted = (passed r c passes).accepted

    -- so that it is not refused as a record
    pub not_compiled : {A : Type 0} (f : Refusal) → CompilePost r (compilation (Err f)) → A
    not_compiled f x = some-none refl (x.judged ∙ ap number_of thin-accepted)

    pub thin-enough : placements r ≤ length c.sets
    thin-enough = (passed r c passes).enough

    thinned-is : (thin_plan r c).checking ≡ thinned_checking r c
    unfolding thin_plan test_plan
    thinned-is = ap (λ (o : Option Refusal). (thin_leaves c (thinned_checking r c) o).checking) (no_row (first (test_rows r c)) ((claims r c).passed.1 passes))
      where
        no_row : (o : Option Refusal) → (thin_leaves c (thinned_checking r c) o).answer ≡ Thinned → o ≡ none
        no_row none e = refl
        no_row (some f) e = absurd (differ e)
          where
            which : ThinAnswer → ℕ
            which Thinned = 0
            which (Refused f) = 1

            differ : Refused f ≡ Thinned → ⊥
            differ e = let z : ◌≡◌ {A = ℕ} 1 0 = ap which e in absurd (omega arith)

    pub thin-done : (a : ThinAnswer) (new : Checking) → a ≡ Thinned → new.state ≡ d.state → new.figs ≡ c.figs → new.sets ≡ thinned_table r c.figs c.sets → ThinPost r c a new
    thin-done a new q s x y =
        let k : new ≡ thinned_checking r c = (λ i. record { state = (s ∙ state-same) i; figs = x i; sets = y i }) in
        keeps a new (q ∙ sym ((claims r c).passed.1 passes)) (k ∙ sym thinned-is)
