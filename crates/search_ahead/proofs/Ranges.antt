-- Codes in a range that are looked at for one weight: code after code, stretch after stretch. What is not due has
-- nothing of the frontier. Assumes nothing.
use mathlib.Core.Path.{◌≡◌, ap}
use mathlib.Core.Logic.{◌⊎◌, inl, inr}
use mathlib.Core.Bool.{false}
use mathlib.Core.List.{List}
use Prim.Native.Nat.{ℕ, ◌+◌, ◌-◌, ◌*◌, ◌≤◌, ◌<◌}
use native.Mathlib.Omega.{arith}
use lib.ListN.{get_or}
use lib.Dec.{eqb}
use borrow.Author.Tests.{le-ltb}
use Rattle.laws.proofs.Bools.{lt?, and-off}
use Rattle.railway.specs.declared.Railway.{Railway}
use Rattle.railway.specs.Record.{weight_of}
use Rattle.game.specs.Placement.{placements}
use Rattle.game_tables.specs.Tables.{no_figure}
use Rattle.solver_marks.specs.Marks.{stretch_of, stretches, due_at}
use Rattle.solver_rounds.specs.Visits.{passed_by, since, First, MarkedFor, Ahead}
use Rattle.solver_rounds.proofs.Entries.{entry-is}

module _ {r : Railway} {n w : ℕ} {figs : List ℕ} where
  -- those below c, or those from c on
  pub codes-part : {from upto q : ℕ} (c : ℕ) → Ahead r n w figs from upto q
      → Ahead r n w figs from c q ⊎ Ahead r n w figs c upto q
  codes-part c k = elim (lt? k.code c) [
    | inl h ↦ inl (record {
      code = k.code;
      after = k.after;
      within = h;
      figure = k.figure;
      makes = k.makes;
      stands = k.stands;
      comes = k.comes;
    })
    | inr h ↦ inr (record {
      code = k.code;
      after = h;
      within = k.within;
      figure = k.figure;
      makes = k.makes;
      stands = k.stands;
      comes = k.comes;
    })
  ]

  -- one code, with another figure than the one that makes n
  pub other-figure : {q : ℕ} (c e : ℕ) → e ≡ get_or figs c no_figure → (e ≡ n - w → ⊥) → Ahead r n w figs c (c + 1) q → ⊥
  other-figure c e is other k =
      let z : k.code ≡ c = omega (arith, k.after, k.within) in
      let f : get_or figs c no_figure ≡ k.figure = entry-is (get_or figs c no_figure) k.figure (rw z at k.stands) in
      other (omega (arith, k.makes))

-- the same weight, by another name
pub same-weight : {r : Railway} {n v w : ℕ} {figs : List ℕ} {from upto q : ℕ} → v ≡ w → Ahead r n w figs from upto q
    → Ahead r n v figs from upto q
same-weight e k = rw e k

-- A STRETCH THAT IS NOT DUE by the weight of train t, when nothing has had its turn
none_passed : (t q : ℕ) → passed_by (record { train = 0; code = 0 }) t q ≡ false
none_passed t q = rw (le-ltb t 0 (omega arith), le-ltb q 0 (omega arith)) (and-off (eqb t 0))

since-first : (n t q : ℕ) → since n (record { train = 0; code = 0 }) t q ≡ n
since-first n t q = rw (none_passed t q)

pub not-due : {r : Railway} {n : ℕ} {figs marks : List ℕ} {c upto q : ℕ} → MarkedFor r n figs marks → (t : ℕ)
    → t < r.trains → First r t → (due : ℕ) → upto ≤ placements r
    → ((q : ℕ) → c ≤ q → q < upto → stretch_of q ≡ stretch_of c) → due ≡ due_at marks t c → n < due
    → Ahead r n (weight_of r t) figs c upto q → ⊥
not-due {r} {n} {marks = marks} {c = c} o t runs first due l own is late h =
    let here : due_at marks t h.code ≡ due_at marks t c =
    ap (λ (i : ℕ). get_or marks (t * stretches + i) 0) (own h.code h.after h.within) in
    let b : due_at marks t h.code ≤ h.figure + weight_of r t =
    o.due h.code h.figure t (omega (arith, h.within)) runs first h.stands
    (rw (since-first n t h.code) (omega (arith, h.makes))) in
    omega (arith, h.makes)
