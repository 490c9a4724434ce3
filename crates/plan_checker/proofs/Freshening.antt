-- Tables made fresh: filled from the front, up to the number of placements. Assumes nothing.
use mathlib.Core.Path.{◌≡◌, sym, ◌∙◌, ap}
use mathlib.Core.List.{List, ◌++◌}
use Prim.Native.Nat.{ℕ, ◌≤◌}
use lib.ListN.{length, replicate, take, drop}
use Rattle.std.proofs.Common.{length-take-le}
use Rattle.railway.specs.declared.Railway.{Railway}
use Rattle.railway.specs.CaseAnswer.{CaseAnswer, Accepted}
use Rattle.railway.specs.Refusals.{number_given}
use Rattle.game.specs.Placement.{placements}
use Rattle.game_tables.specs.Tables.{no_figure, case_refusal}
use Rattle.game_tables.proofs.Refusals.{case-none}
use Rattle.plan.specs.declared.CheckerState.TheVariants.{Fresh}
use Rattle.plan.specs.Checker.{Checking, freshened}
use Rattle.plan.specs.Promises.{FreshPost}
use Rattle.railway_compiled.specs.Compilation.{Compilation}
use Rattle.railway_compiled.specs.Table.{Compiled}
use Rattle.game_case.specs.Cases.{CasePost}
use Rattle.game_case.proofs.Cases.{opened-none, opened-table}

-- THE PART IN FRONT, filled
pub front_long : (n : ℕ) (old : List ℕ) → n ≤ length old → n ≡ length (take n old)
front_long n old l = sym (length-take-le n old l)

module _ (n v : ℕ) (old : List ℕ) (l : n ≤ length old) where
  pub front-filled : {new : List ℕ} → new ≡ replicate (length (take n old)) v → new ++ drop n old ≡ replicate n v ++ drop n old
  front-filled e = rw (e, length-take-le n old l)

-- THE CALL: refused, or both tables filled
module _ (r : Railway) (figs sets : List ℕ) {o : Compilation} (opened : CasePost r figs sets o) where
  module _ (e : o.tested ≡ Accepted) (n : ℕ) (m : (r : Railway) → Compiled r o.table → n ≡ placements r) where
    counted : n ≡ placements r
    counted = m r (opened-table opened e)

    pub enough : (n ≤ length figs) × (n ≤ length sets)
    enough = let k = (case-none r figs sets).0 (opened-none opened e) in (rw counted k.1.figures, rw counted k.1.settings)

    pub fresh-filled : (a : CaseAnswer) (c : Checking) → a ≡ Accepted → c.state ≡ Fresh
        → c.figs ≡ replicate n no_figure ++ drop n figs → c.sets ≡ replicate n 0 ++ drop n sets → FreshPost r figs sets a c
    fresh-filled a c q s x y =
        let w : c ≡ record { state = Fresh; figs = replicate n no_figure ++ drop n figs; sets = replicate n 0 ++ drop n sets } =
        λ i. record { state = s i; figs = x i; sets = y i } in
        let p : record { state = Fresh; figs = replicate n no_figure ++ drop n figs; sets = replicate n 0 ++ drop n sets } ≡ freshened r figs sets (case_refusal r figs sets) =
        (λ i. record { state = Fresh; figs = replicate (counted i) no_figure ++ drop (counted i) figs; sets = replicate (counted i) 0 ++ drop (counted i) sets })
        ∙ ap (freshened r figs sets) (sym (opened-none opened e)) in
        record { numbered = ap number_given (q ∙ sym e) ∙ opened.numbered; checking = w ∙ p }
