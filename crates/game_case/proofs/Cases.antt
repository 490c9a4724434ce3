-- What a call knows of the case that it has opened with two tables, by whether it was accepted. Assumes nothing.
use mathlib.Core.Path.{◌≡◌, sym, ◌∙◌, ap}
use mathlib.Core.List.{List}
use mathlib.Core.Option.{none, some}
use Prim.Native.Nat.{ℕ}
use Rattle.railway.specs.declared.Railway.{Railway}
use Rattle.railway.specs.declared.Refusal.{Refusal}
use Rattle.railway.specs.CaseAnswer.{Accepted, Refused}
use Rattle.railway.specs.Refusals.{number_given}
use Rattle.railway.proofs.Refusals.{number-tells}
use Rattle.game_tables.specs.Tables.{case_refusal}
use Rattle.railway_compiled.specs.Compilation.{Compilation}
use Rattle.railway_compiled.specs.Table.{Compiled}
use Rattle.game_case.specs.Cases.{CasePost}

module _ {r : Railway} {figs sets : List ℕ} {c : Compilation} (p : CasePost r figs sets c) where
  pub opened-refused : {f : Refusal} → c.tested ≡ Refused f → case_refusal r figs sets ≡ some f
  opened-refused {f} e = number-tells (case_refusal r figs sets) (some f) (sym p.numbered ∙ ap number_given e)

  pub opened-none : c.tested ≡ Accepted → case_refusal r figs sets ≡ none
  opened-none e = number-tells (case_refusal r figs sets) none (sym p.numbered ∙ ap number_given e)

  pub opened-table : c.tested ≡ Accepted → Compiled r c.table
  opened-table e = p.compiled (opened-none e)
