-- What each return of `open_case` keeps: the record's own refusal, space where a table is too short for the placements, and else nothing refused.
-- Assumes nothing.
use mathlib.Core.Path.{◌≡◌, ◌∙◌}
use mathlib.Core.Logic.{◌⊎◌, inl, inr}
use mathlib.Core.Bool.{true}
use mathlib.Core.List.{List}
use mathlib.Core.Option.{none, some}
use Prim.Native.Nat.{ℕ, ◌≤◌, ◌<◌}
use lib.ListN.{length, replicate}
use lib.Dec.{ltb}
use borrow.Author.Tests.{lt-ltb}
use Rattle.laws.proofs.Bools.{some-none, or_left, or_right}
use Rattle.railway.specs.declared.Railway.{Railway}
use Rattle.railway.specs.declared.Refusal.{Refusal}
use Rattle.railway.specs.declared.Refusal.TheVariants.{Space}
use Rattle.railway.specs.Rows.{record_refusal}
use Rattle.railway.specs.CaseAnswer.{Accepted, Refused}
use Rattle.railway_acceptance.proofs.Answers.{judged-refused, judged-accepted}
use Rattle.game.specs.Placement.{placements}
use Rattle.game_tables.specs.Tables.{tables_short, case_refusal}
use Rattle.game_tables.proofs.Refusals.{case-record, case-accepted, case-none}
use Rattle.railway_compiled.specs.Compilation.{Compilation}
use Rattle.railway_compiled.specs.Table.{Compiled, CompilePost, table_bytes}
use Rattle.game_case.specs.Cases.{CasePost}

module _ (r : Railway) (figs sets : List ℕ) where
  -- refused, with a table of zeros
  refuses : (c : Compilation) (f : Refusal) → c.tested ≡ Refused f → case_refusal r figs sets ≡ some f → c.table ≡ replicate table_bytes 0 → CasePost r figs sets c
  refuses c f given due zeros = record { numbered = rw (given, due); compiled = λ e. some-none due e; zero = λ g e. zeros }

  -- the record is refused
  pub record-refused : (c : Compilation) (f : Refusal) → CompilePost r c → c.tested ≡ Refused f → CasePost r figs sets c
  record-refused c f p e =
      let due : record_refusal r ≡ some f = judged-refused r p.judged e in
      refuses c f e (case-record r figs sets f due) (p.refused f due)

  pub accepted : (c : Compilation) → CompilePost r c → c.tested ≡ Accepted → record_refusal r ≡ none
  accepted c p e = judged-accepted r p.judged e

  -- a table is too short
  is-short : (length figs < placements r) ⊎ (length sets < placements r) → tables_short r figs sets ≡ true
  unfolding tables_short
  is-short (inl x) = or_left (ltb (length figs) (placements r)) (ltb (length sets) (placements r)) (lt-ltb (length figs) (placements r) x)
  is-short (inr x) = or_right (ltb (length figs) (placements r)) (ltb (length sets) (placements r)) (lt-ltb (length sets) (placements r) x)

  -- the placements are counted by the table of the compiled railway
  module _ (c : Compilation) (p : CompilePost r c) (e : c.tested ≡ Accepted) (n : ℕ) (counts : (q : Railway) → Compiled q c.table → n ≡ placements q) where
    counted : n ≡ placements r
    counted = counts r (p.accepted (accepted c p e))

    due-space : (length figs < n) ⊎ (length sets < n) → case_refusal r figs sets ≡ some Space
    due-space x = case-accepted r figs sets (accepted c p e) ∙ rw (is-short (rw counted at x))

    pub too_short : (length figs < n) ⊎ (length sets < n) → (d : Compilation) → (d.tested ≡ Refused Space) × (d.table ≡ replicate table_bytes 0) → CasePost r figs sets d
    too_short x d y = refuses d Space y.0 (due-space x) y.1

    -- nothing is refused
    pub opened : n ≤ length figs → n ≤ length sets → CasePost r figs sets c
    opened lf ls =
        let a : record_refusal r ≡ none = accepted c p e in
        let fine : case_refusal r figs sets ≡ none = (case-none r figs sets).1 (a, record { figures = rw counted at lf; settings = rw counted at ls }) in
        record { numbered = rw (e, fine); compiled = λ x. p.accepted a; zero = λ g x. some-none x fine }
